-- Where each of t numbers is given one of n places, and no two the same, there are no more numbers than places. Assumes nothing.
use mathlib.Core.Path.{◌≡◌, sym, ◌∙◌}
use mathlib.Core.Bool.{cond}
use Prim.Native.Nat.{ℕ, zero, suc, ◌≤◌, ◌<◌}
use native.Mathlib.Decide.{ℕ_discrete}
use native.Mathlib.Omega.{arith}
use borrow.Author.Tests.{eq-eqb, ne_eqb}
use lib.Dec.{eqb}

-- the last place is given up for another, `free`, which none of the others has
abbrev moved : ℕ → ℕ → ℕ → ℕ
moved n free v = cond (eqb v n) free v

at_last : (n free v : ℕ) → v ≡ n → moved n free v ≡ free
at_last n free v e = rw (eq-eqb v n e)

elsewhere : (n free v : ℕ) → (v ≡ n → ⊥) → moved n free v ≡ v
elsewhere n free v e = rw (ne_eqb v n e)

moved_small : (n free v : ℕ) → v < suc n → free < suc n → (v ≡ free → ⊥) → moved n free v < n
moved_small n free v a b d = go (ℕ_discrete v n)
  where
    go : Dec (v ≡ n) → moved n free v < n
    go (yes e) = rw (at_last n free v e) (omega (arith, d))
    go (no e) = rw (elsewhere n free v e) (omega (arith, e))

moved_apart : (n free v w : ℕ) → (v ≡ free → ⊥) → (w ≡ free → ⊥) → moved n free v ≡ moved n free w → v ≡ w
moved_apart n free v w a b e = go (ℕ_discrete v n) (ℕ_discrete w n)
  where
    go : Dec (v ≡ n) → Dec (w ≡ n) → v ≡ w
    go (yes p) (yes q) = p ∙ sym q
    go (yes p) (no q) = absurd (b (sym (elsewhere n free w q) ∙ sym e ∙ at_last n free v p))
    go (no p) (yes q) = absurd (a (sym (elsewhere n free v p) ∙ e ∙ at_last n free w q))
    go (no p) (no q) = sym (elsewhere n free v p) ∙ e ∙ elsewhere n free w q

up : {k t : ℕ} → k < t → k < suc t
up l = omega arith

own : (t : ℕ) → t < suc t
own t = omega arith

pub no_more : (t n : ℕ) (place : (k : ℕ) → k < t → ℕ) → ((k : ℕ) (l : k < t) → place k l < n) → ((j k : ℕ) (lj : j < t) (lk : k < t) → place j lj ≡ place k lk → j ≡ k) → t ≤ n
no_more zero n place small apart = omega arith
no_more (suc t) zero place small apart = absurd (omega (arith, small t (own t)))
no_more (suc t) (suc n) place small apart =
    let free : ℕ = place t (own t) in
    let other : (k : ℕ) (l : k < t) → place k (up l) ≡ free → ⊥ = λ k l e. omega (arith, apart k t (up l) (own t) e) in
    omega (
      arith,
      no_more t n (λ k l. moved n free (place k (up l)))
          (λ k l. moved_small n free (place k (up l)) (small k (up l)) (small t (own t)) (other k l))
          (λ j k lj lk e. apart j k (up lj) (up lk) (moved_apart n free (place j (up lj)) (place k (up lk)) (other j lj) (other k lk) e)),
    )
