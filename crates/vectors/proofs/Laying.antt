-- A loop that lays elements from the front: one more store lays one more. Assumes nothing.
use mathlib.Core.Path.{◌≡◌, sym, ◌∙◌, subst}
use mathlib.Core.List.{List}
use Prim.Native.Nat.{ℕ, ◌+◌, ◌<◌}
use native.Mathlib.Decide.{ℕ_discrete, dec_lt}
use native.Mathlib.Omega.{arith}
use lib.ListN.{length, get_or, set, length-set}
use lib.Seq.{ext_get_or, get_or-set_same, get_or-set_other}
use Rattle.vectors.specs.inner.Lists.{Laid}

module _ {A : Type 0} {blank : A} where
  pub laid_more : {xs ys : List A} {n : ℕ} {f : ℕ → A} (v : A) → Laid blank xs ys n f → n < length ys → v ≡ f n → Laid blank xs (set ys n v) (n + 1) f
  laid_more {xs} {ys} {n} {f} v q h e = record {
    len = length-set ys n v ∙ q.len;
    laid = λ k b. go k b (ℕ_discrete k n);
    rest = λ k b. get_or-set_other ys n k v blank (λ s. absurd (omega arith)) ∙ q.rest k (omega arith);
  }
    where
      go : (k : ℕ) → k < n + 1 → Dec (k ≡ n) → get_or (set ys n v) k blank ≡ f k
      go k b (yes s) = subst (λ (j : ℕ). get_or (set ys n v) j blank ≡ f j) (sym s) (get_or-set_same ys n v blank h ∙ e)
      go k b (no s) = get_or-set_other ys n k v blank s ∙ q.laid k (omega (arith, s))

  -- what is laid leaves one list
  pub determined : {xs ys zs : List A} {n : ℕ} {f : ℕ → A} → Laid blank xs ys n f → Laid blank xs zs n f → ys ≡ zs
  determined {xs} {ys} {zs} {n} {f} p q = ext_get_or blank ys zs (p.len ∙ sym q.len) (λ k h. go k (dec_lt k n))
    where
      go : (k : ℕ) → Dec (k < n) → get_or ys k blank ≡ get_or zs k blank
      go k (yes l) = p.laid k l ∙ sym (q.laid k l)
      go k (no l) = p.rest k (omega (arith, l)) ∙ sym (q.rest k (omega (arith, l)))
