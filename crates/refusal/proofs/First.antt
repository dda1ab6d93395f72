-- "First offender, or none" has one answer, and `first_of` computes it. Assumes nothing.
use mathlib.Core.Path.{◌≡◌, refl, sym, ◌∙◌}
use mathlib.Core.Bool.{Bool, true, false, cond, false≢true}
use Prim.Native.Nat.{ℕ, zero, suc, zero-le, suc-le-suc, ◌<◌, ◌≤◌}
use native.Mathlib.Nat.{lt_of_lt_of_le, le_of_suc-le-suc, not-suc-le-zero, le_of_lt, not-le_of_lt}
use native.Mathlib.Omega.{arith}
use borrow.Author.Tests.{ltb-true, ltb-false}
use lib.Dec.{ltb}
use Rattle.refusal.specs.First.{First, first_of}

-- of two answers neither is the lower: it would offend, and be clear
not_lower : (offends : ℕ → Bool) (n a b : ℕ) → First offends n a → First offends n b → a < b → ⊥
not_lower offends n a b p q h = false≢true (sym (q.clear a h) ∙ p.hit (lt_of_lt_of_le h q.reach))

pub determined : (offends : ℕ → Bool) (n a b : ℕ) → First offends n a → First offends n b → a ≡ b
determined offends n a b p q = go (ltb a b) (ltb b a) refl refl
  where
    go : (s t : Bool) → ltb a b ≡ s → ltb b a ≡ t → a ≡ b
    go true t e f = absurd (not_lower offends n a b p q (ltb-true a b e))
    go false true e f = absurd (not_lower offends n b a q p (ltb-true b a f))
    go false false e f = omega (arith, ltb-false a b e, ltb-false b a f)

-- the answer one place further on, where place 0 does not offend
shifted : (offends : ℕ → Bool) (n r : ℕ) → offends zero ≡ false → First (λ (k : ℕ). offends (suc k)) n r → First offends (suc n) (suc r)
shifted offends n r e p =
    record {
      reach = suc-le-suc p.reach;
      clear = λ k h. below k h;
      hit = λ h. p.hit (le_of_suc-le-suc h);
    }
  where
    below : (k : ℕ) → k < suc r → offends k ≡ false
    below zero h = e
    below (suc k) h = p.clear k (le_of_suc-le-suc h)

pub first_of_is : (offends : ℕ → Bool) (n : ℕ) → First offends n (first_of offends n)
unfolding first_of
first_of_is offends zero = record { reach = zero-le; clear = λ k h. absurd (not-suc-le-zero h); hit = λ h. absurd (not-suc-le-zero h) }
first_of_is offends (suc n) = go (offends zero) refl (first_of_is (λ (k : ℕ). offends (suc k)) n)
  where
    go : (b : Bool) → offends zero ≡ b → First (λ (k : ℕ). offends (suc k)) n (first_of (λ (k : ℕ). offends (suc k)) n) → First offends (suc n) (cond (offends zero) zero (suc (first_of (λ (k : ℕ). offends (suc k)) n)))
    go true e p = rw e (record { reach = zero-le; clear = λ k h. absurd (not-suc-le-zero h); hit = λ h. e })
    go false e p = rw e (shifted offends n (first_of (λ (k : ℕ). offends (suc k)) n) e p)

pub first_is : (offends : ℕ → Bool) (n r : ℕ) → First offends n r → r ≡ first_of offends n
first_is offends n r p = determined offends n r (first_of offends n) p (first_of_is offends n)

-- ---- what a search from the front knows at i

abbrev pub Clear : (ℕ → Bool) → ℕ → Type 0
Clear offends i = (k : ℕ) → k < i → offends k ≡ false

pub first_found : (offends : ℕ → Bool) (n i : ℕ) → Clear offends i → i < n → offends i ≡ true → i ≡ first_of offends n
first_found offends n i clear below e = first_is offends n i (record { reach = le_of_lt below; clear = clear; hit = λ h. e })

pub first_none : (offends : ℕ → Bool) (n i : ℕ) → Clear offends i → i ≤ n → n ≤ i → i ≡ first_of offends n
first_none offends n i clear reach all = first_is offends n i (record { reach = reach; clear = clear; hit = λ h. absurd (not-le_of_lt h all) })
