-- No tie: the point half way between two floats is the root of no float, so "ties to even" never has a say. Assumes nothing.
-- An odd square times a power of 4 has no room for so large a power of 2 beside a short significand.
use mathlib.Core.Path.{◌≡◌, refl, sym, ap, ◌∙◌, subst}
use mathlib.Core.Bool.{Bool, true, false}
use Prim.Native.Nat.{ℕ, suc, ◌+◌, ◌-◌, ◌*◌, ◌^◌, ◌≤◌, ◌<◌}
use native.Mathlib.Nat.{add-mul, mul_assoc, mul_comm, mul_left_comm, mul-one, one-mul, le_trans, le_of_eq, mul-le-mul_left, eq_of_mul-eq-mul_right, pow-succ'}
use native.Mathlib.Omega.{arith}
use borrow.Author.Tests.{ltb-true, ltb-false}
use lib.Dec.{T, ltb}
use lib.Pow.{pow-add, pow_pos}
use lib.Ieee.{Float, binary32, to_bits, fits}
use lib.Ieee.Positive.{positive}
use Rattle.measure.specs.Pattern.{sig_of, exp_of, units}
use Rattle.measure.specs.Root.{units_of, Multiple, NextAbove}
use Rattle.measure.proofs.Squares.{square_odd, square_scale}
use Rattle.measure.proofs.Patterns.{sig_lt, sig_large, units_is, units_step, units_order}
use Rattle.measure.proofs.PatternFloats.{own_units}
use Rattle.measure.proofs.Neighbours.{multiple_pattern, next_above, above_unique}

even_not_odd : (a b q : ℕ) → 2 * a ≡ 4 * b + 4 * q + 1 → ⊥
even_not_odd a b q e = omega arith

odd_square : (g D q e : ℕ) → g < 16777216 → (0 < e → 8388608 ≤ q) → 151 ≤ D → g * 2 ^ D ≡ (q + (q + 1)) * (q + (q + 1)) * (2 ^ e * 2 ^ e) → ⊥
odd_square g D q e small large most tie = go (ltb (e + e) D) refl
  where
    go : (t : Bool) → ltb (e + e) D ≡ t → ⊥
    go true h =
        let l = ltb-true (e + e) D h in
        let i = D - (e + e) - 1 in
        let split : D ≡ suc i + (e + e) = omega arith in
        let left : g * 2 ^ D ≡ 2 * (g * 2 ^ i) * 2 ^ (e + e) = ap (λ (n : ℕ). g * 2 ^ n) split ∙ ap (λ (n : ℕ). g * n) (pow-add 2 (suc i) (e + e)) ∙ sym (mul_assoc g (2 ^ suc i) (2 ^ (e + e))) ∙ ap (λ (n : ℕ). n * 2 ^ (e + e)) (ap (λ (n : ℕ). g * n) (pow-succ' 2 i) ∙ mul_left_comm g 2 (2 ^ i)) in
        let right : (q + (q + 1)) * (q + (q + 1)) * (2 ^ e * 2 ^ e) ≡ (4 * (q * q) + 4 * q + 1) * 2 ^ (e + e) = ap (λ (n : ℕ). n * (2 ^ e * 2 ^ e)) (square_odd q) ∙ ap (λ (n : ℕ). (4 * (q * q) + 4 * q + 1) * n) (sym (pow-add 2 e e)) in
        even_not_odd (g * 2 ^ i) (q * q) q (eq_of_mul-eq-mul_right (2 ^ (e + e)) (pow_pos (e + e)) (2 * (g * 2 ^ i)) (4 * (q * q) + 4 * q + 1) (sym left ∙ tie ∙ right))
    go false h =
        let l = ltb-false (e + e) D h in
        let i = e + e - D in
        let split : e + e ≡ i + D = omega arith in
        let lq : 8388608 ≤ q = large (omega arith) in
        let right : (q + (q + 1)) * (q + (q + 1)) * (2 ^ e * 2 ^ e) ≡ (4 * (q * q) + 4 * q + 1) * 2 ^ i * 2 ^ D = ap (λ (n : ℕ). n * (2 ^ e * 2 ^ e)) (square_odd q) ∙ ap (λ (n : ℕ). (4 * (q * q) + 4 * q + 1) * n) (sym (pow-add 2 e e) ∙ ap (λ (n : ℕ). 2 ^ n) split ∙ pow-add 2 i D) ∙ sym (mul_assoc (4 * (q * q) + 4 * q + 1) (2 ^ i) (2 ^ D)) in
        let same : g ≡ (4 * (q * q) + 4 * q + 1) * 2 ^ i = eq_of_mul-eq-mul_right (2 ^ D) (pow_pos D) g ((4 * (q * q) + 4 * q + 1) * 2 ^ i) (tie ∙ right) in
        let grow : (4 * (q * q) + 4 * q + 1) * 1 ≤ (4 * (q * q) + 4 * q + 1) * 2 ^ i = mul-le-mul_left (4 * (q * q) + 4 * q + 1) (pow_pos i) in
        too_large (q * q) q g small lq (le_trans (le_of_eq (sym (mul-one (4 * (q * q) + 4 * q + 1)))) (le_trans grow (le_of_eq (sym same))))
      where
        too_large : (a b c : ℕ) → c < 16777216 → 8388608 ≤ b → 4 * a + 4 * b + 1 ≤ c → ⊥
        too_large a b c p k r = omega arith

-- a pattern's units and its next one's
pair_is : (b : ℕ) → units b + units (b + 1) ≡ (sig_of b + (sig_of b + 1)) * 2 ^ exp_of b
pair_is b = rw (units_step b, units_is b) (sum (sig_of b) (2 ^ exp_of b))
  where
    sum : (s p : ℕ) → s * p + (s * p + p) ≡ (s + (s + 1)) * p
    sum s p = sym (add-mul s (s + 1) p ∙ ap (λ (n : ℕ). s * p + n) (add-mul s 1 p ∙ ap (λ (n : ℕ). s * p + n) (one-mul p)))

-- the half way point above a pattern is the root of no float
pub no_half_way : (b c : ℕ) → 2 ^ 151 * units c ≡ (units b + units (b + 1)) * (units b + units (b + 1)) → ⊥
no_half_way b c tie =
    odd_square (sig_of c) (exp_of c + 151) (sig_of b) (exp_of b) (sig_lt c) (sig_large b) (omega arith)
    (left ∙ tie ∙ ap (λ (n : ℕ). n * n) (pair_is b) ∙ square_scale (sig_of b + (sig_of b + 1)) (2 ^ exp_of b))
  where
    left : sig_of c * 2 ^ (exp_of c + 151) ≡ 2 ^ 151 * units c
    left = ap (λ (n : ℕ). sig_of c * n) (pow-add 2 (exp_of c) 151) ∙ sym (mul_assoc (sig_of c) (2 ^ exp_of c) (2 ^ 151)) ∙ ap (λ (n : ℕ). n * 2 ^ 151) (sym (units_is c)) ∙ mul_comm (units c) (2 ^ 151)

-- nothing is above the pattern of an infinity
below_top : (y b c : ℕ) → c ≤ 2139095040 → y ≡ units c → NextAbove y b → c < 2139095040
below_top y b c h e above = go (multiple_pattern b above.held)
  where
    go : (d : ℕ) × (d ≤ 2139095040) × (b ≡ units d) → c < 2139095040
    go (d, top, f) =
        let more : units c < units d = subst (λ (n : ℕ). units c < n) f (subst (λ (n : ℕ). n < b) e above.higher) in
        omega (arith, units_order c d more)

pub no_tie : (x : Float) → T (fits binary32 x) → T (positive x) → (y b : ℕ) → Multiple y → NextAbove y b → 2 ^ 151 * units_of x ≡ (y + b) * (y + b) → ⊥
no_tie x f p y b m above tie = go (multiple_pattern y m)
  where
    go : (c : ℕ) × (c ≤ 2139095040) × (y ≡ units c) → ⊥
    go (c, h, e) =
        let l = below_top y b c h e above in
        let g : b ≡ units (c + 1) = above_unique (units c) b (units (c + 1)) (subst (λ (n : ℕ). NextAbove n b) e above) (next_above c l) in
        no_half_way c (to_bits binary32 x) (ap (λ (n : ℕ). 2 ^ 151 * n) (sym (own_units x f p)) ∙ tie ∙ ap (λ (n : ℕ). (n + b) * (n + b)) e ∙ ap (λ (n : ℕ). (units c + n) * (units c + n)) g)
