-- `root_of`, which computes, is an answer of the Root rule, and so the only one. Assumes nothing.
use Rattle.std.specs.Prelude.{Result}
use Rattle.refusal.specs.declared.Refusal.{Refusal}
use mathlib.Core.Path.{◌≡◌, refl, sym, ap, ◌∙◌, subst}
use mathlib.Core.Bool.{Bool, true, false, cond}
use Prim.Native.Nat.{ℕ, zero, suc, zero-le, ◌+◌, ◌-◌, ◌*◌, ◌^◌, ◌≤◌, ◌<◌}
use native.Mathlib.Nat.{add_assoc, le_trans, le_of_lt, lt_irrefl, lt_of_lt_of_le, lt_of_le_of_lt, mul-le-mul_left, pow-succ', two-mul, zero-lt-suc, add-le-add, le-add_left}
use native.Mathlib.Omega.{arith}
use borrow.Author.Tests.{ltb-true, ltb-false, leb-true, leb-false, lt-leb, le-leb}
use lib.Dec.{T, ltb, lit<, lit≤, lt→ltb}
use lib.Ieee.{Float, nan, inf, fin, binary32, of_bits, to_bits, fits}
use lib.Pow.{pow_pos}
use lib.Ieee.Bits.{of_bits-to_bits}
use lib.Ieee.Exact.{HasValue}
use lib.Ieee.Positive.{positive, value_pos}
use Rattle.measure.specs.Pattern.{sig_of, exp_of, units}
use Rattle.measure.specs.inner.RootSteps.{RootBits}
use Rattle.measure.specs.Root.{units_of, RootOf}
use Rattle.measure.specs.RootComputed.{greatest, reaches, root_pattern, root_of}
use Rattle.measure.proofs.Squares.{square_le}
use Rattle.measure.proofs.Patterns.{units_mono}
use Rattle.measure.proofs.PatternFloats.{positive_bits, bits_value, own_units}
use Rattle.measure.proofs.RootRule.{is_root, determined}

greatest_spec : (t : ℕ → Bool) (k q : ℕ) → t q ≡ true → t (q + 2 ^ k) ≡ false → (t (greatest k t q) ≡ true) × (t (greatest k t q + 1) ≡ false)
unfolding greatest
greatest_spec t zero q passes fails = (passes, fails)
greatest_spec t (suc k) q passes fails = go (t (q + 2 ^ k)) refl (λ n. greatest_spec t k n)
  where
    go : (b : Bool) → t (q + 2 ^ k) ≡ b → ((n : ℕ) → t n ≡ true → t (n + 2 ^ k) ≡ false → (t (greatest k t n) ≡ true) × (t (greatest k t n + 1) ≡ false)) → (t (greatest k t (cond (t (q + 2 ^ k)) (q + 2 ^ k) q)) ≡ true) × (t (greatest k t (cond (t (q + 2 ^ k)) (q + 2 ^ k) q) + 1) ≡ false)
    go true e ih =
        let two : q + 2 ^ k + 2 ^ k ≡ q + 2 ^ suc k = add_assoc q (2 ^ k) (2 ^ k) ∙ ap (λ (n : ℕ). q + n) (sym (pow-succ' 2 k ∙ two-mul (2 ^ k))) in
        subst (λ (b : Bool). (t (greatest k t (cond b (q + 2 ^ k) q)) ≡ true) × (t (greatest k t (cond b (q + 2 ^ k) q) + 1) ≡ false)) (sym e) (ih (q + 2 ^ k) e (ap t two ∙ fails))
    go false e ih = subst (λ (b : Bool). (t (greatest k t (cond b (q + 2 ^ k) q)) ≡ true) × (t (greatest k t (cond b (q + 2 ^ k) q) + 1) ≡ false)) (sym e) (ih q passes e)

-- the pattern 0x0080_0000 is not too high for any float, and 0x7F00_0000 is too high for every one
bottom : units 8388607 + units 8388608 ≤ 16777216
unfolding units sig_of exp_of
bottom = lit≤ tt

none : (units (0 - 1) + units 0) * (units (0 - 1) + units 0) ≤ 0
unfolding units sig_of exp_of
none = lit≤ tt

top : 2 ^ 276 ≤ units 2130706432
unfolding units sig_of exp_of
top = lit≤ tt

limit : units 2139095040 ≤ 2 ^ 277
unfolding units sig_of exp_of
limit = lit≤ tt

module _ (c : ℕ) (some : 0 < units c) (fin : c < 2139095040) where
  value_lt : 2 ^ 151 * units c ≤ 2 ^ 428
  value_lt = le_trans (mul-le-mul_left (2 ^ 151) (le_trans (units_mono c 2139095040 (le_of_lt fin)) limit)) (lit≤ tt)

  value_ge : 16777216 * 16777216 ≤ 2 ^ 151 * units c
  value_ge = le_trans (lit≤ tt) (mul-le-mul_left (2 ^ 151) some)

  too_high : (b : ℕ) → 2130706432 ≤ b → 2 ^ 151 * units c < (units (b - 1) + units b) * (units (b - 1) + units b)
  too_high b h =
      let big : 2 ^ 276 ≤ units (b - 1) + units b = le_trans (le_trans top (units_mono 2130706432 b h)) (le-add_left (units b) (units (b - 1))) in
      lt_of_le_of_lt value_lt (lt_of_lt_of_le (lit< tt) (square_le big))

  low_enough : (b : ℕ) → b < 8388608 → (units b + units (b + 1)) * (units b + units (b + 1)) ≤ 2 ^ 151 * units c
  low_enough b h = le_trans (square_le (le_trans (add-le-add (units_mono b 8388607 (omega arith)) (units_mono (b + 1) 8388608 (omega arith))) bottom)) value_ge

  pattern_is : RootBits (2 ^ 151 * units c) (root_pattern (2 ^ 151 * units c))
  unfolding root_pattern reaches
  pattern_is =
      let v = 2 ^ 151 * units c in
      let r = root_pattern v in
      let both = greatest_spec (reaches v) 31 0 (zero_passes v) (lt-leb _ v (too_high (0 + 2 ^ 31) (lit≤ tt))) in
      let low : (units (r - 1) + units r) * (units (r - 1) + units r) ≤ v = leb-true _ v both.0 in
      let next : v < (units (r + 1 - 1) + units (r + 1)) * (units (r + 1 - 1) + units (r + 1)) = leb-false _ v both.1 in
      let back : r + 1 - 1 ≡ r = omega arith in
      let high : v < (units r + units (r + 1)) * (units r + units (r + 1)) = rw back at next in
      record {
        least = at_least r high (ltb r 8388608) refl;
        most = at_most r low (ltb r 2130706432) refl;
        low = low;
        high = le_of_lt high;
      }
    where
      zero_passes : (v : ℕ) → reaches v 0 ≡ true
      zero_passes v = le-leb _ v (le_trans none zero-le)

      at_least : (r : ℕ) → 2 ^ 151 * units c < (units r + units (r + 1)) * (units r + units (r + 1)) → (t : Bool) → ltb r 8388608 ≡ t → 8388608 ≤ r
      at_least r h true e = absurd (lt_irrefl (2 ^ 151 * units c) (lt_of_lt_of_le h (low_enough r (ltb-true r 8388608 e))))
      at_least r h false e = ltb-false r 8388608 e

      at_most : (r : ℕ) → (units (r - 1) + units r) * (units (r - 1) + units r) ≤ 2 ^ 151 * units c → (t : Bool) → ltb r 2130706432 ≡ t → r < 2130706432
      at_most r h true e = ltb-true r 2130706432 e
      at_most r h false e = absurd (lt_irrefl (2 ^ 151 * units c) (lt_of_lt_of_le (too_high r (ltb-false r 2130706432 e)) h))

-- ---- the function's answer

positive_units : (x : Float) → T (fits binary32 x) → T (positive x) → 0 < units (to_bits binary32 x)
positive_units x f p = value_pos x (units (to_bits binary32 x)) (2 ^ 149) p (pow_pos 149) (subst (λ (y : Float). HasValue y false (units (to_bits binary32 x)) (2 ^ 149)) (of_bits-to_bits binary32 x f) (bits_value (to_bits binary32 x) (positive_bits x f p).1))

pub root_of_rule : (x : Float) → T (fits binary32 x) → RootOf x (root_of x)
unfolding root_of
root_of_rule nan f = refl
root_of_rule (inf t) f = refl
root_of_rule (fin t zero e) f = refl
root_of_rule (fin true (suc m) e) f = refl
root_of_rule (fin false (suc m) e) f =
    let x = fin false (suc m) e in
    let p : T (positive (fin false (suc m) e)) = lt→ltb 0 (suc m) (zero-lt-suc m) in
    let u = own_units x f p in
    let b = to_bits binary32 x in
    (of_bits binary32 (root_pattern (2 ^ 151 * units_of x)), refl, is_root x (root_pattern (2 ^ 151 * units_of x)) f p (subst (λ (n : ℕ). RootBits (2 ^ 151 * units b) (root_pattern (2 ^ 151 * n))) (sym u) (pattern_is b (positive_units x f p) (positive_bits x f p).1)))

-- an answer of the rule is the function's
pub root_only : (x : Float) (r : Result Float Refusal) → T (fits binary32 x) → RootOf x r → r ≡ root_of x
root_only x r f h = determined x r (root_of x) f h (root_of_rule x f)
