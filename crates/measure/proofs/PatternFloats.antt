-- From patterns to floats: a pattern below an infinity's is a float of that many units, and a finite float whose sign bit is clear has such a
-- pattern. Assumes nothing.
use mathlib.Core.Path.{◌≡◌, refl, sym, ap, ◌∙◌, subst}
use mathlib.Core.Bool.{Bool, true, false, cond, not}
use Prim.Native.Nat.{ℕ, zero, suc, ◌+◌, ◌-◌, ◌*◌, ◌/◌, ◌%◌, ◌^◌, ◌<◌}
use native.Mathlib.Nat.{mod-eq_of_lt, mul-div_cancel, add_comm, lt_irrefl, zero-mul, zero-div, zero-lt-suc}
use native.Mathlib.Omega.{arith}
use borrow.Author.Tests.{lt-leb, leb-false, ltb-true, ltb-false, ne_eqb}
use lib.Dec.{T, ltb, eqb, lt→ltb}
use lib.IntN.{ℤ}
use lib.Ieee.{Float, nan, inf, fin, binary32, odd, of_fields, of_bits, to_bits, is_nan, nan_bits, fits, up, down}
use lib.Ieee.Bits.{of_bits-to_bits, nan_bits_is}
use lib.Ieee.Exact.{HasValue, odd_sign}
use lib.Ieee.Fits.{down_pos}
use lib.Ieee.Positive.{positive, positive-finite}
use lib.Ieee.Scale.{finite}
use Rattle.measure.specs.Float.{sign_of}
use Rattle.measure.specs.Pattern.{units}
use Rattle.measure.specs.Root.{units_of}
use Rattle.measure.proofs.Sign.{sign_of_bits}
use Rattle.measure.proofs.Squares.{zero_product}
use Rattle.measure.proofs.Patterns.{small_sig, small_exp, large_sig, large_exp, units_is}

-- ---- the units of a float

value_units : (x : Float) (s : Bool) (a : ℕ) → HasValue x s a (2 ^ 149) → units_of x ≡ a
unfolding units_of
value_units nan s a h = absurd h
value_units (inf t) s a h = absurd h
value_units (fin t m e) s a h = ap (λ (n : ℕ). n / down e) h.1 ∙ mul-div_cancel a (down_pos e)

fields : (b : ℕ) → b < 2147483648 → of_bits binary32 b ≡ of_fields binary32 false (b / 8388608) (b % 8388608)
unfolding of_bits
fields b h = rw (lt-leb 2147483648 b h, mod-eq_of_lt h)

-- a field other than 0 and 255
field_value : (x t : ℕ) → suc x < 255 → HasValue (of_fields binary32 false (suc x) t) false ((8388608 + t) * 2 ^ x) (2 ^ 149)
unfolding of_fields
field_value x t h =
    let n : eqb (suc x) 255 ≡ false = ne_eqb (suc x) 255 (λ e. lt_irrefl 255 (subst (λ (k : ℕ). k < 255) e h)) in
    subst (λ (u : Bool). HasValue (cond u (cond (eqb t 0) (inf false) nan) (odd 24 false (8388608 + t) x 149)) false ((8388608 + t) * 2 ^ x) (2 ^ 149)) (sym n) (odd_sign 24 false (8388608 + t) x 149)

zero_value : (t : ℕ) → HasValue (of_fields binary32 false 0 t) false (t * 2 ^ 0) (2 ^ 149)
unfolding of_fields
zero_value t = odd_sign 24 false t 0 149

pub bits_value : (b : ℕ) → b < 2139095040 → HasValue (of_bits binary32 b) false (units b) (2 ^ 149)
bits_value b h = go (ltb b 8388608) refl
  where
    go : (t : Bool) → ltb b 8388608 ≡ t → HasValue (of_bits binary32 b) false (units b) (2 ^ 149)
    go true e =
        let l = ltb-true b 8388608 e in
        let z : b / 8388608 ≡ 0 = omega arith in
        let k : b % 8388608 ≡ b = omega arith in
        rw (fields b (omega arith), z, k, units_is b, small_sig b l, small_exp b l) (zero_value b)
    go false e =
        let l = ltb-false b 8388608 e in
        let z : b / 8388608 ≡ suc (b / 8388608 - 1) = omega arith in
        let f : suc (b / 8388608 - 1) < 255 = omega arith in
        subst (λ (n : ℕ). HasValue (of_bits binary32 b) false n (2 ^ 149)) (ap (λ (n : ℕ). n * 2 ^ (b / 8388608 - 1)) (add_comm 8388608 (b % 8388608)) ∙ sym (units_is b ∙ rw (large_sig b l, large_exp b l)))
        (subst (λ (x : Float). HasValue x false ((8388608 + b % 8388608) * 2 ^ (b / 8388608 - 1)) (2 ^ 149)) (sym (fields b (omega arith) ∙ ap (λ (n : ℕ). of_fields binary32 false n (b % 8388608)) z))
        (field_value (b / 8388608 - 1) (b % 8388608) f))

pub bits_units : (b : ℕ) → b < 2139095040 → units_of (of_bits binary32 b) ≡ units b
bits_units b h = value_units (of_bits binary32 b) false (units b) (bits_value b h)

value_no_nan : (x : Float) (s : Bool) (a c : ℕ) → HasValue x s a c → T (not (is_nan x))
unfolding is_nan
value_no_nan nan s a c h = absurd h
value_no_nan (inf t) s a c h = absurd h
value_no_nan (fin t m e) s a c h = tt

bits_no_nan : (b : ℕ) → b < 2139095040 → T (not (is_nan (of_bits binary32 b)))
bits_no_nan b h = value_no_nan (of_bits binary32 b) false (units b) (2 ^ 149) (bits_value b h)

pub bits_fine : (b : ℕ) → b < 2139095040 → T (not (nan_bits binary32 b))
bits_fine b h = subst (λ (t : Bool). T (not t)) (sym (nan_bits_is binary32 b)) (bits_no_nan b h)

-- ---- the pattern of a float that is finite, its sign bit clear, and of one above 0

pub positive_no_nan : (x : Float) → T (positive x) → T (not (is_nan x))
unfolding is_nan
positive_no_nan nan p = absurd p
positive_no_nan (inf t) p = tt
positive_no_nan (fin t m e) p = tt

pub positive_sign : (x : Float) → T (positive x) → sign_of x ≡ false
positive_sign nan p = absurd p
positive_sign (inf t) p = absurd p
positive_sign (fin true m e) p = absurd p
positive_sign (fin false m e) p = refl

full_field : (t : ℕ) → T (finite (of_fields binary32 false 255 t)) → ⊥
unfolding of_fields
full_field t = go (eqb t 0)
  where
    go : (c : Bool) → T (finite (cond c (inf false) nan)) → ⊥
    go true p = p
    go false p = p

zero_bits : T (positive (of_bits binary32 0)) → ⊥
unfolding of_bits
zero_bits p = p

-- a finite float whose sign bit is clear has a pattern below an infinity's
pub clear_bits : (x : Float) → T (fits binary32 x) → T (finite x) → sign_of x ≡ false → to_bits binary32 x < 2139095040
clear_bits x f h s = most (ltb (to_bits binary32 x) 2139095040) refl
  where
    half : to_bits binary32 x < 2147483648
    half = leb-false 2147483648 (to_bits binary32 x) (sign_of_bits x f ∙ s)

    most : (t : Bool) → ltb (to_bits binary32 x) 2139095040 ≡ t → to_bits binary32 x < 2139095040
    most true e = ltb-true (to_bits binary32 x) 2139095040 e
    most false e =
        let n = to_bits binary32 x in
        let l = ltb-false n 2139095040 e in
        let z : n / 8388608 ≡ 255 = omega (arith, half) in
        let own : T (finite (of_bits binary32 n)) = subst (λ (y : Float). T (finite y)) (sym (of_bits-to_bits binary32 x f)) h in
        absurd (full_field (n % 8388608) (subst (λ (k : ℕ). T (finite (of_fields binary32 false k (n % 8388608)))) z (subst (λ (y : Float). T (finite y)) (fields n half) own)))

pub positive_bits : (x : Float) → T (fits binary32 x) → T (positive x) → (0 < to_bits binary32 x) × (to_bits binary32 x < 2139095040)
positive_bits x f p = (least (ltb 0 (to_bits binary32 x)) refl, clear_bits x f (positive-finite x p) (positive_sign x p))
  where
    own : T (positive (of_bits binary32 (to_bits binary32 x)))
    own = subst (λ (y : Float). T (positive y)) (sym (of_bits-to_bits binary32 x f)) p

    least : (t : Bool) → ltb 0 (to_bits binary32 x) ≡ t → 0 < to_bits binary32 x
    least true e = ltb-true 0 (to_bits binary32 x) e
    least false e =
        let z : to_bits binary32 x ≡ 0 = omega (arith, ltb-false 0 (to_bits binary32 x) e) in
        absurd (zero_bits (subst (λ (n : ℕ). T (positive (of_bits binary32 n))) z own))

-- a float's units are its pattern's
pub clear_units : (w : Float) → T (fits binary32 w) → T (finite w) → sign_of w ≡ false → units_of w ≡ units (to_bits binary32 w)
clear_units w f h s = ap units_of (sym (of_bits-to_bits binary32 w f)) ∙ bits_units (to_bits binary32 w) (clear_bits w f h s)

pub own_units : (w : Float) → T (fits binary32 w) → T (positive w) → units_of w ≡ units (to_bits binary32 w)
own_units w f p = clear_units w f (positive-finite w p) (positive_sign w p)

-- ---- nothing is cut off: a finite float's magnitude is exactly its units

none_exact : (e : ℤ) → zero * up e * 2 ^ 149 ≡ zero * up e * 2 ^ 149 / down e * down e
none_exact e = let n = zero_product (up e) (2 ^ 149) in n ∙ sym (ap (λ (k : ℕ). k / down e * down e) n ∙ ap (λ (k : ℕ). k * down e) (zero-div (down e)) ∙ zero-mul (down e))

pub whole_multiple : (x : Float) → T (fits binary32 x) → T (finite x) → HasValue x (sign_of x) (units_of x) (2 ^ 149)
unfolding units_of fits
whole_multiple nan f h = absurd h
whole_multiple (inf s) f h = absurd h
whole_multiple (fin s zero e) f h = (refl, none_exact e)
whole_multiple (fin s (suc m) e) f h =
    let x = fin false (suc m) e in
    let p : T (positive (fin false (suc m) e)) = lt→ltb 0 (suc m) (zero-lt-suc m) in
    let clear : HasValue (fin false (suc m) e) false (units_of (fin false (suc m) e)) (2 ^ 149) =
    subst (λ (n : ℕ). HasValue x false n (2 ^ 149)) (sym (own_units x f p))
    (subst (λ (y : Float). HasValue y false (units (to_bits binary32 x)) (2 ^ 149)) (of_bits-to_bits binary32 x f) (bits_value (to_bits binary32 x) (positive_bits x f p).1)) in
    (refl, clear.1)
