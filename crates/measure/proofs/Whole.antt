-- The rest by pi in whole numbers: pi is 13176795 of 2^-22, and a float of 2 and more is a whole number of these parts. Assumes nothing.
use mathlib.Core.Path.{◌≡◌, refl, sym, ap, ◌∙◌}
use mathlib.Core.Bool.{Bool, true, false, false≢true}
use Prim.Native.Nat.{ℕ, zero, suc, ◌+◌, ◌-◌, ◌*◌, ◌/◌, ◌%◌, ◌^◌, ◌≤◌, ◌<◌}
use native.Mathlib.Nat.{zero-lt-suc, mul_assoc, mul_comm, mul-pos, mul-one, zero-mul, zero-mod, mul-le-mul_right, mod-eq_of_lt, mod-lt, mul-add-mod_self_right, div-add-mod', eq_of_mul-eq-mul_right, pow-le-pow_right}
use native.Mathlib.Omega.{arith}
use borrow.Author.Tests.{lt-ltb}
use lib.Dec.{T, lit<}
use lib.Pow.{pow-add, pow_pos, shl_lt}
use lib.IntN.{ℤ, pos}
use lib.Ieee.{Float, nan, inf, fin, binary32, up, down, round, fits, rem, mul, neg, of_bits, of_int, to_bits}
use lib.Ieee.Back.{round_whole}
use lib.Ieee.Exact.{HasValue}
use lib.Ieee.Fits.{down_pos}
use lib.Ieee.Positive.{positive, positive-finite, positive_of_value, mul_at}
use lib.Ieee.Scale.{round_same}
use Rattle.std.proofs.lemmas.Nat.{mul-mod_second}
use Rattle.measure.specs.Distance.{pi}
use Rattle.measure.specs.Pattern.{sig_of, exp_of}
use Rattle.measure.proofs.PatternFloats.{whole_multiple, own_units}
use Rattle.measure.proofs.Patterns.{sig_lt, units_is}
use Rattle.measure.proofs.Rest.{at_rest}
use Rattle.measure.proofs.Rounding.{round_neg}
use Rattle.measure.proofs.Squares.{zero_product}

-- ---- rests of whole numbers

spread : (x p y k : ℕ) → (x * p + y) * k ≡ x * (p * k) + y * k
spread x p y k = omega arith

below : (x p k : ℕ) → x < p → 0 < k → x * k < p * k
below x p k h l = omega (arith, mul-le-mul_right k h)

mod_scale : (a p k : ℕ) → 0 < p → 0 < k → (a * k) % (p * k) ≡ a % p * k
mod_scale a p k hp hk =
    ap (λ (n : ℕ). (n * k) % (p * k)) (sym (div-add-mod' a p)) ∙ ap (λ (n : ℕ). n % (p * k)) (spread (a / p) p (a % p) k)
    ∙ mul-add-mod_self_right (a / p) (p * k) (a % p * k) ∙ mod-eq_of_lt (below (a % p) p k (mod-lt a hp) hk)

pub doubled : (s i rest : ℕ) → rest ≡ s * 2 ^ i % 13176795 → rest * 2 % 13176795 ≡ s * 2 ^ (i + 1) % 13176795
doubled s i rest h =
    ap (λ (n : ℕ). n * 2 % 13176795) h ∙ ap (λ (n : ℕ). n % 13176795) (mul_comm (s * 2 ^ i % 13176795) 2) ∙ mul-mod_second 2 (s * 2 ^ i) 13176795
    ∙ ap (λ (n : ℕ). n % 13176795) (mul_comm 2 (s * 2 ^ i) ∙ mul_assoc s (2 ^ i) 2 ∙ ap (λ (n : ℕ). s * n) (sym (pow-add 2 i 1)))

-- ---- a float of n parts

in_parts : (m : ℕ) (e : ℤ) (n : ℕ) → m * up e * 4194304 ≡ n * down e → rem binary32 (fin false m e) pi ≡ round binary32 false (n % 13176795) 4194304
unfolding rem of_bits
in_parts m e n h =
    ap (λ (k : ℕ). round binary32 false (k % (13176795 * 1 * down e)) (down e * 4194304)) h
    ∙ ap (λ (k : ℕ). round binary32 false k (down e * 4194304)) (mod_scale n 13176795 (down e) (lit< tt) (down_pos e))
    ∙ round_same binary32 false (n % 13176795 * down e) (down e * 4194304) (n % 13176795) 4194304 (mul-pos (down_pos e) (lit< tt)) (lit< tt) (mul_assoc (n % 13176795) (down e) 4194304)

moved : (s a b d : ℕ) → s * (a * b) * d ≡ s * a * d * b
moved s a b d = omega arith

cancelled : (m u d s t : ℕ) → m * u * 2 ^ 149 ≡ s * 2 ^ (t + 127) * d → m * u * 4194304 ≡ s * 2 ^ t * d
cancelled m u d s t h =
    eq_of_mul-eq-mul_right (2 ^ 127) (pow_pos 127) _ _ (mul_assoc (m * u) 4194304 (2 ^ 127) ∙ ap (λ (n : ℕ). m * u * n) (sym (pow-add 2 22 127)) ∙ h ∙ ap (λ (n : ℕ). s * n * d) (pow-add 2 t 127) ∙ moved s (2 ^ t) (2 ^ 127) d)

value : (m : ℕ) (e : ℤ) → T (fits binary32 (fin false m e)) → T (positive (fin false m e))
    → let b = to_bits binary32 (fin false m e) in m * up e * 2 ^ 149 ≡ sig_of b * 2 ^ exp_of b * down e
value m e f p =
    let x = fin false m e in
    (whole_multiple x f (positive-finite x p)).1 ∙ ap (λ (n : ℕ). n * down e) (own_units x f p ∙ units_is (to_bits binary32 x))

pub whole_rest_is : (x : Float) → T (fits binary32 x) → T (positive x) → let b = to_bits binary32 x in 127 ≤ exp_of b
    → rem binary32 x pi ≡ round binary32 false (sig_of b * 2 ^ (exp_of b - 127) % 13176795) 4194304
whole_rest_is nan f p h = absurd p
whole_rest_is (inf s) f p h = absurd p
whole_rest_is (fin true m e) f p h = absurd p
whole_rest_is (fin false m e) f p h =
    let b = to_bits binary32 (fin false m e) in
    let back : exp_of b ≡ exp_of b - 127 + 127 = omega arith in
    in_parts m e (sig_of b * 2 ^ (exp_of b - 127)) (cancelled m (up e) (down e) (sig_of b) (exp_of b - 127) (value m e f p ∙ ap (λ (n : ℕ). sig_of b * 2 ^ n * down e) back))

-- what is below 2 is its own rest
few : (s e : ℕ) → s < 16777216 → e < 127 → s * 2 ^ e + 1 ≤ 2 ^ 150
few s e h l =
    let top : 2 ^ (24 + e) ≤ 2 ^ 150 = pow-le-pow_right {n = 2} (lit< tt) {i = 24 + e} {j = 150} (omega arith) in
    omega (arith, shl_lt {a = s} 24 e h, top)

under : (m u d n : ℕ) → 0 < d → n + 1 ≤ 2 ^ 150 → m * u * 2 ^ 149 ≡ n * d → m * u * 4194304 < 13176795 * 1 * d
under m u d n hd h v = let a = mul-le-mul_right d h in omega (arith, a, v)

pub own_rest : (x : Float) → T (fits binary32 x) → T (positive x) → exp_of (to_bits binary32 x) < 127 → x ≡ rem binary32 x pi
own_rest nan f p h = absurd p
own_rest (inf s) f p h = absurd p
own_rest (fin true m e) f p h = absurd p
own_rest (fin false m e) f p h =
    let b = to_bits binary32 (fin false m e) in
    sym (at_rest false m e f (under m (up e) (down e) (sig_of b * 2 ^ exp_of b) (down_pos e) (few (sig_of b) (exp_of b) (sig_lt b) h) (value m e f p)))

-- ---- the float of so many parts

one_part : HasValue (of_bits binary32 880803840) false 1 4194304
unfolding of_bits
one_part = (refl, refl)

part_positive : T (positive (of_bits binary32 880803840))
unfolding of_bits
part_positive = tt

no_parts : mul binary32 (of_int binary32 (pos 0)) (of_bits binary32 880803840) ≡ round binary32 false 0 4194304
unfolding mul of_int of_bits round
no_parts = refl

pub some_parts : (r : ℕ) → r ≤ 16777216 → mul binary32 (of_int binary32 (pos r)) (of_bits binary32 880803840) ≡ round binary32 false r 4194304
unfolding of_int
some_parts zero l = no_parts
some_parts (suc n) l =
    let r = suc n in
    let v = round_whole binary32 false r l in
    mul_at binary32 (round binary32 false r 1) (of_bits binary32 880803840) r 1 1 4194304 (positive_of_value _ r 1 v (zero-lt-suc n)) part_positive (lit< tt) (lit< tt) v one_part
    ∙ ap (λ (n : ℕ). round binary32 false n 4194304) (mul-one r)

-- ---- below 0, and what is no number above or below it

pub mirrored : (x : Float) → positive (neg x) ≡ true → neg (rem binary32 (neg x) pi) ≡ rem binary32 x pi
unfolding neg rem of_bits
mirrored nan h = absurd (false≢true h)
mirrored (inf s) h = absurd (false≢true h)
mirrored (fin false m e) h = absurd (false≢true h)
mirrored (fin true m e) h = sym (round_neg (m * up e * 4194304 % (13176795 * 1 * down e)) (down e * 4194304))

zeros : (s : Bool) (u x y p : ℕ) → 0 < x → 0 < y → round binary32 s (0 * u * 0) x ≡ round binary32 s (0 * u * 4194304 % p) y
zeros s u x y p px py =
    round_same binary32 s (0 * u * 0) x (0 * u * 4194304 % p) y px py
    (ap (λ (n : ℕ). n * y) (zero_product u 0) ∙ zero-mul y ∙ sym (zero-mul x) ∙ ap (λ (n : ℕ). n * x) (sym (ap (λ (n : ℕ). n % p) (zero_product u 4194304) ∙ zero-mod p)))

pub neither : (x : Float) → positive x ≡ false → positive (neg x) ≡ false → mul binary32 x (of_bits binary32 0) ≡ rem binary32 x pi
unfolding neg mul rem of_bits
neither nan h k = refl
neither (inf s) h k = refl
neither (fin false (suc m) e) h k = absurd (false≢true (sym h ∙ lt-ltb 0 (suc m) (omega arith)))
neither (fin true (suc m) e) h k = absurd (false≢true (sym k ∙ lt-ltb 0 (suc m) (omega arith)))
neither (fin false zero e) h k = zeros false (up e) (down e * 1) (down e * 4194304) (13176795 * 1 * down e) (mul-pos (down_pos e) (lit< tt)) (mul-pos (down_pos e) (lit< tt))
neither (fin true zero e) h k = zeros true (up e) (down e * 1) (down e * 4194304) (13176795 * 1 * down e) (mul-pos (down_pos e) (lit< tt)) (mul-pos (down_pos e) (lit< tt))
