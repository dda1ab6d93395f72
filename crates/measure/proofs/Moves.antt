-- Powers of two moved from one side of a product to the other. Assumes nothing.
use mathlib.Core.Path.{◌≡◌, refl, sym, ap, ◌∙◌}
use mathlib.Core.Bool.{Bool, true, false}
use Prim.Native.Nat.{ℕ, ◌+◌, ◌-◌, ◌*◌, ◌%◌, ◌^◌, ◌≤◌, ◌<◌}
use native.Mathlib.Nat.{mul_assoc, mul_comm, mul-le-mul_right, le_trans, le_of_eq, lt_of_lt_of_le, lt_of_le_of_lt, one-mul, mod-eq_of_lt, lt_irrefl}
use native.Mathlib.Omega.{arith}
use borrow.Author.Tests.{ltb-true, ltb-false}
use lib.Dec.{ltb, lit≤}
use lib.Pow.{pow-add, pow_mono}

-- an even part of a power of two is a square
pub halved : (j z k f : ℕ) → f ≡ j + (k + k) → z * 2 ^ j * (2 ^ k * 2 ^ k) ≡ z * 2 ^ f
halved j z k f e = rw (e, pow-add 2 j (k + k), pow-add 2 k k, mul_assoc z (2 ^ j) (2 ^ k * 2 ^ k))

-- a significand moved up by z bits at an exponent that falls by z: four times it is 2^151 times the units
pub moved : (s z e : ℕ) → z ≤ e + 149 → 4 * (s * 2 ^ z * 2 ^ (e + 149 - z)) ≡ 2 ^ 151 * (s * 2 ^ e)
moved s z e h =
    let back : z + (e + 149 - z) ≡ e + 149 = omega arith in
    let one : s * 2 ^ z * 2 ^ (e + 149 - z) ≡ s * 2 ^ e * 2 ^ 149 = mul_assoc s (2 ^ z) (2 ^ (e + 149 - z)) ∙ ap (λ (n : ℕ). s * n) (sym (pow-add 2 z (e + 149 - z)) ∙ ap (λ (n : ℕ). 2 ^ n) back ∙ pow-add 2 e 149) ∙ sym (mul_assoc s (2 ^ e) (2 ^ 149)) in
    ap (λ (n : ℕ). 4 * n) (one ∙ mul_comm (s * 2 ^ e) (2 ^ 149)) ∙ sym (mul_assoc 4 (2 ^ 149) (s * 2 ^ e))

-- a positive number times 2 ^ z is below 2 ^ 32 only for a z below 32
pub room_lt : (s z : ℕ) → 0 < s → s * 2 ^ z < 2 ^ 32 → z < 32
room_lt s z p h = go (ltb z 32) refl
  where
    go : (t : Bool) → ltb z 32 ≡ t → z < 32
    go true e = ltb-true z 32 e
    go false e = absurd (lt_irrefl (2 ^ 32) (lt_of_le_of_lt (le_trans (pow_mono (ltb-false z 32 e)) (le_trans (le_of_eq (sym (one-mul (2 ^ z)))) (mul-le-mul_right (2 ^ z) p))) h))

-- what fits 32 bits is not cut by 64
pub kept : (v : ℕ) → v < 2 ^ 32 → v % 2 ^ 64 ≡ v
kept v h = mod-eq_of_lt (lt_of_lt_of_le h (lit≤ tt))
