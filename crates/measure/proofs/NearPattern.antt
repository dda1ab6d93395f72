-- The pattern of the whole number nearest to a root is the root's pattern: both half-way bounds, at every carry. Assumes nothing.
use mathlib.Core.Path.{◌≡◌, refl, sym, ap, ◌∙◌, subst}
use mathlib.Core.Bool.{Bool, true, false}
use Prim.Native.Nat.{ℕ, ◌+◌, ◌-◌, ◌*◌, ◌^◌, ◌≤◌, ◌<◌}
use native.Mathlib.Nat.{add-mul, mul_assoc, mul-le-mul_right, le_trans, le_of_eq}
use native.Mathlib.Omega.{arith}
use borrow.Author.Tests.{ltb-true, ltb-false}
use lib.Dec.{ltb}
use Rattle.measure.specs.Pattern.{units}
use Rattle.measure.specs.inner.RootSteps.{NearestRoot, RootBits}
use Rattle.measure.proofs.Squares.{square_le, square_scale, square_odd}
use Rattle.measure.proofs.Patterns.{units_at, units_le_next}

scale_le : (a n s : ℕ) → a * a ≤ 4 * n → (a * s) * (a * s) ≤ 4 * (n * (s * s))
scale_le a n s h = le_trans (le_of_eq (square_scale a s)) (le_trans (mul-le-mul_right (s * s) h) (le_of_eq (mul_assoc 4 n (s * s))))

scale_ge : (a n s : ℕ) → 4 * n ≤ a * a → 4 * (n * (s * s)) ≤ (a * s) * (a * s)
scale_ge a n s h = le_trans (le_of_eq (sym (mul_assoc 4 n (s * s)))) (le_trans (mul-le-mul_right (s * s) h) (le_of_eq (sym (square_scale a s))))

-- above 2 ^ 23 the pattern below stands for one unit of the last place less
low_above : (n k u : ℕ) → 8388608 ≤ u → u + 1 ≤ 16777216 → (u + 1) * (u + 1) < n + (u + 1)
    → (units (k * 8388608 + (u + 1) - 1) + units (k * 8388608 + (u + 1))) * (units (k * 8388608 + (u + 1) - 1) + units (k * 8388608 + (u + 1))) ≤ 4 * (n * (2 ^ k * 2 ^ k))
low_above n k u lo hi h =
    let e : k * 8388608 + (u + 1) - 1 ≡ k * 8388608 + u = omega arith in
    let g : (u + (u + 1)) * (u + (u + 1)) ≤ 4 * n = rw (square_odd u) (omega arith) in
    rw (e, units_at k u lo (omega arith), units_at k (u + 1) (omega arith) hi, ← add-mul u (u + 1) (2 ^ k)) (scale_le (u + (u + 1)) n (2 ^ k) g)

-- at 2 ^ 23 it stands for no more than the pattern itself
low_at : (n k r p : ℕ) → r ≡ 8388608 → p ≡ k * 8388608 + r → 70368744177664 ≤ n → (units (p - 1) + units p) * (units (p - 1) + units p) ≤ 4 * (n * (2 ^ k * 2 ^ k))
low_at n k r p e pe h =
    let back : p - 1 + 1 ≡ p = omega arith in
    let below : units (p - 1) ≤ units p = subst (λ (m : ℕ). units (p - 1) ≤ units m) back (units_le_next (p - 1)) in
    let is : units p ≡ r * 2 ^ k = ap units pe ∙ units_at k r (omega arith) (omega arith) in
    let both : units (p - 1) + units p ≤ (r + r) * 2 ^ k = rw (add-mul r r (2 ^ k)) (omega arith) in
    let g : (r + r) * (r + r) ≤ 4 * n = rw e (omega arith) in
    le_trans (square_le both) (scale_le (r + r) n (2 ^ k) g)

high_below : (n k r : ℕ) → 8388608 ≤ r → r + 1 ≤ 16777216 → n ≤ r * r + r
    → 4 * (n * (2 ^ k * 2 ^ k)) ≤ (units (k * 8388608 + r) + units (k * 8388608 + r + 1)) * (units (k * 8388608 + r) + units (k * 8388608 + r + 1))
high_below n k r lo hi h =
    let e : k * 8388608 + r + 1 ≡ k * 8388608 + (r + 1) = omega arith in
    let g : 4 * n ≤ (r + (r + 1)) * (r + (r + 1)) = rw (square_odd r) (omega arith) in
    rw (e, units_at k r lo (omega arith), units_at k (r + 1) (omega arith) hi, ← add-mul r (r + 1) (2 ^ k)) (scale_ge (r + (r + 1)) n (2 ^ k) g)

high_at : (n k r p : ℕ) → r ≡ 16777216 → p ≡ k * 8388608 + r → n < 281474976710656 → 4 * (n * (2 ^ k * 2 ^ k)) ≤ (units p + units (p + 1)) * (units p + units (p + 1))
high_at n k r p e pe h =
    let above : units p ≤ units (p + 1) = units_le_next p in
    let is : units p ≡ r * 2 ^ k = ap units pe ∙ units_at k r (omega arith) (omega arith) in
    let both : (r + r) * 2 ^ k ≤ units p + units (p + 1) = rw (add-mul r r (2 ^ k)) (omega arith) in
    let g : 4 * n ≤ (r + r) * (r + r) = rw e (omega arith) in
    le_trans (scale_ge (r + r) n (2 ^ k) g) (square_le both)

-- the pattern of the whole number r nearest to the root of n, at the exponent k, is that of the root of n * 4 ^ k
pub near_pattern : (n k r : ℕ) → 70368744177664 ≤ n → n < 281474976710656 → k ≤ 200 → NearestRoot n r → RootBits (4 * (n * (2 ^ k * 2 ^ k))) (k * 8388608 + r)
near_pattern n k r lo hi kk near =
    record {
      least = omega (arith, near.least);
      most = omega (arith, near.most);
      low = low (ltb 8388608 r) refl;
      high = high (ltb r 16777216) refl;
    }
  where
    p : ℕ
    p = k * 8388608 + r

    low : (t : Bool) → ltb 8388608 r ≡ t → (units (k * 8388608 + r - 1) + units (k * 8388608 + r)) * (units (k * 8388608 + r - 1) + units (k * 8388608 + r)) ≤ 4 * (n * (2 ^ k * 2 ^ k))
    low true e =
        let l = ltb-true 8388608 r e in
        let u = r - 1 in
        let ue : u + 1 ≡ r = omega arith in
        subst (λ (x : ℕ). (units (k * 8388608 + x - 1) + units (k * 8388608 + x)) * (units (k * 8388608 + x - 1) + units (k * 8388608 + x)) ≤ 4 * (n * (2 ^ k * 2 ^ k))) ue
        (low_above n k u (omega arith) (omega (arith, near.most)) (subst (λ (x : ℕ). x * x < n + x) (sym ue) near.over))
    low false e = low_at n k r (k * 8388608 + r) (omega (arith, ltb-false 8388608 r e, near.least)) refl lo

    high : (t : Bool) → ltb r 16777216 ≡ t → 4 * (n * (2 ^ k * 2 ^ k)) ≤ (units (k * 8388608 + r) + units (k * 8388608 + r + 1)) * (units (k * 8388608 + r) + units (k * 8388608 + r + 1))
    high true e = high_below n k r near.least (omega (arith, ltb-true r 16777216 e)) near.under
    high false e = high_at n k r (k * 8388608 + r) (omega (arith, ltb-false r 16777216 e, near.most)) refl hi
