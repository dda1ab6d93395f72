-- Comparing two finite floats is comparing whole numbers: their sizes over any common denominator, counted from below both (`lt_counted`).
-- For f32s these are their values (`lt_value`). Assumes nothing.
use mathlib.Core.Path.{◌≡◌, refl, sym, ap, ◌∙◌, subst}
use mathlib.Core.Bool.{Bool, true, false, cond}
use Prim.Native.Nat.{ℕ, ◌+◌, ◌-◌, ◌*◌, ◌^◌, ◌≤◌, ◌<◌}
use native.Mathlib.Nat.{mul_assoc, mul_comm, mul_right_comm, mul-pos, mul-le-mul_right, le_trans, lt_irrefl, lt_of_le_of_lt, lt_of_not-le, le_of_eq, zero-mul, eq_of_mul-eq-mul_right, le_of_mul-le-mul_right}
use native.Mathlib.Omega.{arith}
use borrow.Author.Tests.{ltb-true, ltb-false, lt-ltb, le-ltb}
use lib.Dec.{T, ltb}
use lib.Pow.{pow_pos}
use lib.IntN.{ℤ}
use lib.Ieee.{Float, nan, inf, fin, binary32, fits, lt, up, down}
use lib.Ieee.Exact.{HasValue}
use lib.Ieee.Fits.{down_pos}
use lib.Ieee.Scale.{finite}
use Rattle.measure.specs.Float.{sign_of}
use Rattle.measure.specs.Root.{units_of, float}
use Rattle.measure.specs.Pattern.{units}
use Rattle.measure.specs.Value.{whole_of}
use Rattle.measure.proofs.PatternFloats.{whole_multiple}
use Rattle.measure.proofs.Patterns.{units_mono}
use Rattle.measure.proofs.Neighbours.{infinity, multiple_pattern}

-- ---- two magnitudes over their common denominator are as their units

module _ (a b c d u v p : ℕ) (pc : 0 < c) (pd : 0 < d) (pp : 0 < p) (hu : a * p ≡ u * c) (hv : b * p ≡ v * d) where
  left : a * d * p ≡ u * (c * d)
  left = mul_right_comm a d p ∙ ap (λ (n : ℕ). n * d) hu ∙ mul_assoc u c d

  right : b * c * p ≡ v * (c * d)
  right = mul_right_comm b c p ∙ ap (λ (n : ℕ). n * c) hv ∙ mul_assoc v d c ∙ ap (λ (n : ℕ). v * n) (mul_comm d c)

  le_units : a * d ≤ b * c → u ≤ v
  le_units h = le_of_mul-le-mul_right (subst (λ (n : ℕ). n ≤ v * (c * d)) left (subst (λ (n : ℕ). a * d * p ≤ n) right (mul-le-mul_right p h))) (mul-pos pc pd)

  units_le : u ≤ v → a * d ≤ b * c
  units_le h = le_of_mul-le-mul_right (subst (λ (n : ℕ). n ≤ b * c * p) (sym left) (subst (λ (n : ℕ). u * (c * d) ≤ n) (sym right) (mul-le-mul_right (c * d) h))) pp

-- a number that is 0 exactly where its units are
module _ (a d u w p : ℕ) (pw : 0 < w) (pp : 0 < p) (h : a * d * p ≡ u * w) where
  none_units : a * d ≡ 0 → u ≡ 0
  none_units e = eq_of_mul-eq-mul_right w pw u 0 (sym h ∙ ap (λ (n : ℕ). n * p) e ∙ zero-mul p ∙ sym (zero-mul w))

  units_none : u ≡ 0 → a * d ≡ 0
  units_none e = eq_of_mul-eq-mul_right p pp (a * d) 0 (h ∙ ap (λ (n : ℕ). n * w) e ∙ zero-mul w ∙ sym (zero-mul p))

-- ---- a comparison of numbers decides the same comparison of their units

pub same_lt : (a b u v : ℕ) → (b ≤ a → v ≤ u) → (v ≤ u → b ≤ a) → ltb a b ≡ ltb u v
same_lt a b u v f g = go (ltb u v) refl
  where
    go : (t : Bool) → ltb u v ≡ t → ltb a b ≡ ltb u v
    go true e = rw (e, lt-ltb a b (lt_of_not-le (λ h. lt_irrefl v (lt_of_le_of_lt (f h) (ltb-true u v e)))))
    go false e = rw (e, le-ltb a b (g (ltb-false u v e)))

-- ---- values, counted from -K, of two units of at most K

both_below : (K u v : ℕ) → u ≤ K → v ≤ K → ltb (K - u) (K - v) ≡ ltb v u
both_below K u v hu hv = same_lt (K - u) (K - v) v u (λ h. omega arith) (λ h. omega arith)

pub both_above : (K u v : ℕ) → ltb (K + u) (K + v) ≡ ltb u v
both_above K u v = same_lt (K + u) (K + v) u v (λ h. omega arith) (λ h. omega arith)

across : (K u v : ℕ) → u ≤ K → ltb (K - u) (K + v) ≡ ltb 0 (u + v)
across K u v hu = same_lt (K - u) (K + v) 0 (u + v) (λ h. omega arith) (λ h. omega arith)

back : (K u v : ℕ) → ltb (K + u) (K - v) ≡ false
back K u v = le-ltb (K + u) (K - v) (omega arith)

-- ---- floats that are u / p and v / p in size

module _ (m : ℕ) (e : ℤ) (n : ℕ) (d : ℤ) (u v p : ℕ) (pp : 0 < p) (own : m * up e * p ≡ u * down e) (other : n * up d * p ≡ v * down d) where
  -- the order of two magnitudes is that of their units
  magnitudes : ltb (m * up e * down d) (n * up d * down e) ≡ ltb u v
  magnitudes =
      same_lt _ _ _ _
      (λ l. le_units (n * up d) (m * up e) (down d) (down e) _ _ p (down_pos d) (down_pos e) pp other own l)
      (λ l. units_le (n * up d) (m * up e) (down d) (down e) _ _ p (down_pos d) (down_pos e) pp other own l)

  -- and one of them is above 0 exactly where one of the units is
  either : ltb 0 (m * up e * down d + n * up d * down e) ≡ ltb 0 (u + v)
  either =
      let w = mul-pos (down_pos e) (down_pos d) in
      let l = left (m * up e) (n * up d) (down e) (down d) _ _ p (down_pos e) (down_pos d) pp own other in
      let r = right (m * up e) (n * up d) (down e) (down d) _ _ p (down_pos e) (down_pos d) pp own other in
      same_lt 0 _ 0 _
      (λ h. both_none _ _ (none_units (m * up e) (down d) _ _ p w pp l (first_none _ _ h)) (none_units (n * up d) (down e) _ _ p w pp r (second_none _ _ h)))
      (λ h. both_none _ _ (units_none (m * up e) (down d) _ _ p w pp l (first_none _ _ h)) (units_none (n * up d) (down e) _ _ p w pp r (second_none _ _ h)))
    where
      first_none : (a b : ℕ) → a + b ≤ 0 → a ≡ 0
      first_none a b h = omega arith

      second_none : (a b : ℕ) → a + b ≤ 0 → b ≡ 0
      second_none a b h = omega arith

      both_none : (a b : ℕ) → a ≡ 0 → b ≡ 0 → a + b ≤ 0
      both_none a b p q = omega arith

-- a size with its sign, counted from -most
abbrev pub counted : ℕ → Bool → ℕ → ℕ
counted most sign u = cond sign (most - u) (most + u)

pub lt_counted : (x y : Float) (u v p most : ℕ) → 0 < p → HasValue x (sign_of x) u p → HasValue y (sign_of y) v p → u ≤ most → v ≤ most
    → lt x y ≡ ltb (counted most (sign_of x) u) (counted most (sign_of y) v)
unfolding lt
lt_counted nan y u v p K pp a b hu hv = absurd a
lt_counted (inf s) y u v p K pp a b hu hv = absurd a
lt_counted (fin s m e) nan u v p K pp a b hu hv = absurd b
lt_counted (fin s m e) (inf t) u v p K pp a b hu hv = absurd b
lt_counted (fin false m e) (fin false n d) u v p K pp a b hu hv = magnitudes m e n d u v p pp a.1 b.1 ∙ sym (both_above K u v)
lt_counted (fin false m e) (fin true n d) u v p K pp a b hu hv = sym (back K u v)
lt_counted (fin true m e) (fin false n d) u v p K pp a b hu hv = either m e n d u v p pp a.1 b.1 ∙ sym (across K u v hu)
lt_counted (fin true m e) (fin true n d) u v p K pp a b hu hv = magnitudes n d m e v u p pp b.1 a.1 ∙ sym (both_below K u v hu hv)

-- ---- f32s

most_units : (x : Float) → T (fits binary32 x) → T (finite x) → units_of x ≤ 2 ^ 277
most_units x f h = go (multiple_pattern (units_of x) (float x f h))
  where
    go : (c : ℕ) × (c ≤ 2139095040) × (units_of x ≡ units c) → units_of x ≤ 2 ^ 277
    go (c, l, e) = rw e (le_trans (units_mono c 2139095040 l) (le_of_eq (sym infinity)))

pub lt_value : (x y : Float) → T (fits binary32 x) → T (finite x) → T (fits binary32 y) → T (finite y) → lt x y ≡ ltb (whole_of x) (whole_of y)
unfolding whole_of
lt_value x y f h g k =
    lt_counted x y (units_of x) (units_of y) (2 ^ 149) (2 ^ 277) (pow_pos 149) (whole_multiple x f h) (whole_multiple y g k) (most_units x f h) (most_units y g k)
