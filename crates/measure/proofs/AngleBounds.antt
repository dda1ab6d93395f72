-- In reach the angle rule gives a number: every step of it stays within a bound that is a float. Assumes nothing.
use mathlib.Core.Path.{◌≡◌, refl, sym, ap, ◌∙◌}
use mathlib.Core.Bool.{Bool, true, false, cond}
use Prim.Native.Nat.{ℕ, zero, suc, ◌+◌, ◌-◌, ◌*◌, ◌≤◌, ◌<◌}
use native.Mathlib.Nat.{le_trans, le_of_eq, le_of_lt, one-mul, mul-le-mul, mul_comm, mul-le-mul_right, lt_irrefl}
use native.Mathlib.Omega.{arith}
use borrow.Author.Tests.{ltb-true, ltb-false}
use lib.Dec.{T, ltb, lit<, lit≤}
use lib.IntN.{ℤ, pos}
use lib.Ieee.{Float, fin, binary32, neg, add, sub, mul, div, sum, round, lt, up, down, of_bits, eq, fits}
use lib.Ieee.Bits.{of_bits-fits}
use lib.Ieee.Fits.{down_pos, cond-fits, neg-fits, add-fits, sub-fits}
use lib.Ieee.Scale.{finite}
use Rattle.measure.specs.Float.{bits, fraction, sign_of, abs_of}
use Rattle.measure.specs.Position.{in_reach}
use Rattle.measure.specs.Angle.{series_of, part_of, ratio_of, base_of, octant_of, across_of, below_of, angle_rule}
use Rattle.measure.proofs.Ranges.{eq_some, eq_none}
use Rattle.measure.proofs.Rounding.{Small, Bounded, Exact, neg_bounded, small_round, large_round, bounded_round}
use Rattle.measure.proofs.Bounds.{add_bounded, sub_bounded, mul_bounded, div_bounded, div_small}
use Rattle.measure.proofs.Positions.{reach_bounded}

-- ---- whole numbers that are floats

e1 : Exact 1
unfolding round
e1 = (1, 0, refl, refl)

e2 : Exact 2
unfolding round
e2 = (1, 1, refl, refl)

e3 : Exact 3
unfolding round
e3 = (3, 0, refl, refl)

pub e4 : Exact 4
unfolding round
e4 = (1, 2, refl, refl)

e5 : Exact 5
unfolding round
e5 = (5, 0, refl, refl)

e6 : Exact 6
unfolding round
e6 = (3, 1, refl, refl)

e7 : Exact 7
unfolding round
e7 = (7, 0, refl, refl)

e8 : Exact 8
unfolding round
e8 = (1, 3, refl, refl)

e9 : Exact 9
unfolding round
e9 = (9, 0, refl, refl)

e11 : Exact 11
unfolding round
e11 = (11, 0, refl, refl)

e15 : Exact 15
unfolding round
e15 = (15, 0, refl, refl)

-- ---- the series: with |w| at most 1 each step adds at most 1

inverse : (s : Bool) (n : ℕ) → 0 < n → Bounded 1 (round binary32 s 1 n)
inverse s n h = bounded_round 1 s 1 n e1 h (omega arith)

step : (k : ℕ) (s : Bool) (n : ℕ) (w p : Float) → Exact (1 * k) → Exact (1 + 1 * k) → 0 < n → Bounded 1 w → Bounded k p → Bounded (1 + 1 * k) (add binary32 (round binary32 s 1 n) (mul binary32 w p))
step k s n w p ek es h bw bp = add_bounded 1 (1 * k) (round binary32 s 1 n) (mul binary32 w p) es (inverse s n h) (mul_bounded 1 k w p ek bw bp)

series_bounded : (w : Float) → Bounded 1 w → Bounded 8 (series_of w)
unfolding series_of
series_bounded w b =
    let p15 = inverse true 15 (lit< tt) in
    let p13 = step 1 false 13 w _ e1 e2 (lit< tt) b p15 in
    let p11 = step 2 true 11 w _ e2 e3 (lit< tt) b p13 in
    let p9 = step 3 false 9 w _ e3 e4 (lit< tt) b p11 in
    let p7 = step 4 true 7 w _ e4 e5 (lit< tt) b p9 in
    let p5 = step 5 false 5 w _ e5 e6 (lit< tt) b p7 in
    let p3 = step 6 true 3 w _ e6 e7 (lit< tt) b p5 in
    step 7 false 1 w _ e7 e8 (lit< tt) b p3

part_bounded : (offset z : Float) → Bounded 1 offset → Bounded 1 z → Bounded 9 (part_of offset z)
unfolding part_of
part_bounded offset z bo bz = add_bounded 1 8 offset (mul binary32 z (series_of (mul binary32 z z))) e9 bo (mul_bounded 1 8 z (series_of (mul binary32 z z)) e8 bz (series_bounded (mul binary32 z z) (mul_bounded 1 1 z z e1 bz bz)))

-- ---- the quotient: from 0 to 1, so t - 1 is at most 1 in magnitude and t + 1 at least 1

one : fraction 1 1 ≡ fin false 1 (pos 0)
unfolding round
one = refl

apart_bounded : (a b c : ℕ) → 0 < c → a ≤ 1 * c → b ≤ 1 * c → Bounded 1 (sum binary32 false a true b c)
unfolding sum
apart_bounded a b c z h k = go (ltb a b)
  where
    go : (t : Bool) → Bounded 1 (cond t (round binary32 true (b - a) c) (round binary32 false (a - b) c))
    go true = bounded_round 1 true (b - a) c e1 z (omega arith)
    go false = bounded_round 1 false (a - b) c e1 z (omega arith)

less_one : (m : ℕ) (e : ℤ) → m * up e ≤ 1 * down e → Bounded 1 (sub binary32 (fin false m e) (fin false 1 (pos 0)))
unfolding sub add neg
less_one m e h = apart_bounded (m * up e * 1) (1 * 1 * down e) (down e * 1) (omega (arith, down_pos e)) (omega arith) (omega arith)

-- t + 1 is a number n * 2 ^ d of at least 1
more_one : (m : ℕ) (e : ℤ) → m * up e ≤ 1 * down e → (n : ℕ) × (d : ℤ) × (add binary32 (fin false m e) (fin false 1 (pos 0)) ≡ fin false (suc n) d) × (1 * down d ≤ suc n * up d)
unfolding add sum
more_one m e h = go (small_round 2 (m * up e * 1 + 1 * 1 * down e) (down e * 1) e2 (omega (arith, down_pos e)) (omega arith))
  where
    whole : (n : ℕ) (d : ℤ) → round binary32 false (m * up e * 1 + 1 * 1 * down e) (down e * 1) ≡ fin false n d → 1 * down d ≤ n * up d
    whole n d f = large_round 1 (m * up e * 1 + 1 * 1 * down e) (down e * 1) n d e1 (omega (arith, down_pos e)) (omega arith) f

    go : Small 2 (round binary32 false (m * up e * 1 + 1 * 1 * down e) (down e * 1)) → (n : ℕ) × (d : ℤ) × (round binary32 false (m * up e * 1 + 1 * 1 * down e) (down e * 1) ≡ fin false (suc n) d) × (1 * down d ≤ suc n * up d)
    go (zero, d, f, k) = absurd (lt_irrefl 0 (omega (arith, whole zero d f, down_pos d)))
    go (suc n, d, f, k) = (n, d, f, whole (suc n) d f)

bent_bounded : (m : ℕ) (e : ℤ) → m * up e ≤ 1 * down e → Bounded 1 (div binary32 (sub binary32 (fin false m e) (fin false 1 (pos 0))) (add binary32 (fin false m e) (fin false 1 (pos 0))))
bent_bounded m e h = go (less_one m e h) (more_one m e h)
  where
    go : Bounded 1 (sub binary32 (fin false m e) (fin false 1 (pos 0))) → (n : ℕ) × (d : ℤ) × (add binary32 (fin false m e) (fin false 1 (pos 0)) ≡ fin false (suc n) d) × (1 * down d ≤ suc n * up d) → Bounded 1 (div binary32 (sub binary32 (fin false m e) (fin false 1 (pos 0))) (add binary32 (fin false m e) (fin false 1 (pos 0))))
    go (s, a, b, f, k) (n, d, g, l) =
        let both : a * up b * down d ≤ down b * (suc n * up d) = mul-le-mul (le_trans k (le_of_eq (one-mul (down b)))) (le_trans (le_of_eq (sym (one-mul (down d)))) l) in
        rw (f, g) (div_bounded 1 s a b false n d e1 (le_trans both (le_of_eq (mul_comm (down b) (suc n * up d) ∙ sym (one-mul (suc n * up d * down b))))))

quarter : Bounded 1 (bits 0x3F490FDB)
unfolding of_bits
quarter = (false, 13176795, _, refl, omega arith)

none : Bounded 1 (bits 0)
unfolding of_bits
none = (false, 0, pos 0, refl, omega arith)

ratio_bounded : (t : Float) → Small 1 t → Bounded 9 (ratio_of t)
unfolding ratio_of
ratio_bounded t (m, e, f, h) = rw f (go (lt (fraction 53 128) (fin false m e)))
  where
    go : (b : Bool) → Bounded 9 (cond b (part_of (bits 0x3F490FDB) (div binary32 (sub binary32 (fin false m e) (fraction 1 1)) (add binary32 (fin false m e) (fraction 1 1)))) (part_of (bits 0) (fin false m e)))
    go true = rw one (part_bounded (bits 0x3F490FDB) _ quarter (bent_bounded m e h))
    go false = part_bounded (bits 0) (fin false m e) none (false, m, e, refl, h)

-- ---- hi and lo

weaker : (i j : ℕ) (x : Float) → i ≤ j → Bounded i x → Bounded j x
weaker i j x l (s, m, e, f, h) = (s, m, e, f, le_trans h (mul-le-mul_right (down e) l))

-- lo is at most hi, and hi may be 0
base_bounded : (m : ℕ) (e : ℤ) (n : ℕ) (d : ℤ) → m * up e * down d ≤ n * up d * down e → Bounded 9 (base_of (fin false m e) (fin false n d))
unfolding base_of
base_bounded m e zero d h = rw (eq_none false d) (weaker 1 9 (bits 0) (lit≤ tt) none)
base_bounded m e (suc n) d h = rw (eq_some false n d) (ratio_bounded _ (div_small 1 m e n d e1 (le_trans h (le_of_eq (sym (one-mul (suc n * up d * down e)))))))

half : Bounded 2 (bits 0x3FC90FDB)
unfolding of_bits
half = (false, 13176795, _, refl, omega arith)

straight : Bounded 4 (bits 0x40490FDB)
unfolding of_bits
straight = (false, 13176795, _, refl, omega arith)

octant_bounded : (m : ℕ) (e : ℤ) (n : ℕ) (d : ℤ) → Bounded 11 (octant_of (fin false m e) (fin false n d))
unfolding octant_of lt
octant_bounded m e n d = go (ltb (m * up e * down d) (n * up d * down e)) refl
  where
    go : (t : Bool) → ltb (m * up e * down d) (n * up d * down e) ≡ t → Bounded 11 (octant_of (fin false m e) (fin false n d))
    go true f = rw f (sub_bounded 2 9 (bits 0x3FC90FDB) (base_of (fin false m e) (fin false n d)) e11 half (base_bounded m e n d (le_of_lt (ltb-true (m * up e * down d) (n * up d * down e) f))))
    go false f = rw f (weaker 9 11 (base_of (fin false n d) (fin false m e)) (lit≤ tt) (base_bounded n d m e (ltb-false (m * up e * down d) (n * up d * down e) f)))

across_bounded : (s : Bool) (b : Float) → Bounded 11 b → Bounded 15 (across_of s b)
unfolding across_of
across_bounded true b h = sub_bounded 4 11 (bits 0x40490FDB) b e15 straight h
across_bounded false b h = weaker 11 15 b (lit≤ tt) h

below_bounded : (s : Bool) (b : Float) → Bounded 15 b → Bounded 15 (below_of s b)
unfolding below_of
below_bounded true b h = neg_bounded 15 b h
below_bounded false b h = h

angle_bounded : (dx dy : Float) → in_reach dx ≡ true → in_reach dy ≡ true → Bounded 15 (angle_rule dx dy)
unfolding angle_rule
angle_bounded dx dy p q = go (reach_bounded dx p) (reach_bounded dy q)
  where
    go : Bounded 2097152 dx → Bounded 2097152 dy → Bounded 15 (below_of (sign_of dy) (across_of (sign_of dx) (octant_of (abs_of dx) (abs_of dy))))
    go (s, m, e, f, h) (t, n, d, g, k) = rw (f, g) (below_bounded t _ (across_bounded s _ (octant_bounded m e n d)))

bounded_finite : (n : ℕ) (x : Float) → Bounded n x → finite x ≡ true
bounded_finite n x (s, m, e, f, h) = ap finite f

-- in reach the rule gives a number
pub angle_finite : (dx dy : Float) → in_reach dx ≡ true → in_reach dy ≡ true → finite (angle_rule dx dy) ≡ true
angle_finite dx dy p q = bounded_finite 15 (angle_rule dx dy) (angle_bounded dx dy p q)

-- ---- and it is a float of the format, for every two

part_fits : (offset z : Float) → T (fits binary32 (part_of offset z))
unfolding part_of
part_fits offset z = add-fits binary32 offset (mul binary32 z (series_of (mul binary32 z z)))

ratio_fits : (t : Float) → T (fits binary32 (ratio_of t))
unfolding ratio_of
ratio_fits t = cond-fits binary32 (lt (fraction 53 128) t) _ _ (part_fits _ _) (part_fits _ _)

base_fits : (lo hi : Float) → T (fits binary32 (base_of lo hi))
unfolding base_of
base_fits lo hi = cond-fits binary32 (eq hi (bits 0)) _ _ (of_bits-fits binary32 0) (ratio_fits _)

octant_fits : (mx my : Float) → T (fits binary32 (octant_of mx my))
unfolding octant_of
octant_fits mx my = cond-fits binary32 (lt mx my) _ _ (sub-fits binary32 _ _) (base_fits _ _)

across_fits : (s : Bool) (b : Float) → T (fits binary32 b) → T (fits binary32 (across_of s b))
unfolding across_of
across_fits s b h = cond-fits binary32 s _ _ (sub-fits binary32 _ _) h

below_fits : (s : Bool) (b : Float) → T (fits binary32 b) → T (fits binary32 (below_of s b))
unfolding below_of
below_fits s b h = cond-fits binary32 s _ _ (neg-fits binary32 b h) h

pub angle_fits : (dx dy : Float) → T (fits binary32 (angle_rule dx dy))
unfolding angle_rule
angle_fits dx dy = below_fits (sign_of dy) _ (across_fits (sign_of dx) _ (octant_fits (abs_of dx) (abs_of dy)))
