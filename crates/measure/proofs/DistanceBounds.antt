-- A distance is finite and at least 0, or -0: the rest by pi is at most pi in magnitude, and what stands after the first step at most pi.
-- Assumes nothing.
use mathlib.Core.Path.{◌≡◌, refl, subst}
use mathlib.Core.Bool.{Bool, true, false, cond}
use Prim.Native.Nat.{ℕ, ◌+◌, ◌-◌, ◌*◌, ◌%◌, ◌≤◌, ◌<◌}
use native.Mathlib.Nat.{mul-pos, mod-lt}
use native.Mathlib.Omega.{arith}
use borrow.Author.Tests.{ltb-false, le-ltb, eq-eqb}
use lib.Dec.{T, ltb, lit<}
use lib.IntN.{ℤ}
use lib.Ieee.{Float, nan, inf, fin, binary32, up, down, round, rem, sub, add, sum, neg, lt, le, eq, of_bits}
use lib.Ieee.Bits.{is_true}
use lib.Ieee.Fits.{down_pos}
use lib.Ieee.Order.{round_mono}
use lib.Ieee.Scale.{finite}
use Rattle.measure.specs.Float.{bits}
use Rattle.measure.specs.Distance.{pi, lifted, folded, apart, number_or_none, distance_of}
use Rattle.measure.proofs.Rounding.{or_le, small_round, round_neg}
use Rattle.measure.proofs.Bounds.{le_or}
use Rattle.measure.proofs.AngleBounds.{e4}
use Rattle.measure.specs.declared.Distance.{Distance}
use Rattle.measure.specs.declared.Distance.TheVariants.{Known, Missing}

-- ---- a fraction of at most pi, which is 13176795 / 2^22, rounds to at most pi

abbrev InPi : ℕ → ℤ → Type 0
InPi m e = m * up e * 4194304 ≤ 13176795 * 1 * down e

abbrev UpToPi : Float → Type 0
UpToPi x = (m : ℕ) × (e : ℤ) × (x ≡ fin false m e) × InPi m e

own : round binary32 false 13176795 4194304 ≡ pi
unfolding round of_bits
own = refl

le_pi : (m : ℕ) (e : ℤ) → le (fin false m e) pi ≡ true → InPi m e
unfolding le lt eq of_bits
le_pi m e h = or_le (m * up e * 4194304) (13176795 * 1 * down e) true h

round_up_to : (a b : ℕ) → 0 < b → a * 4194304 ≤ 13176795 * b → UpToPi (round binary32 false a b)
round_up_to a b z h = go (small_round 4 a b e4 z (omega arith))
  where
    below : le (round binary32 false a b) pi ≡ true
    below = subst (λ (y : Float). le (round binary32 false a b) y ≡ true) own (is_true _ (round_mono binary32 a b 13176795 4194304 z (lit< tt) h))

    go : (m : ℕ) × (e : ℤ) × (round binary32 false a b ≡ fin false m e) × (m * up e ≤ 4 * down e) → UpToPi (round binary32 false a b)
    go (m, e, p, l) = (m, e, p, le_pi m e (subst (λ (y : Float). le y pi ≡ true) p below))

-- ---- what is at least 0

from_zero : (m : ℕ) (e : ℤ) → le (bits 0) (fin false m e) ≡ true
unfolding le lt eq of_bits
from_zero m e = le_or (0 * 1 * down e) (m * up e * 1) (omega arith)

minus_zero : (m : ℕ) (e : ℤ) → m * up e ≡ 0 → le (bits 0) (fin true m e) ≡ true
unfolding le lt eq of_bits
minus_zero m e h =
    let same : 0 * 1 * down e ≡ m * up e * 1 = omega (arith, h) in
    let none : 0 * 1 * down e ≡ 0 = omega arith in
    rw (eq-eqb _ _ same, eq-eqb _ _ none)

up_from_zero : (x : Float) → UpToPi x → le (bits 0) x ≡ true
up_from_zero x (m, e, p, h) = rw p (from_zero m e)

-- ---- the first step: below 0 add pi

-- pi less a magnitude of at most pi, as the sum takes it
pi_less : (m : ℕ) (e : ℤ) → InPi m e → UpToPi (add binary32 (fin true m e) pi)
unfolding add sum of_bits
pi_less m e h = go (ltb (m * up e * 4194304) (13176795 * 1 * down e)) refl
  where
    room : 0 < down e * 4194304
    room = mul-pos (down_pos e) (lit< tt)

    go : (t : Bool) → ltb (m * up e * 4194304) (13176795 * 1 * down e) ≡ t
        → UpToPi (cond (ltb (m * up e * 4194304) (13176795 * 1 * down e)) (round binary32 false (13176795 * 1 * down e - m * up e * 4194304) (down e * 4194304)) (round binary32 (ltb (13176795 * 1 * down e) (m * up e * 4194304)) (m * up e * 4194304 - 13176795 * 1 * down e) (down e * 4194304)))
    go true q = rw q (round_up_to (13176795 * 1 * down e - m * up e * 4194304) (down e * 4194304) room (omega arith))
    go false q = rw (q, le-ltb (13176795 * 1 * down e) (m * up e * 4194304) h) (round_up_to (m * up e * 4194304 - 13176795 * 1 * down e) (down e * 4194304) room (omega (arith, h)))

-- ---- the second: above pi/2 take pi less it

folded_from_zero : (x : Float) → UpToPi x → le (bits 0) (folded x) ≡ true
unfolding folded sub add neg sum of_bits
folded_from_zero x (m, e, p, h) = rw p (go (lt (bits 0x3FC90FDB) (fin false m e)))
  where
    less : le (bits 0) (sub binary32 pi (fin false m e)) ≡ true
    less = rw (le-ltb (13176795 * 1 * down e) (m * up e * 4194304) h) (up_from_zero _ (round_up_to (13176795 * 1 * down e - m * up e * 4194304) (4194304 * down e) (mul-pos (lit< tt) (down_pos e)) (omega arith)))

    go : (t : Bool) → le (bits 0) (cond t (sub binary32 pi (fin false m e)) (fin false m e)) ≡ true
    go true = less
    go false = from_zero m e

-- ---- both, of a rest by pi

not_below_lem : (m : ℕ) (e : ℤ) → lt (fin false m e) (bits 0) ≡ false
unfolding lt of_bits
not_below_lem m e = le-ltb (m * up e * 1) (0 * 1 * down e) (omega arith)

-- a rest with its sign bit set that is not below 0 is -0
at_zero : (m : ℕ) (e : ℤ) → lt (fin true m e) (bits 0) ≡ false → le (bits 0) (folded (fin true m e)) ≡ true
unfolding folded lt of_bits
at_zero m e h = minus_zero m e (omega (arith, ltb-false 0 (m * up e * 1 + 0 * 1 * down e) h))

steps_from_zero : (s : Bool) (m : ℕ) (e : ℤ) → InPi m e → le (bits 0) (folded (lifted (fin s m e))) ≡ true
unfolding lifted
steps_from_zero false m e h = rw (not_below_lem m e) (folded_from_zero (fin false m e) (m, e, refl, h))
steps_from_zero true m e h = go (lt (fin true m e) (bits 0)) refl
  where
    go : (t : Bool) → lt (fin true m e) (bits 0) ≡ t → le (bits 0) (folded (cond (lt (fin true m e) (bits 0)) (add binary32 (fin true m e) pi) (fin true m e))) ≡ true
    go true q = rw q (folded_from_zero _ (pi_less m e h))
    go false q = rw q (at_zero m e q)

rounded_from_zero : (s : Bool) (a b : ℕ) → 0 < b → a * 4194304 ≤ 13176795 * b → le (bits 0) (folded (lifted (round binary32 s a b))) ≡ true
unfolding neg
rounded_from_zero s a b z h = go s (round_up_to a b z h)
  where
    go : (s : Bool) → UpToPi (round binary32 false a b) → le (bits 0) (folded (lifted (round binary32 s a b))) ≡ true
    go false (m, e, p, l) = rw p (steps_from_zero false m e l)
    go true (m, e, p, l) = rw (round_neg a b, p) (steps_from_zero true m e l)

-- ---- a distance

-- the steps of a number that is not finite give none
apart_from_zero : (x : Float) → T (finite (folded (lifted (rem binary32 x pi)))) → le (bits 0) (folded (lifted (rem binary32 x pi))) ≡ true
unfolding rem lifted folded lt of_bits
apart_from_zero nan f = absurd f
apart_from_zero (inf s) f = absurd f
apart_from_zero (fin s m e) f =
    let some : 0 < 13176795 * 1 * down e = mul-pos (lit< tt) (down_pos e) in
    rounded_from_zero s (m * up e * 4194304 % (13176795 * 1 * down e)) (down e * 4194304) (mul-pos (down_pos e) (lit< tt)) (omega (arith, mod-lt (m * up e * 4194304) some))

abbrev pub FromZero : Distance → Type 0
FromZero (Known d) = T (finite d) × (le (bits 0) d ≡ true)
FromZero Missing = Unit

pub distance_from_zero : (angle axis : Float) → FromZero (distance_of angle axis)
unfolding distance_of apart number_or_none
distance_from_zero angle axis = go (finite (apart angle axis)) refl
  where
    go : (t : Bool) → finite (apart angle axis) ≡ t → FromZero (number_or_none t (apart angle axis))
    go true e = let number : T (finite (apart angle axis)) = rw e tt in (number, apart_from_zero _ number)
    go false e = tt
