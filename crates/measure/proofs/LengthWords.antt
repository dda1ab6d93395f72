-- Every length is a finite float whose sign bit is clear, and such floats stand in the order of their words. Assumes nothing.
use mathlib.Core.Path.{◌≡◌, refl, sym, ap, ◌∙◌, subst}
use mathlib.Core.Bool.{Bool, true, false, cond}
use Prim.Native.Nat.{ℕ, zero, suc, ◌+◌, ◌*◌, ◌^◌, ◌≤◌, ◌<◌}
use native.Mathlib.Nat.{not-le_of_lt}
use native.Mathlib.Decide.{dec_lt}
use native.Mathlib.Omega.{arith}
use lib.Dec.{T, ltb}
use lib.Ieee.{Float, nan, inf, fin, binary32, odd, units, round, sum, add, mul, fits, lt, of_bits, to_bits, up, down}
use lib.Ieee.Bits.{of_bits-to_bits, of_bits-fits}
use lib.Ieee.Fits.{round_is, add-fits}
use lib.Ieee.Order.{drop, kept}
use lib.Ieee.Positive.{positive-finite}
use lib.Ieee.Scale.{finite}
use Rattle.measure.specs.Float.{bits, sign_of}
use Rattle.measure.specs.Pattern as pattern
use Rattle.measure.specs.Root.{units_of, IsRoot}
use Rattle.measure.specs.RootComputed.{root_of}
use Rattle.measure.specs.Length.{squares, or_zero, length_of}
use Rattle.measure.specs.Value.{whole_of}
use Rattle.measure.proofs.Sign.{odd_sign}
use Rattle.measure.proofs.Patterns.{units_mono, units_lt}
use Rattle.measure.proofs.PatternFloats.{positive_sign, clear_units}
use Rattle.measure.proofs.RootComputed.{root_of_rule}
use Rattle.measure.proofs.Value.{same_lt, both_above, lt_value}

pub record IsLength (x : Float) : Type 0 where
  pub held : T (fits binary32 x)
  pub number : T (finite x)
  pub clear : sign_of x ≡ false

-- ---- a sum of two squares has its sign bit clear

pick_sign : (b s : Bool) (x : Float) → sign_of x ≡ s → sign_of (cond b x (inf s)) ≡ s
pick_sign true s x h = h
pick_sign false s x h = refl

units_sign : (s : Bool) (q k : ℕ) → sign_of (units binary32 s q k) ≡ s
unfolding units
units_sign s q k = pick_sign (ltb (q * 2 ^ k) (2 ^ 277)) s (odd 25 s q k 149) (odd_sign 25 s q k 149)

round_sign : (s : Bool) (a b : ℕ) → sign_of (round binary32 s a b) ≡ s
round_sign s a b = ap sign_of (round_is binary32 s a b) ∙ units_sign s (kept 24 (a * 2 ^ 149) b) (drop 24 (a * 2 ^ 149) b)

square_clear : (x : Float) → sign_of (mul binary32 x x) ≡ false
unfolding mul
square_clear nan = refl
square_clear (inf true) = refl
square_clear (inf false) = refl
square_clear (fin true m e) = round_sign false (m * up e * (m * up e)) (down e * down e)
square_clear (fin false m e) = round_sign false (m * up e * (m * up e)) (down e * down e)

sum_clear : (x y : Float) → sign_of x ≡ false → sign_of y ≡ false → sign_of (add binary32 x y) ≡ false
unfolding add sum
sum_clear nan y p q = refl
sum_clear (inf s) nan p q = refl
sum_clear (inf s) (inf t) p q = rw (p, q)
sum_clear (inf s) (fin t n d) p q = p
sum_clear (fin s m e) nan p q = refl
sum_clear (fin s m e) (inf t) p q = q
sum_clear (fin s m e) (fin t n d) p q = rw (p, q) (round_sign false (m * up e * down d + n * up d * down e) (down e * down d))

squares_clear : (dx dy : Float) → sign_of (squares dx dy) ≡ false
squares_clear dx dy = sum_clear (mul binary32 dx dx) (mul binary32 dy dy) (square_clear dx) (square_clear dy)

-- ---- so its root is a length, and where there is none so is 0

none : IsLength (bits 0)
unfolding of_bits
none = record { held = of_bits-fits binary32 0; number = tt; clear = refl }

root_is : (x y : Float) → IsRoot x y → IsLength y
root_is x y r = record { held = r.held; number = positive-finite y r.positive; clear = positive_sign y r.positive }

root_length : (x : Float) → T (fits binary32 x) → sign_of x ≡ false → IsLength (or_zero (root_of x))
unfolding root_of or_zero
root_length nan f s = none
root_length (inf t) f s = none
root_length (fin t zero e) f s = record { held = f; number = tt; clear = s }
root_length (fin true (suc m) e) f s = none
root_length (fin false (suc m) e) f s = let r = root_of_rule (fin false (suc m) e) f in subst IsLength (sym (ap or_zero r.1)) (root_is (fin false (suc m) e) r.0 r.2)

pub length_is : (dx dy : Float) → IsLength (length_of dx dy)
unfolding length_of
length_is dx dy = root_length (squares dx dy) (add-fits binary32 (mul binary32 dx dx) (mul binary32 dy dy)) (squares_clear dx dy)

-- ---- the words of such floats

pub word_back : (x : Float) → IsLength x → of_bits binary32 (to_bits binary32 x) ≡ x
word_back x l = of_bits-to_bits binary32 x l.held

-- two that have one word are equal
pub word_one : (x y : Float) → IsLength x → IsLength y → to_bits binary32 x ≡ to_bits binary32 y → x ≡ y
word_one x y l m e = sym (word_back x l) ∙ ap (of_bits binary32) e ∙ word_back y m

value_clear : (x : Float) → sign_of x ≡ false → whole_of x ≡ 2 ^ 277 + units_of x
unfolding whole_of
value_clear x s = rw s

units_back : (b c : ℕ) → pattern.units b ≤ pattern.units c → b ≤ c
units_back b c h = go (dec_lt c b)
  where
    go : Dec (c < b) → b ≤ c
    go (yes l) = absurd (not-le_of_lt (units_lt c b l) h)
    go (no l) = omega arith

pub word_order : (x y : Float) → IsLength x → IsLength y → lt x y ≡ ltb (to_bits binary32 x) (to_bits binary32 y)
word_order x y l m =
    let b = to_bits binary32 x in
    let c = to_bits binary32 y in
    rw (lt_value x y l.held l.number m.held m.number, value_clear x l.clear, value_clear y m.clear, both_above (2 ^ 277) (units_of x) (units_of y), clear_units x l.held l.number l.clear, clear_units y m.held m.number m.clear)
    (same_lt (pattern.units b) (pattern.units c) b c (λ h. units_back c b h) (λ h. units_mono c b h))
