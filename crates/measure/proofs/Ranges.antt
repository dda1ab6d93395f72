-- The code's tests of a range are the ranges of the definitions: finite, above zero, equal to zero, within a magnitude. Assumes nothing.
use mathlib.Core.Path.{◌≡◌, refl, sym, ◌∙◌}
use mathlib.Core.Bool.{Bool, true, false, cond, not, ◌&&◌, ◌||◌, and-true}
use Prim.Native.Nat.{ℕ, zero, suc, ◌+◌, ◌*◌, ◌<◌}
use native.Mathlib.Nat.{mul-pos, zero-lt-suc}
use native.Mathlib.Omega.{arith}
use borrow.Author.Tests.{lt-ltb, le-ltb, eqb-true, eqb-false, eq-eqb, ne_eqb}
use lib.Dec.{T, ltb, eqb}
use lib.IntN.{ℤ}
use lib.Ieee.{Float, nan, inf, fin, binary32, of_bits, le, lt, eq, neg, up, down}
use lib.Ieee.Fits.{up_pos}
use lib.Ieee.Positive.{positive}
use lib.Ieee.Scale.{finite}
use Rattle.measure.specs.Float.{sign_of, within}

-- the two infinities as the code names them
abbrev most : Float
most = of_bits binary32 0x7f80_0000

abbrev least : Float
least = of_bits binary32 0xff80_0000

pub finite_by : (x : Float) → cond (lt x most) (lt least x) false ≡ finite x
unfolding lt of_bits
finite_by nan = refl
finite_by (inf true) = refl
finite_by (inf false) = refl
finite_by (fin s m e) = refl

pub positive_by : (x : Float) → cond (lt (of_bits binary32 0) x) (lt x most) false ≡ positive x
unfolding lt of_bits
positive_by nan = refl
positive_by (inf true) = refl
positive_by (inf false) = refl
positive_by (fin true m e) = refl
positive_by (fin false zero e) = rw (le-ltb (0 * down e) (0 * up e * 1) (omega arith))
positive_by (fin false (suc m) e) =
    let p : 0 < suc m * up e = mul-pos (zero-lt-suc m) (up_pos e) in
    rw (lt-ltb (0 * down e) (suc m * up e * 1) (omega arith), lt-ltb 0 (suc m) (zero-lt-suc m))

-- ---- equal to zero, of either sign

some_is_not : (m u d : ℕ) → 0 < u → eqb (suc m * u * 1) (0 * d) ≡ false
some_is_not m u d h = let p : 0 < suc m * u = mul-pos (zero-lt-suc m) h in ne_eqb (suc m * u * 1) (0 * d) (λ q. omega arith)

pub eq_some : (s : Bool) (m : ℕ) (e : ℤ) → eq (fin s (suc m) e) (of_bits binary32 0) ≡ false
unfolding eq of_bits
eq_some s m e = rw (some_is_not m (up e) (down e) (up_pos e))

pub eq_none : (s : Bool) (e : ℤ) → eq (fin s zero e) (of_bits binary32 0) ≡ true
unfolding eq of_bits
eq_none true e = let z : 0 * up e * 1 ≡ 0 = omega arith in let y : 0 * down e ≡ 0 = omega arith in rw (z, y)
eq_none false e = let z : 0 * up e * 1 ≡ 0 = omega arith in let y : 0 * down e ≡ 0 = omega arith in rw (z, y)

-- ---- within a magnitude: x ≤ most and -most ≤ x

some : (a b : ℕ) → (ltb 0 (a + b) || (eqb a b && eqb a 0)) ≡ true
some zero zero = refl
some (suc a) b = rw (lt-ltb 0 (suc a + b) (omega arith))
some zero (suc b) = rw (lt-ltb 0 (zero + suc b) (omega arith))

eqb_sym : (a b : ℕ) → eqb a b ≡ eqb b a
eqb_sym a b = go (eqb a b) refl
  where
    go : (t : Bool) → eqb a b ≡ t → eqb a b ≡ eqb b a
    go true e = e ∙ sym (eq-eqb b a (sym (eqb-true a b e)))
    go false e = e ∙ sym (ne_eqb b a (λ q. eqb-false a b e (sym q)))

pub within_by : (x top : Float) → T (finite top && not (sign_of top)) → (le x top && le (neg top) x) ≡ within top x
unfolding within le lt eq neg
within_by x nan h = absurd h
within_by x (inf s) h = absurd h
within_by x (fin true n d) h = absurd h
within_by nan (fin false n d) h = refl
within_by (inf true) (fin false n d) h = refl
within_by (inf false) (fin false n d) h = refl
within_by (fin false m e) (fin false n d) h = rw (some (n * up d * down e) (m * up e * down d), and-true)
within_by (fin true m e) (fin false n d) h = rw (some (m * up e * down d) (n * up d * down e), eqb_sym (n * up d * down e) (m * up e * down d))
