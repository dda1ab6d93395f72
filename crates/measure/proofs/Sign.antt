-- The sign bit by its pattern and by std's word, and the magnitude by the sign bit. Assumes nothing.
use mathlib.Core.Path.{◌≡◌, refl, sym, ap, ◌∙◌, subst}
use mathlib.Core.Bool.{Bool, true, false, cond, not, false≢true}
use Prim.Native.Nat.{ℕ, zero, suc, ◌+◌, ◌%◌, ◌/◌}
use lib.Dec.{T, leb, eqb}
use lib.Ieee.{Float, nan, inf, fin, binary32, odd, of_fields, of_bits, to_bits, is_nan, fits, neg}
use lib.Ieee.Bits.{of_bits-to_bits}
use Rattle.std.specs.Float.{is_sign_negative}
use Rattle.measure.specs.Float.{sign_of, abs_of}

pub odd_sign : (d : ℕ) (s : Bool) (q k l : ℕ) → sign_of (odd d s q k l) ≡ s
unfolding odd
odd_sign d s zero k l = refl
odd_sign d s (suc q) k l = refl

pick_sign : (b c s : Bool) (v : Float) → sign_of v ≡ s → T (not (is_nan (cond b (cond c (inf s) nan) v))) → sign_of (cond b (cond c (inf s) nan) v) ≡ s
unfolding is_nan
pick_sign true true s v e h = refl
pick_sign true false s v e h = absurd h
pick_sign false c s v e h = e

fields_sign : (s : Bool) (x t : ℕ) → T (not (is_nan (of_fields binary32 s x t))) → sign_of (of_fields binary32 s x t) ≡ s
unfolding of_fields
fields_sign s zero t h = odd_sign 24 s t 0 149
fields_sign s (suc x) t h = pick_sign (eqb (suc x) 255) (eqb t 0) s (odd 24 s (8388608 + t) x 149) (odd_sign 24 s (8388608 + t) x 149) h

bits_sign : (b : ℕ) → T (not (is_nan (of_bits binary32 b))) → sign_of (of_bits binary32 b) ≡ leb 2147483648 b
unfolding of_bits
bits_sign b h = fields_sign (leb 2147483648 b) (b % 2147483648 / 8388608) (b % 8388608) h

number_sign : (x : Float) → T (fits binary32 x) → T (not (is_nan x)) → leb 2147483648 (to_bits binary32 x) ≡ sign_of x
number_sign x f h =
    let e = of_bits-to_bits binary32 x f in
    sym (bits_sign (to_bits binary32 x) (subst (λ (y : Float). T (not (is_nan y))) (sym e) h)) ∙ ap sign_of e

-- a NaN's word has its sign bit clear
pub sign_of_bits : (x : Float) → T (fits binary32 x) → leb 2147483648 (to_bits binary32 x) ≡ sign_of x
unfolding is_nan to_bits
sign_of_bits nan f = refl
sign_of_bits (inf s) f = number_sign (inf s) f tt
sign_of_bits (fin s m e) f = number_sign (fin s m e) f tt

-- ---- std's word for the sign

pub negative_is : (x : Float) → is_sign_negative x ≡ sign_of x
unfolding is_sign_negative
negative_is nan = refl
negative_is (inf s) = refl
negative_is (fin s m e) = refl

pub nan_clear : (x : Float) → is_nan x ≡ true → false ≡ sign_of x
unfolding is_nan
nan_clear nan h = refl
nan_clear (inf s) h = absurd (false≢true h)
nan_clear (fin s m e) h = absurd (false≢true h)

-- ---- the magnitude by the sign bit

pub abs_set : (x : Float) → sign_of x ≡ true → neg x ≡ abs_of x
unfolding neg
abs_set nan e = refl
abs_set (inf s) e = ap (λ (t : Bool). inf (not t)) e
abs_set (fin s m e) h = ap (λ (t : Bool). fin (not t) m e) h

pub abs_clear : (x : Float) → sign_of x ≡ false → x ≡ abs_of x
abs_clear nan e = refl
abs_clear (inf s) e = ap inf e
abs_clear (fin s m e) h = ap (λ (t : Bool). fin t m e) h
