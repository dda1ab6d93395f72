-- The rest of x by pi, where x is below two pi in magnitude, is x itself or a sum: no division. Assumes nothing.
use mathlib.Core.Path.{◌≡◌, sym, ap, ◌∙◌}
use mathlib.Core.Bool.{Bool, true, false, false≢true}
use Prim.Native.Nat.{ℕ, ◌+◌, ◌-◌, ◌*◌, ◌%◌, ◌≤◌, ◌<◌}
use native.Mathlib.Nat.{mul_assoc, mul_comm, mul-pos, mod-eq_of_lt, mod-eq-sub-mod}
use native.Mathlib.Omega.{arith}
use borrow.Author.Tests.{ltb-true, ltb-false, lt-ltb, le-ltb}
use lib.Dec.{T, lit<}
use lib.IntN.{ℤ}
use lib.Ieee.{Float, nan, inf, fin, binary32, up, down, round, fits, rem, sub, add, sum, neg, lt, of_bits}
use lib.Ieee.Fits.{down_pos}
use lib.Ieee.Scale.{round_same}
use Rattle.measure.proofs.Own.{round_own}
use Rattle.measure.proofs.Rounding.{round_neg}
use Rattle.measure.specs.Distance.{pi}
use Rattle.measure.specs.Float.{bits}

-- pi is 13176795 / 2^22; a difference of magnitude m * up e / down e against it
abbrev ours : ℕ → ℤ → ℕ
ours m e = m * up e * 4194304

abbrev its : ℤ → ℕ
its e = 13176795 * 1 * down e

pub at_rest : (s : Bool) (m : ℕ) (e : ℤ) → T (fits binary32 (fin s m e)) → ours m e < its e → rem binary32 (fin s m e) pi ≡ fin s m e
unfolding rem of_bits
at_rest s m e t h =
    ap (λ (x : ℕ). round binary32 s x (down e * 4194304)) (mod-eq_of_lt h)
    ∙ round_same binary32 s (ours m e) (down e * 4194304) (m * up e) (down e) (mul-pos (down_pos e) (lit< tt)) (down_pos e) (mul_assoc (m * up e) 4194304 (down e) ∙ ap (λ (x : ℕ). m * up e * x) (mul_comm 4194304 (down e)))
    ∙ round_own binary32 s m e t

one_off : (a b : ℕ) → b ≤ a → a < b + b → a % b ≡ a - b
one_off a b h l = let q : a - b < b = omega arith in mod-eq-sub-mod h ∙ mod-eq_of_lt q

pub rest_small : (x : Float) → T (fits binary32 x) → lt x pi ≡ true → lt (neg pi) x ≡ true → rem binary32 x pi ≡ x
unfolding lt of_bits neg
rest_small nan t h k = absurd (false≢true h)
rest_small (inf true) t h k = absurd (false≢true k)
rest_small (inf false) t h k = absurd (false≢true h)
rest_small (fin false m e) t h k = at_rest false m e t (ltb-true (ours m e) (its e) h)
rest_small (fin true m e) t h k = at_rest true m e t (ltb-true (ours m e) (its e) k)

pub rest_above : (x : Float) → lt x pi ≡ false → lt x (bits 0x40C90FDB) ≡ true → rem binary32 x pi ≡ sub binary32 x pi
unfolding lt of_bits rem sub add neg sum
rest_above nan h k = absurd (false≢true k)
rest_above (inf true) h k = absurd (false≢true (sym h))
rest_above (inf false) h k = absurd (false≢true k)
rest_above (fin true m e) h k = absurd (false≢true (sym h ∙ lt-ltb 0 (ours m e + its e) (omega (arith, down_pos e))))
rest_above (fin false m e) h k =
    let b : its e ≤ ours m e = ltb-false (ours m e) (its e) h in
    let l : ours m e < its e + its e = omega (arith, ltb-true (m * up e * 2097152) (13176795 * 1 * down e) k) in
    rw (le-ltb (ours m e) (its e) b, one_off (ours m e) (its e) b l)

-- the negative side in a form that is right at -pi too
pub rest_mirror : (x : Float) → lt (neg pi) x ≡ false → lt (neg (bits 0x40C90FDB)) x ≡ true → rem binary32 x pi ≡ neg (sub binary32 (neg x) pi)
unfolding lt of_bits rem sub add neg sum
rest_mirror nan h k = absurd (false≢true k)
rest_mirror (inf true) h k = absurd (false≢true k)
rest_mirror (inf false) h k = absurd (false≢true (sym h))
rest_mirror (fin false m e) h k = absurd (false≢true (sym h ∙ lt-ltb 0 (its e + ours m e) (omega (arith, down_pos e))))
rest_mirror (fin true m e) h k =
    let b : its e ≤ ours m e = ltb-false (ours m e) (its e) h in
    let l : ours m e < its e + its e = omega (arith, ltb-true (m * up e * 2097152) (13176795 * 1 * down e) k) in
    rw (le-ltb (ours m e) (its e) b, one_off (ours m e) (its e) b l) (round_neg (ours m e - its e) (down e * 4194304))
