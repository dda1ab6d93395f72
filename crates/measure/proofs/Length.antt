-- For differences in reach the root of the sum of squares is known, and so the length is that root. Assumes nothing.
use Rattle.std.specs.Prelude.{Ok}
use mathlib.Core.Path.{◌≡◌, refl, sym, subst}
use mathlib.Core.Bool.{true, false}
use Prim.Native.Nat.{ℕ, zero, suc, ◌+◌, ◌*◌}
use lib.IntN.{ℤ}
use lib.Ieee.{Float, fin, binary32, mul, round}
use Rattle.measure.specs.Length.{squares, or_zero, length_of}
use Rattle.measure.specs.Position.{in_reach}
use Rattle.measure.specs.RootComputed.{root_of}
use Rattle.measure.proofs.Rounding.{Small, Exact}
use Rattle.measure.proofs.Bounds.{square_small, add_small}
use Rattle.measure.proofs.Positions.{reach_bounded}

exact42 : Exact (2097152 * 2097152)
unfolding round
exact42 = (1, 42, refl, refl)

exact43 : Exact (2097152 * 2097152 + 2097152 * 2097152)
unfolding round
exact43 = (1, 43, refl, refl)

-- a float whose sign bit is clear has a root
clear_known : (m : ℕ) (e : ℤ) → root_of (fin false m e) ≡ Ok (or_zero (root_of (fin false m e)))
unfolding root_of or_zero
clear_known zero e = refl
clear_known (suc m) e = refl

small_known : (n : ℕ) (x : Float) → Small n x → root_of x ≡ Ok (or_zero (root_of x))
small_known n x (m, e, p, h) = subst (λ (z : Float). root_of z ≡ Ok (or_zero (root_of z))) (sym p) (clear_known m e)

pub length_known : (dx dy : Float) → in_reach dx ≡ true → in_reach dy ≡ true → root_of (squares dx dy) ≡ Ok (length_of dx dy)
unfolding length_of
length_known dx dy p q =
    small_known (2097152 * 2097152 + 2097152 * 2097152) (squares dx dy)
    (add_small (2097152 * 2097152) (2097152 * 2097152) (mul binary32 dx dx) (mul binary32 dy dy) exact43
    (square_small 2097152 dx exact42 (reach_bounded dx p)) (square_small 2097152 dy exact42 (reach_bounded dy q)))
