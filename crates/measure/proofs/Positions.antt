-- Inside a frame no angle and no length is refused: a difference of two positions is in reach, a centroid of four is a position. Assumes nothing.
use Rattle.std.specs.Prelude.{Ok}
use mathlib.Core.Path.{◌≡◌, refl, sym, subst}
use mathlib.Core.Bool.{true, false}
use lib.Ieee.{Float, fin, binary32, add, sub, round}
use lib.Dec.{T}
use lib.Ieee.Scale.{finite}
use lib.IntN.{pos}
use Rattle.measure.specs.Float.{fraction}
use Rattle.measure.specs.Position.{is_position, in_reach, centroid_of}
use Rattle.measure.specs.Angle.{angle_of, angle_rule, reached}
use Rattle.measure.proofs.Rounding.{Bounded, Exact}
use Rattle.measure.proofs.Bounds.{within_bounded, bounded_within, add_bounded, sub_bounded, quarter_bounded}

exact20 : Exact 1048576
unfolding round
exact20 = (1, 20, refl, refl)

exact21 : Exact 2097152
unfolding round
exact21 = (1, 21, refl, refl)

exact3 : Exact 3145728
unfolding round
exact3 = (3, 20, refl, refl)

exact22 : Exact 4194304
unfolding round
exact22 = (1, 22, refl, refl)

position_bounded : (x : Float) → is_position x ≡ true → Bounded 1048576 x
unfolding round
position_bounded x h = within_bounded 1 20 x h

pub position_finite : (x : Float) → is_position x ≡ true → T (finite x)
position_finite x h = let b = position_bounded x h in subst (λ (y : Float). T (finite y)) (sym b.3) tt

bounded_position : (x : Float) → Bounded 1048576 x → is_position x ≡ true
unfolding round
bounded_position x h = bounded_within 1 20 x h

pub reach_bounded : (d : Float) → in_reach d ≡ true → Bounded 2097152 d
unfolding round
reach_bounded d h = within_bounded 1 21 d h

bounded_reach : (d : Float) → Bounded 2097152 d → in_reach d ≡ true
unfolding round
bounded_reach d h = bounded_within 1 21 d h

pub difference_in_reach : (x y : Float) → is_position x ≡ true → is_position y ≡ true → in_reach (sub binary32 x y) ≡ true
difference_in_reach x y p q = bounded_reach (sub binary32 x y) (sub_bounded 1048576 1048576 x y exact21 (position_bounded x p) (position_bounded y q))

four : fraction 4 1 ≡ fin false 1 (pos 2)
unfolding round
four = refl

pub centroid_in_range : (a b c d : Float) → is_position a ≡ true → is_position b ≡ true → is_position c ≡ true → is_position d ≡ true → is_position (centroid_of a b c d) ≡ true
unfolding centroid_of
centroid_in_range a b c d p q r s =
    let two = add_bounded 1048576 1048576 a b exact21 (position_bounded a p) (position_bounded b q) in
    let three = add_bounded 2097152 1048576 (add binary32 a b) c exact3 two (position_bounded c r) in
    let all = add_bounded 3145728 1048576 (add binary32 (add binary32 a b) c) d exact22 three (position_bounded d s) in
    rw four (bounded_position _ (quarter_bounded 1048576 (add binary32 (add binary32 (add binary32 a b) c) d) exact20 all))

-- in reach the call gives the rule's angle
pub angle_known : (dx dy : Float) → in_reach dx ≡ true → in_reach dy ≡ true → angle_of dx dy ≡ Ok (angle_rule dx dy)
unfolding angle_of reached
angle_known dx dy p q = rw (p, q)
