-- In merging no angle is refused: each corner's differences from the centroid are in reach. Assumes nothing.
use Rattle.std.specs.Prelude.{Ok}
use mathlib.Core.Path.{◌≡◌}
use mathlib.Core.List.{List}
use Prim.Native.Nat.{ℕ}
use lib.Ieee.{Float, nan, binary32, sub}
use lib.ListN.{length, get_or}
use Rattle.measure.specs.Angle.{angle_of}
use Rattle.measure.proofs.Positions.{difference_in_reach, angle_known}
use Rattle.quads.specs.declared.Quad.{Quad}
use Rattle.quads.specs.Order.{corner_at, middle_of, angle_seen, angle_from}
use Rattle.quads.specs.inner.Ordering.{Standing, Exist}
use Rattle.quads.proofs.Sorted.{corner_in_lem, middle_x, middle_y}

pub never_refused : (xs ys : List Float) → Standing xs ys → (q : Quad) → Exist (length xs) q → (k : ℕ)
    → angle_of (sub binary32 (get_or xs (corner_at q k) nan) (middle_of xs q)) (sub binary32 (get_or ys (corner_at q k) nan) (middle_of ys q)) ≡ Ok (angle_from xs ys q (corner_at q k))
unfolding angle_seen
never_refused xs ys s q e k =
    let p = s.placed _ (corner_in_lem (length xs) q e k) in
    angle_known _ _ (difference_in_reach _ _ p.0 (middle_x xs ys s q e)) (difference_in_reach _ _ p.1 (middle_y xs ys s q e))
