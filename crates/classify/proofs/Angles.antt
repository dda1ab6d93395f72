-- Inside a frame no angle of a half-edge is refused: its corners are positions. Assumes nothing.
use Rattle.std.specs.Prelude.{Ok}
use mathlib.Core.Path.{◌≡◌}
use Prim.Native.Nat.{ℕ, ◌<◌}
use lib.Ieee as Ieee
use lib.Ieee.{nan, binary32}
use lib.ListN.{length, get_or}
use Rattle.measure.specs.Angle.{angle_of}
use Rattle.measure.proofs.Positions.{difference_in_reach, angle_known}
use Rattle.mesh.specs.HalfEdge.{start_of, end_of, next_of}
use Rattle.mesh.proofs.HalfEdge.{next_lt}
use Rattle.classify.specs.Classes.{Input, angle_between}
use Rattle.classify.specs.inner.Triangle.{Sound}

pub between_known : (i : Input) → Sound i → (a b : ℕ) → a < length i.xs → b < length i.xs
    → angle_of (Ieee.sub binary32 (get_or i.xs b nan) (get_or i.xs a nan)) (Ieee.sub binary32 (get_or i.ys b nan) (get_or i.ys a nan)) ≡ Ok (angle_between i.xs i.ys a b)
unfolding angle_between
between_known i s a b ha hb =
    let p = s.placed a ha in
    let q = s.placed b hb in
    angle_known _ _ (difference_in_reach _ _ q.0 p.0) (difference_in_reach _ _ q.1 p.1)

pub half_edge_known : (i : Input) → Sound i → (e : ℕ) → e < length i.triangles
    → angle_of (Ieee.sub binary32 (get_or i.xs (end_of i.triangles e) nan) (get_or i.xs (start_of i.triangles e) nan)) (Ieee.sub binary32 (get_or i.ys (end_of i.triangles e) nan) (get_or i.ys (start_of i.triangles e) nan)) ≡ Ok (angle_between i.xs i.ys (start_of i.triangles e) (end_of i.triangles e))
half_edge_known i s e h = between_known i s _ _ (s.named e h) (s.named (next_of e) (next_lt _ e s.whole h))
