-- Document 01, "Classes", over the lists of a frame: each half-edge is judged for itself.
use Rattle.std.specs.Prelude.{List, ℕ, Float, length, get_or}
use Rattle.std.specs.Float.Ieee as Ieee
use Rattle.std.specs.Float.{nan, binary32}
use Rattle.std.specs.Borrow.{Bor}
use Rattle.words.specs.Listing.{listing}
use Rattle.measure.specs.Angle.{angle_rule}
use Rattle.axis.specs.declared.Axes.{Axes}
use Rattle.axis.specs.declared.AxisCache.{AxisCache}
use Rattle.axis.specs.Cache.{cache_at}
use Rattle.mesh.specs.declared.Positions.{Positions}
use Rattle.mesh.specs.HalfEdge.{next_of, start_of, end_of}
use Rattle.classify.specs.declared.EdgeParams.{EdgeParams}
use Rattle.classify.specs.declared.Side.{Side}
use Rattle.classify.specs.declared.Judged.{Judged}
use Rattle.classify.specs.declared.Class.{Class}
use Rattle.classify.specs.Match.{side_of, judged_of, class_by, class_number}

-- all that the call reads
pub record Input : Type 0 where
  pub xs : List Float
  pub ys : List Float
  pub angles : List Float
  pub marks : List ℕ
  pub spreads : List Float
  pub triangles : List ℕ
  pub params : EdgeParams

-- what lent lists hold, in the order in which the call takes them
abbrev pub given : Positions → Axes → Bor (List ℕ) → EdgeParams → Input
given corners axes triangles params = record {
  xs = corners.x.now;
  ys = corners.y.now;
  angles = axes.angles.now;
  marks = axes.marks.now;
  spreads = axes.spreads.now;
  triangles = triangles.now;
  params = params;
}

-- the axes of a corner
unfoldable pub axes_at : Input → ℕ → AxisCache
axes_at i corner = cache_at i.params.spread i.angles i.marks i.spreads corner

-- the angle of the difference from one corner to another
unfoldable pub angle_between : List Float → List Float → ℕ → ℕ → Float
angle_between xs ys a b = angle_rule (Ieee.sub binary32 (get_or xs b nan) (get_or xs a nan)) (Ieee.sub binary32 (get_or ys b nan) (get_or ys a nan))

-- half-edge e with its match at each end
unfoldable pub side_at : Input → ℕ → Side
side_at i e =
    let a = start_of i.triangles e in
    let b = end_of i.triangles e in
    side_of (axes_at i a) (axes_at i b) (angle_between i.xs i.ys a b)

unfoldable pub judged_at : Input → ℕ → Judged
judged_at i e = judged_of i.params.tolerance (side_at i e)

unfoldable pub class_at : Input → ℕ → Class
class_at i e = class_by (judged_at i e) (judged_at i (next_of e)) (judged_at i (next_of (next_of e)))

-- the class list: one class for each half-edge
unfoldable pub classes_of : Input → List ℕ
classes_of i = listing (length i.triangles) (λ (e : ℕ). class_number (class_at i e))
