-- What every quad that merging gives is: the corners of a triangle and of the one that it pairs with, in document 01's order.
use Rattle.std.specs.Prelude.{Some}
use Rattle.std.specs.Prelude.{◌≡◌, ℕ, ◌<◌}
use Rattle.quads.specs.declared.Quad.{Quad}
use Rattle.quads.specs.Merge.{Input, triangle_count, paired_at}
use Rattle.quads.specs.Order.{CornerOrder}

pub record Arranged (i : Input) (q : Quad) : Type 0 where
  -- the lower of the two triangles, and the corners of both
  pub triangle : ℕ
  pub below : triangle < triangle_count i.mesh
  pub four : Quad
  pub paired : paired_at i.mesh triangle ≡ Some four
  -- q has them in order
  pub ordered : CornerOrder i.xs i.ys four q
