-- `judge_triangle` is `sides_at`: each side runs from one of its triangle's corners to the next.
use Rattle.mesh.proofs.HalfEdge.{next_first, next_second, next_third}
use Rattle.classify.specs.Classes.{axes_at, side_at}
use Rattle.classify.specs.inner.Triangle.{sides_at}
use Rattle.classify.proofs.inner.judge_triangle.Goals as goal

pub returns : goal.returns
unfolding sides_at side_at axes_at
returns c = cc (next_first c.args.t, next_second c.args.t, next_third c.args.t)
