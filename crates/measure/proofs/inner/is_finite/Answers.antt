-- `is_finite` is `finite`: the code's two comparisons with the infinities.
use Rattle.measure.proofs.Ranges.{finite_by}
use Rattle.measure.proofs.inner.is_finite.Goals as goal

pub returns-then-x : goal.returns-then-x
returns-then-x c = rw (← finite_by c.args.x, c.if-x.true)

pub returns-else-x : goal.returns-else-x
returns-else-x c = rw (← finite_by c.args.x, c.if-x.false)
