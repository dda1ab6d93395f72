-- `is_positive` is `positive`, by two comparisons.
use Rattle.measure.proofs.Ranges.{positive_by}
use Rattle.measure.proofs.range.is_positive.Goals as goal

pub returns-then-x : goal.returns-then-x
returns-then-x c = rw (← positive_by c.args.x, c.if-x.true)

pub returns-else-x : goal.returns-else-x
returns-else-x c = rw (← positive_by c.args.x, c.if-x.false)
