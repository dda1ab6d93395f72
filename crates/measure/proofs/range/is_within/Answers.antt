-- `is_within` is `within`, for a bound above 0.
use Rattle.measure.proofs.Ranges.{within_by}
use Rattle.measure.proofs.range.is_within.Goals as goal

pub returns-then-x-most : goal.returns-then-x-most
returns-then-x-most c = rw (← within_by c.args.x c.args.most c.requires, c.if-x-most.true)

pub returns-else-x-most : goal.returns-else-x-most
returns-else-x-most c = rw (← within_by c.args.x c.args.most c.requires, c.if-x-most.false)
