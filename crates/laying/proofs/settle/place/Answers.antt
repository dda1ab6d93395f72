-- `place`: the second corner is told where the first has its words.
use Rattle.laying.proofs.Settling.{placed_second}
use Rattle.laying.proofs.settle.place.Goals as goal

pub returns-then-settle : goal.returns-then-settle
returns-then-settle c = placed_second c.settle.ensures c.if-settle.true c.settle-then-settle.ensures c.requires.span_in_bounds.0 c.requires.span_in_bounds.1 c.requires.span_in_bounds.2 c.requires.apart
