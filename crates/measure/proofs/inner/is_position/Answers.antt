-- `is_position` is the definition of its name: the literal is 1,048,576.
use lib.Ieee.{of_bits}
use Rattle.measure.proofs.Literals.{range}
use Rattle.measure.proofs.inner.is_position.Goals as goal

pub is_within-requires : goal.is_within-requires
unfolding of_bits
is_within-requires c = tt

pub returns : goal.returns
returns c = rw (← range, c.is_within.ensures)
