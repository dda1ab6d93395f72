-- `in_reach` is the definition of its name: the literal is 2,097,152.
use lib.Ieee.{of_bits}
use Rattle.measure.proofs.Literals.{reach}
use Rattle.measure.proofs.range.in_reach.Goals as goal

pub is_within-requires : goal.is_within-requires
unfolding of_bits
is_within-requires c = tt

pub returns : goal.returns
returns c = rw (← reach, c.is_within.ensures)
