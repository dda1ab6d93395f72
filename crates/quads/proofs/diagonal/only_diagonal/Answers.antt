-- `only_diagonal` is none where the search stops: at a second Diagonal, at a Spurious side.
use native.Mathlib.Omega.{arith}
use Rattle.quads.proofs.Search.{found_none}
use Rattle.quads.proofs.diagonal.only_diagonal.Goals as goal

pub returns-in_default : goal.returns-in_default
returns-in_default c = found_none _ _ c.sides.side _ (omega arith) (omega arith) c.sides.invariant (rw (← c.from.ensures, c.in_default.is-0, c.in_default.is-1))

pub returns-in_default-2 : goal.returns-in_default-2
returns-in_default-2 c = found_none _ _ c.sides.side _ (omega arith) (omega arith) c.sides.invariant (rw (← c.from.ensures, c.in_default.is-0))
