-- `flatten` leaves every number at its root: lower ones point at theirs already, so one step up from a number's parent is its root.
use native.Mathlib.Omega.{arith}
use Rattle.cells.proofs.Parents.{refines_refl, flat_more}
use Rattle.cells.proofs.forest.flatten.Goals as goal

pub loop-j-init : goal.loop-j-init
loop-j-init c = record { refines = refines_refl c.args.p.now c.requires; flat = λ y k. absurd (omega arith) }

pub loop-j-preserved : goal.loop-j-preserved
loop-j-preserved c = flat_more c.loop-j.invariant (omega arith)
