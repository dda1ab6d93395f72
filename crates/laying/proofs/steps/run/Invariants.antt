-- `run`: one quad of the queue after the other, until there is none left.
use Rattle.std.proofs.Common.{◌-◌, Ok}
use Rattle.laying.specs.inner.Moves.{Went, Closed}
use Rattle.laying.proofs.steps.run.Given as goal

abbrev pub invariant-loop-head : goal.invariant-loop-head
invariant-loop-head l = Went l.sheet.span l.sheet.quads.now l.sheet.count l.seed l.initial.work l.work 1 (Ok l.tail) (λ _. Closed l.sheet.span l.sheet.quads.now l.sheet.count l.head)

abbrev pub decreases-loop-head : goal.decreases-loop-head
decreases-loop-head l = l.sheet.count - l.head
