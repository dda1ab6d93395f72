-- `sides`: one side after the other.
use Rattle.std.proofs.Common.{Ok}
use Rattle.laying.specs.inner.Moves.{Went, MetRound}
use Rattle.laying.proofs.steps.sides.Given as goal

abbrev pub invariant-loop-k : goal.invariant-loop-k
invariant-loop-k l = Went l.sheet.span l.sheet.quads.now l.sheet.count l.seed l.initial.work l.work l.tail (Ok l.t) (λ _. MetRound l.sheet.quads.now l.sheet.count l.q l.k)
