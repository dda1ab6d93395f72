-- `scan`: from the first place of the run on each side is met, until a key differs.
use Rattle.std.proofs.Common.{Ok}
use Rattle.laying.specs.inner.Moves.{Went}
use Rattle.laying.proofs.Parts.{Ran}
use Rattle.laying.proofs.steps.scan.Given as goal

abbrev pub invariant-loop-i : goal.invariant-loop-i
invariant-loop-i l = Went l.sheet.span l.sheet.quads.now l.sheet.count l.seed l.initial.work l.work l.tail (Ok l.t) (λ _. Ran l.sheet.span l.sheet.count l.sheet.quads.now l.initial.work l.e l.i)
