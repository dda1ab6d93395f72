-- `clear`: one quad of the queue after the other.
use Rattle.laying.proofs.Wiping.{Clearing}
use Rattle.laying.proofs.inner.clear.clear.Given as goal

abbrev pub invariant-loop-i : goal.invariant-loop-i
invariant-loop-i l = Clearing l.sheet.span l.sheet.quads.now l.sheet.count l.initial.work l.work l.i
