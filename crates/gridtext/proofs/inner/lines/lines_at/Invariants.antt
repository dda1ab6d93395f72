-- `lines_at` reads a run of lines. The loop's invariant: those that were read stand, with their words laid.
use Rattle.gridtext.proofs.Runs.{SoFar}
use Rattle.gridtext.proofs.inner.lines.lines_at.Given as goal

abbrev pub invariant-loop-count : goal.invariant-loop-count
invariant-loop-count l = SoFar l.fn.sort l.most l.text l.at l.initial.out l.out l.count l.next
