-- `line_at` takes a line field by field. The loop's invariant: the first i fields are taken.
use Rattle.gridtext.proofs.Taking.{Passed}
use Rattle.gridtext.proofs.inner.line.line_at.Given as goal

abbrev pub invariant-loop-i : goal.invariant-loop-i
invariant-loop-i l = Passed l.text l.fn.sort l.at l.words l.next l.n l.i
