-- `put_entries` prints the entries one by one. The invariant: the lines of the first i stand in the list.
use Rattle.gridtext.specs.inner.Printed.{Printed}
use Rattle.gridtext.proofs.Joining.{joined, entry_piece}
use Rattle.gridtext.proofs.inner.print.put_entries.Given as goal

abbrev pub invariant-loop-i : goal.invariant-loop-i
invariant-loop-i l = Printed l.initial.out l.out l.at (joined (entry_piece l.entries l.before) l.i) l.next
