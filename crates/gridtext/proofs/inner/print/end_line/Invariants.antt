-- `end_line` prints the fields one by one. The invariant: the first of them stand in the list.
use Rattle.gridtext.specs.inner.Printed.{Printed}
use Rattle.gridtext.proofs.Joining.{joined, field_piece}
use Rattle.gridtext.proofs.inner.print.end_line.Given as goal

abbrev pub invariant-loop-field : goal.invariant-loop-field
invariant-loop-field l = Printed l.initial.out l.out l.at (joined (field_piece l.fields) l.field-index) l.next
