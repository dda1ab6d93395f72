-- `print_components` prints the count, and the components one by one after it. The invariant: the first j stand after the count, and all of
-- them have room there.
use Rattle.gridtext.specs.inner.Printed.{Printed, Room}
use Rattle.gridtext.proofs.Joining.{joined, component_piece}
use Rattle.gridtext.proofs.inner.print.print_components.Given as goal

abbrev pub invariant-loop-j : goal.invariant-loop-j
invariant-loop-j l =
    Printed l.initial.out l.out l.initial.next (joined (component_piece l.components l.entries) l.j) l.next
    × Room l.initial.out l.initial.next (joined (component_piece l.components l.entries) l.count)
