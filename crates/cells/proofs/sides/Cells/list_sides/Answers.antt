-- `list_sides`: the filled table, rearranged.
use Rattle.cells.proofs.InOrder.{tabulated}
use Rattle.cells.proofs.sides.Cells.list_sides.Goals as goal

pub returns : goal.returns
returns c = tabulated _ _ _ _ _ _ c.args.self.sound c.fill.ensures c.order_keys.ensures
