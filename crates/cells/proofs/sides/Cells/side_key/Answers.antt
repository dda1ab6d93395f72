-- `side_key`: both places are the cell's, so its corners are below 4,096.
use mathlib.Core.Path.{◌∙◌}
use Rattle.cells.proofs.Keys.{side_key_is}
use Rattle.cells.proofs.sides.Cells.side_key.Goals as goal

pub returns : goal.returns
returns c = c.ends_key.ensures ∙ side_key_is c.args.self.size c.args.self.corners.now c.args.q c.args.i c.next_side-next.result c.requires.0 c.next_side-next.ensures.0
