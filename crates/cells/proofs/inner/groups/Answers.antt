-- `groups`: the neighbours of one key in the ordered table link the cells that touch, and no others.
use Rattle.cells.proofs.Touching.{grouped}
use Rattle.cells.proofs.inner.groups.Goals as goal

pub returns : goal.returns
returns c = grouped _ _ _ _ _ c.requires.sound c.list_sides.ensures _ c.unite.ensures
