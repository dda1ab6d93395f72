-- `move_groups`: the copied words stand in their new place.
use native.Mathlib.Omega.{arith}
use Rattle.fates.proofs.Ready.{filled_copy}
use Rattle.fates.proofs.prepare.move_groups.Goals as goal

pub returns : goal.returns
returns c = filled_copy _ _ _ _ _ _ (omega arith) c.copy_within.ensures.len c.copy_within.ensures.by_index
