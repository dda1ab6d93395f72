-- `list_groups`: the groups' part of the workspace comes back with the groups and the table.
use native.Mathlib.Omega.{arith}
use Rattle.words.proofs.Regions.{filled_zero}
use Rattle.fates.proofs.Seating.{sided}
use Rattle.fates.proofs.prepare.list_groups.Goals as goal

pub returns : goal.returns
returns c = sided _ _ _ c.args.sheet.given _ _ c.requires (filled_zero _ _ _ _ (omega arith) (c.fill.ensures.after (λ y e. e))) _ c.groups.ensures
