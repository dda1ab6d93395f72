-- `list_lone`: the ordering, and then the picking.
use Rattle.fates.proofs.Picking.{same_room, batch_room, lone_from}
use Rattle.fates.proofs.lone.list_lone.Goals as goal

pub returns : goal.returns
returns c =
    let o = c.order_in_groups.ensures in
    let k = c.keep_lone.ensures in
    lone_from _ _ _ _ _ o _ _ (same_room o.len (batch_room c.requires)) k.0 k.1
