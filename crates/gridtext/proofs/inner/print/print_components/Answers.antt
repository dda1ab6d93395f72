-- `print_components` prints the count, and the components one by one after it. The invariant: the first j stand after the count, and all of
-- them have room there.
use mathlib.Core.Path.{◌≡◌, refl}
use mathlib.Core.List.{[], ◌∷◌, ◌++◌}
use native.Mathlib.Omega.{arith}
use Rattle.digits.specs.Digits.{decimal_of}
use Rattle.gridtext.specs.inner.Printed.{last_fields}
use Rattle.gridtext.proofs.Printing.{printed_then, printed_as, room_first, room_next}
use Rattle.gridtext.proofs.Joining.{joined, joined_none, joined_more, joined_room, component_piece}
use Rattle.gridtext.proofs.Reading.{count_word, readable, answer_parts, answer_first}
use Rattle.gridtext.proofs.Bounds.{answer_room}
use Rattle.gridtext.proofs.inner.print.print_components.Goals as goal

pub put_bytes-word-requires : goal.put_bytes-word-requires
put_bytes-word-requires c =
    let a = c.args in
    let room = answer_room _ _ _ _ c.type_inv.components c.type_inv.entries c.ranges.count c.requires in
    let pieces = joined (component_piece a.components.now a.entries.now) a.count in
    room_first _ _ count_word (last_fields (decimal_of a.count ∷ []) ++ pieces) (answer_first c.requires.holds) room

pub end_line-next-requires : goal.end_line-next-requires
end_line-next-requires c =
    let room = answer_room _ _ _ _ c.type_inv.components c.type_inv.entries c.ranges.count c.requires in
    room_first _ _ _ _ refl (room_next _ c.put_bytes-word.ensures (answer_first c.requires.holds) room)

pub loop-j-init : goal.loop-j-init
loop-j-init c =
    let p = printed_then c.put_bytes-word.ensures c.end_line-next.ensures in
    let room = answer_room _ _ _ _ c.type_inv.components c.type_inv.entries c.ranges.count c.requires in
    (joined_none _ _ _ p.within, room_next _ p (answer_parts c.requires.holds) room)

pub put_component-next-requires : goal.put_component-next-requires
put_component-next-requires c =
    let a = c.args in
    let l = c.loop-j in
    let h = c.loop-j-test.true in
    (readable c.requires.holds l.j h, joined_room (component_piece a.components.now a.entries.now) a.count l.invariant.0 h l.invariant.1)

pub loop-j-preserved : goal.loop-j-preserved
loop-j-preserved c =
    let l = c.loop-j.invariant in
    (joined_more (component_piece c.args.components.now c.args.entries.now) l.0 c.put_component-next.ensures, l.1)

pub returns : goal.returns
returns c =
    λ answer h.
    let l = c.loop-j in
    let e : l.j ≡ c.args.count = omega arith in
    let p = printed_then c.put_bytes-word.ensures c.end_line-next.ensures in
    printed_as (answer_parts h) (printed_then p (rw e at l.invariant.0))
