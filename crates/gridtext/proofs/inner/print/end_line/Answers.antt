-- `end_line` prints the fields one by one, and the line feed after them.
use mathlib.Core.Path.{◌≡◌, refl}
use mathlib.Core.List.{[], ◌∷◌, map}
use native.Mathlib.Omega.{arith}
use lib.ListN.{length}
use Rattle.digits.specs.Digits.{decimal_of}
use Rattle.gridtext.specs.Lines.{spaced}
use Rattle.gridtext.proofs.Printing.{printed_then, room_first, room_next}
use Rattle.gridtext.proofs.Joining.{joined_none, joined_more, joined_room, field_piece, fields_joined}
use Rattle.gridtext.proofs.inner.print.end_line.Goals as goal

pub loop-field-init : goal.loop-field-init
loop-field-init c = joined_none (field_piece c.args.fields.now) c.args.out.now c.args.at (omega (arith, c.requires))

pub put_field-next-requires : goal.put_field-next-requires
put_field-next-requires c =
    let a = c.args in
    let f = a.fields.now in
    let room = room_first a.out.now a.at (spaced (map decimal_of f)) (10 ∷ []) refl c.requires in
    joined_room (field_piece f) (length f) c.loop-field.invariant (omega arith) (rw fields_joined room)

pub loop-field-preserved : goal.loop-field-preserved
loop-field-preserved c = joined_more (field_piece c.args.fields.now) c.loop-field.invariant c.put_field-next.ensures

pub put_bytes-requires : goal.put_bytes-requires
put_bytes-requires c =
    let e : c.loop-field.field-index ≡ length c.args.fields.now = omega arith in
    room_next (10 ∷ []) (rw (e, fields_joined) at c.loop-field.invariant) refl c.requires

pub returns : goal.returns
returns c =
    let e : c.loop-field.field-index ≡ length c.args.fields.now = omega arith in
    printed_then (rw (e, fields_joined) at c.loop-field.invariant) c.put_bytes.ensures
