-- `print_bad` prints the word, and the line's number after it.
use mathlib.Core.Path.{refl}
use mathlib.Core.List.{[], ◌∷◌}
use native.Mathlib.Omega.{arith}
use Rattle.digits.specs.Digits.{decimal_of}
use Rattle.gridtext.specs.Answer.{bad_text, numbers_line}
use Rattle.gridtext.specs.inner.Printed.{last_fields}
use Rattle.gridtext.proofs.Bounds.{bad_room}
use Rattle.gridtext.proofs.Printing.{printed_then, room_next}
use Rattle.gridtext.proofs.inner.print.print_bad.Goals as goal

pub end_line-requires : goal.end_line-requires
unfolding bad_text numbers_line
end_line-requires c = room_next (last_fields (decimal_of c.args.line ∷ [])) c.put_bytes-next.ensures refl (bad_room c.args.out.now c.args.line (omega (arith, c.ranges.line)) c.requires)

pub returns : goal.returns
unfolding bad_text numbers_line
returns c = printed_then c.put_bytes-next.ensures c.end_line.ensures
