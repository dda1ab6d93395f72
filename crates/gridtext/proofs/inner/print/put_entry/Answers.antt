-- `put_entry` prints u, and v and the corner after it.
use mathlib.Core.Path.{refl}
use Rattle.gridtext.specs.Answer.{entry_line, numbers_line}
use Rattle.gridtext.proofs.Printing.{printed_then, room_first, room_next}
use Rattle.gridtext.proofs.inner.print.put_entry.Goals as goal

pub put_number-next-requires : goal.put_number-next-requires
unfolding entry_line numbers_line
put_number-next-requires c = room_first _ _ _ _ refl c.requires.1

pub end_line-requires : goal.end_line-requires
unfolding entry_line numbers_line
end_line-requires c = room_next _ c.put_number-next.ensures refl c.requires.1

pub returns : goal.returns
unfolding entry_line numbers_line
returns c = printed_then c.put_number-next.ensures c.end_line.ensures
