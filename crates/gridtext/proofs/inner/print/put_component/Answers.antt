-- `put_component` prints the word, the three fields after it, and then the entries.
use mathlib.Core.Path.{refl}
use mathlib.Core.List.{◌++◌}
use Rattle.walk.specs.Read.{component_at}
use Rattle.gridtext.specs.Answer.{entry_lines}
use Rattle.gridtext.proofs.Printing.{printed_then, printed_as, room_first, room_next}
use Rattle.gridtext.proofs.Reading.{component_word, component_fields, component_first, component_parts}
use Rattle.gridtext.proofs.inner.print.put_component.Goals as goal

pub put_bytes-word-requires : goal.put_bytes-word-requires
put_bytes-word-requires c =
    let a = c.args in
    let x = a.components.now in
    room_first _ _ component_word (component_fields x a.j ++ entry_lines (component_at x a.entries.now a.j)) (component_first _ _ _ c.requires.0) c.requires.1

pub end_line-next-requires : goal.end_line-next-requires
end_line-next-requires c = room_first _ _ _ _ refl (room_next _ c.put_bytes-word.ensures (component_first _ _ _ c.requires.0) c.requires.1)

pub put_entries-requires : goal.put_entries-requires
put_entries-requires c =
    let p = printed_then c.put_bytes-word.ensures c.end_line-next.ensures in
    (c.requires.0.all, room_next _ p (component_parts _ _ _ c.requires.0) c.requires.1)

pub returns : goal.returns
returns c =
    let p = printed_then c.put_bytes-word.ensures c.end_line-next.ensures in
    printed_as (component_parts _ _ _ c.requires.0) (printed_then p c.put_entries.ensures)
