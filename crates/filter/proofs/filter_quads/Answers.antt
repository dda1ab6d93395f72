-- `filter_quads` is allowed: the rows, then the room for what would be kept, then the quads kept.
use mathlib.Core.Path.{◌≡◌, sym, ◌∙◌}
use Prim.Native.Nat.{ℕ, ◌≤◌}
use native.Mathlib.Omega.{arith}
use lib.ListN.{length}
use Rattle.std.proofs.lemmas.Result.{err_from_is_err_and}
use Rattle.std.specs.Prelude.{Ok}
use Rattle.refusal.specs.Rows.{Gate}
use Rattle.filter.specs.Input.{Input, quad_count}
use Rattle.filter.specs.Call.{entry_gate}
use Rattle.mesh.specs.Lists.{quad_words}
use Rattle.filter.specs.inner.Steps.{Sound}
use Rattle.filter.proofs.Sound.{entry_sound}
use Rattle.filter.proofs.Outcomes.{front, few, room, refused, short, done}
use Rattle.filter.proofs.filter_quads.Goals as goal

-- what the rows have shown, where they are open
open_rows : (i : Input) (words : ℕ) (g : Gate) → g ≡ entry_gate i words → g ≡ Ok tt → Sound i × (quad_words (quad_count i) (length i.xs) ≤ words)
open_rows i words g e o = entry_sound i words (sym e ∙ o)

pub returns-in_err-entry : goal.returns-in_err-entry
returns-in_err-entry c =
    let p = err_from_is_err_and c.from_residual.result c.from_residual.ensures.1 in
    rw (p.1, p.2) (refused _ _ _ _ c.entry.ensures _ c.in_err-entry.was)

pub mark_quads-requires : goal.mark_quads-requires
mark_quads-requires c = open_rows _ _ _ c.entry.ensures c.in_ok-entry.was

pub count_kept-count-requires : goal.count_kept-count-requires
count_kept-count-requires c = front _ _ _ (open_rows _ _ _ c.entry.ensures c.in_ok-entry.was).1 c.mark_quads.ensures

pub overflow_cast-result : goal.overflow_cast-result
overflow_cast-result c = omega (arith, few _ _ _ (open_rows _ _ _ c.entry.ensures c.in_ok-entry.was).0 c.count_kept-count.ensures)

pub returns-then-kept-count : goal.returns-then-kept-count
returns-then-kept-count c = short _ _ _ _ c.entry.ensures c.in_ok-entry.was _ c.mark_quads.ensures _ c.count_kept-count.ensures _ c.if-kept-count.true (c.fill.ensures.after (λ y e. e))

pub write_kept-requires : goal.write_kept-requires
write_kept-requires c = record { marks = front _ _ _ (open_rows _ _ _ c.entry.ensures c.in_ok-entry.was).1 c.mark_quads.ensures; room = room _ _ _ _ _ c.count_kept-count.ensures c.if-kept-count.false }

pub overflow_cast-result-2 : goal.overflow_cast-result-2
overflow_cast-result-2 c = omega (arith, few _ _ _ (open_rows _ _ _ c.entry.ensures c.in_ok-entry.was).0 c.count_kept-count.ensures)

pub returns : goal.returns
returns c = done _ _ _ _ c.entry.ensures c.in_ok-entry.was _ c.mark_quads.ensures _ c.count_kept-count.ensures _ _ c.if-kept-count.false c.write_kept.ensures (c.fill-2.ensures.after (λ y e. e))
