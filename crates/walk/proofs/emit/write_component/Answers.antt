-- `write_component`: the run's entries, and a record with their number and holes. What `holes_of` writes stands before the run, so the entries
-- are those that it had.
use mathlib.Core.Path.{sym, ap, ◌∙◌}
use mathlib.Core.List.{List, [], ◌∷◌}
use Prim.Native.Nat.{ℕ, ◌*◌}
use Rattle.cells.specs.Listed.{Entry}
use Rattle.walk.specs.Call.{entry_words}
use Rattle.walk.specs.inner.Emitting.{pasted}
use Rattle.walk.proofs.Staying.{least_x_stays, least_y_stays, entries_stay, ascending_stays}
use Rattle.walk.proofs.emit.write_component.Goals as goal

pub write_entries-requires : goal.write_entries-requires
write_entries-requires c =
    let run = c.args.runs.lone in
    let kept = c.holes_of-holes.ensures.kept in
    let least = c.least_of-least.ensures in
    record { ascending = ascending_stays kept run c.requires.ascending.1 c.requires.ascending.0; x_value = (least.0 ∙ sym (least_x_stays kept run c.requires.ascending.1), least.1 ∙ sym (least_y_stays kept run c.requires.ascending.1)); count_in_bounds = c.requires.components_in_bounds.1 }

pub returns : goal.returns
returns c =
    let z = c.args in
    let holed = c.holes_of-holes.ensures in
    record {
      components_after = c.store.ensures ∙ ap (λ (h : ℕ). pasted (3 * z.totals.components) (z.totals.entries ∷ z.runs.lone.count ∷ h ∷ []) z.components.now) holed.value;
      entries_after = c.write_entries.ensures ∙ ap (λ (es : List Entry). pasted (3 * z.totals.entries) (entry_words es) z.entries.now) (entries_stay holed.kept z.runs.lone c.requires.ascending.1);
      kept = holed.kept;
    }
