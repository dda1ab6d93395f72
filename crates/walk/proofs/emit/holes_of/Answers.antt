-- `holes_of`: the front is cleared for the run's rows, these are noted there, and what they tell from neighbour to neighbour is counted.
use mathlib.Core.Path.{◌∙◌, subst}
use mathlib.Core.List.{◌++◌}
use Prim.Native.Nat.{ℕ}
use native.Mathlib.Omega.{arith}
use lib.ListN.{drop}
use Rattle.words.specs.inner.Regions.{Filled}
use Rattle.cells.specs.Holes.{height}
use Rattle.walk.specs.inner.Emitted.{entries_of}
use Rattle.walk.proofs.RowWords.{front_cleared, may_note, may_count, all_kept, same_holes}
use Rattle.walk.proofs.emit.holes_of.Goals as goal
use Rattle.walk.proofs.emit.holes_of.Goals.{After-fill}

-- the front is cleared
cleared : (c : After-fill) → Filled c.args.work.now (c.fill.new.self ++ drop c.height_of-rows.result c.args.work.now) 0 (height (entries_of c.args.work.now c.args.run)) (height (entries_of c.args.work.now c.args.run)) (λ (k : ℕ). 0)
cleared c =
    let rows = c.height_of-rows.ensures.0 in
    subst (λ (m : ℕ). Filled c.args.work.now (c.fill.new.self ++ drop c.height_of-rows.result c.args.work.now) 0 m m (λ (k : ℕ). 0)) rows
    (front_cleared c.args.work.now c.fill.new.self c.height_of-rows.result (omega (arith, c.requires.y_value.1, c.requires.ascending.room)) (c.fill.ensures.after (λ y e. e)))

pub note_rows-requires : goal.note_rows-requires
note_rows-requires c =
    let m = may_note c.requires.ascending c.requires.y_value.0 c.requires.y_value.1 (cleared (goal.at.note_rows-requires c).After-fill) in
    record { ascending = m.0; y_value = m.1.0; noted = m.1.1 }

pub gaps_of-requires : goal.gaps_of-requires
gaps_of-requires c =
    let m = may_count c.requires.ascending c.requires.y_value.0 c.requires.y_value.1 (cleared (goal.at.gaps_of-requires c).After-fill) c.note_rows.ensures in
    record { ascending = m.0; y_value = m.1.0; noted = m.1.1 }

pub returns : goal.returns
returns c =
    let f = cleared (goal.at.returns c).After-fill in
    record { value = c.gaps_of.ensures ∙ same_holes c.requires.ascending c.requires.y_value.0 c.requires.y_value.1 f c.note_rows.ensures; kept = all_kept c.requires.ascending c.requires.y_value.0 c.requires.y_value.1 f c.note_rows.ensures }
