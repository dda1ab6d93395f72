-- `write_components`: the rooms for what would be written, then the components and their entries.
use mathlib.Core.Path.{ap, ◌∙◌}
use Prim.Native.Nat.{ℕ, ◌<◌}
use native.Mathlib.Omega.{arith}
use lib.ListN.{replicate}
use Rattle.walk.proofs.Rooms.{few, may_write, short, short_entries, done}
use Rattle.walk.proofs.inner.write_components.Goals as goal
use Rattle.walk.proofs.inner.write_components.Goals.{Start}

-- the totals are words
words : (s : Start) → (s.args.totals.components < 4294967296) × (s.args.totals.entries < 4294967296)
words s = few s.requires.counted s.requires.writable.quads

pub overflow_cast-result : goal.overflow_cast-result
overflow_cast-result c = omega (arith, words (goal.at.overflow_cast-result c).Start)

pub returns-then-components-totals : goal.returns-then-components-totals
returns-then-components-totals c = short c.requires.counted _ _ _ _ (c.fill.ensures.after (λ y e. e)) c.if-components-totals.true

pub overflow_cast-result-then-entries-totals : goal.overflow_cast-result-then-entries-totals
overflow_cast-result-then-entries-totals c = omega (arith, words (goal.at.overflow_cast-result-then-entries-totals c).Start)

pub returns-then-entries-totals : goal.returns-then-entries-totals
returns-then-entries-totals c = short_entries c.requires.counted _ _ _ _ (c.fill-then-entries-totals.ensures.after (λ y e. e)) c.if-components-totals.false c.if-entries-totals.true

pub write_out-requires : goal.write_out-requires
write_out-requires c = record { writable = c.requires.writable; n_in_bounds = may_write c.requires.counted c.args.components.now c.args.entries.now c.if-components-totals.false c.if-entries-totals.false }

pub overflow_cast-result-2 : goal.overflow_cast-result-2
overflow_cast-result-2 c = omega (arith, words (goal.at.overflow_cast-result-2 c).Start)

pub overflow_cast-result-3 : goal.overflow_cast-result-3
overflow_cast-result-3 c = omega (arith, words (goal.at.overflow_cast-result-3 c).Start)

pub returns : goal.returns
returns c =
    let zeroed = (c.fill-2.ensures.after (λ y e. e)) ∙ ap (λ (n : ℕ). replicate n 0) c.write_out.auto.work in
    done c.requires.counted _ _ _ _ zeroed _ _ c.if-components-totals.false c.if-entries-totals.false c.write_out.ensures
