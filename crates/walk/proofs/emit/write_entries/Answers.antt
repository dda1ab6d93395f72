-- `write_entries`: the first k entries stand from the place on, and the rest of the list is as it was.
use mathlib.Core.Path.{◌≡◌, refl, sym, ap, ◌∙◌}
use mathlib.Core.List.{List}
use Prim.Native.Nat.{◌*◌, ◌<◌}
use native.Mathlib.Omega.{arith}
use Rattle.cells.specs.Listed.{Entry}
use borrow.Author.Rules.{rules}
use Rattle.walk.specs.Call.{entry_words}
use Rattle.walk.specs.inner.Emitting.{pasted}
use Rattle.walk.proofs.Shifted.{none_yet}
use Rattle.walk.proofs.Extent.{x_low, y_low}
use Rattle.walk.proofs.Pasting.{pasted_none}
use Rattle.walk.proofs.Writing.{entries_pasted}
use Rattle.walk.proofs.emit.write_entries.Goals as goal

pub loop-k-init : goal.loop-k-init
unfolding entry_words
loop-k-init c =
    let z = c.args in
    (sym (ap (λ (es : List Entry). pasted (3 * z.place) (entry_words es) z.entries.now) (none_yet z.work.now z.run.at z.least.x z.least.y) ∙ pasted_none (3 * z.place) z.entries.now), refl)

pub write_entry-requires : goal.write_entry-requires
write_entry-requires c =
    let z = c.args in
    let l = c.loop-k in
    let o = c.requires.ascending in
    let h : l.k < z.run.count = omega arith in
    record { k_in_bounds = (omega (arith, o.room), o.keys l.k h); least_bounds = (omega (arith, c.requires.x_value.0, x_low z.work.now z.run o l.k h), omega (arith, c.requires.x_value.1, y_low z.work.now z.run o l.k h)); place_in_bounds = omega (arith, l.invariant.1, c.requires.count_in_bounds) }

pub loop-k-preserved : goal.loop-k-preserved
loop-k-preserved c =
    let z = c.args in
    let l = c.loop-k in
    let stored = c.write_entry.ensures in
    let more = entries_pasted z.work.now z.run.at z.least.x z.least.y l.k z.place z.entries.now l.entries (omega (arith, c.requires.count_in_bounds)) l.invariant.0 in
    (stored ∙ more, search rules)

pub returns : goal.returns
returns c =
    let z = c.args in
    let l = c.loop-k in
    let e : l.k ≡ z.run.count = omega arith in
    rw (e, c.requires.x_value.0, c.requires.x_value.1) at l.invariant.0
