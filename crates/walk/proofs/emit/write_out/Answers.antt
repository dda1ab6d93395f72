-- `write_out`: after the quads below s, their components and entries stand at the fronts, and the rest of both lists is as it was.
use mathlib.Core.Path.{◌≡◌, refl, sym, ap, ◌∙◌}
use Prim.Native.Nat.{◌*◌}
use native.Mathlib.Omega.{arith}
use Rattle.words.proofs.Regions.{kept_refl}
use borrow.Author.Rules.{rules}
use Rattle.fates.specs.declared.Runs.{Runs}
use Rattle.fates.specs.Judged.{is_kept}
use Rattle.walk.specs.inner.Emitted.{out_to}
use Rattle.walk.proofs.Staying.{fate_stays, runs_are, entries_are, may_write_component, still_kept}
use Rattle.walk.proofs.Counting.{counting_none, counting_more}
use Rattle.walk.proofs.Writing.{written_none, written_next, room_next}
use Rattle.walk.proofs.emit.write_out.Goals as goal

pub loop-s-init : goal.loop-s-init
unfolding out_to
loop-s-init c =
    let z = c.args in
    (counting_none z.work.now z.span z.n, written_none z.components.now z.entries.now, refl, refl, kept_refl z.work.now 0 (4 * z.span))

pub fate_at-requires : goal.fate_at-requires
fate_at-requires c = (omega (arith, c.requires.writable.room, c.loop-s.invariant.4.len), c.loop-s-test.true)

pub runs_at-runs-requires : goal.runs_at-runs-requires
runs_at-runs-requires c = (omega (arith, c.requires.writable.room, c.loop-s.invariant.4.len), c.loop-s-test.true)

pub write_kept-requires : goal.write_kept-requires
write_kept-requires c =
    let z = c.args in
    let l = c.loop-s in
    let test = c.loop-s-test.true in
    let kept = c.is_kept-kept.ensures ∙ ap is_kept (c.fate_at.ensures ∙ fate_stays l.invariant.4 z.span z.n l.s (omega arith)) in
    let runs = c.runs_at-runs.ensures in
    let room = room_next z.work.now z.span z.n l.s l.totals.components l.totals.entries c.is_kept-kept.result z.components.now z.entries.now l.components l.entries l.invariant.0 kept l.invariant.1 test c.requires.n_in_bounds.0 c.requires.n_in_bounds.1 in
    λ t.
    let may = may_write_component c.requires.writable l.invariant.4 test runs (sym kept ∙ t) in
    (may.0, may.1, (room t).0, rw (runs_are c.requires.writable l.invariant.4 test runs) (room t).1, omega (arith, l.invariant.0.few_entries, c.requires.writable.quads))

pub counted-totals-requires : goal.counted-totals-requires
counted-totals-requires c =
    let l = c.loop-s in
    let test = c.loop-s-test.true in
    let runs = runs_are c.requires.writable l.invariant.4 test c.runs_at-runs.ensures in
    (omega (arith, l.invariant.0.few_components, c.requires.writable.quads), omega (arith, l.invariant.0.few_entries, c.requires.writable.quads, c.requires.writable.few l.s test, ap (λ (r : Runs). r.lone.count) runs))

pub loop-s-preserved : goal.loop-s-preserved
loop-s-preserved c =
    let z = c.args in
    let l = c.loop-s in
    let test = c.loop-s-test.true in
    let told = c.counted-totals.ensures in
    let stored = c.write_kept.ensures in
    let kept = c.is_kept-kept.ensures ∙ ap is_kept (c.fate_at.ensures ∙ fate_stays l.invariant.4 z.span z.n l.s (omega arith)) in
    let read = c.runs_at-runs.ensures in
    let runs = runs_are c.requires.writable l.invariant.4 test read in
    let counts = counting_more z.work.now z.span z.n l.s l.totals.components l.totals.entries c.is_kept-kept.result l.invariant.0 (c.requires.writable.few l.s test) kept in
    let lists = written_next z.work.now z.span z.n l.s l.totals.components l.totals.entries c.is_kept-kept.result z.components.now z.entries.now l.components l.entries l.invariant.0 kept l.invariant.1 in (
      rw (told.0, told.1, runs) counts,
      rw (stored.components_after, stored.entries_after, entries_are c.requires.writable l.invariant.4 test read, runs) lists,
      search rules,
      search rules,
      still_kept c.requires.writable l.invariant.4 test read c.is_kept-kept.result kept stored.kept,
    )

pub returns : goal.returns
returns c =
    let l = c.loop-s in
    let e : l.s ≡ c.args.n = omega arith in
    rw e at l.invariant.1
