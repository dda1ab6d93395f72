-- `count_components`: after the quads below s, their components and entries are counted.
use mathlib.Core.Path.{◌≡◌, ap, ◌∙◌}
use native.Mathlib.Omega.{arith}
use Rattle.fates.specs.declared.Runs.{Runs}
use Rattle.fates.specs.Judged.{is_kept}
use Rattle.walk.proofs.Counting.{counting_none, counting_more}
use Rattle.walk.proofs.inner.count_components.Goals as goal

pub loop-s-init : goal.loop-s-init
loop-s-init c = counting_none c.args.work.now c.args.span c.args.n

pub counted-totals-requires : goal.counted-totals-requires
counted-totals-requires c =
    let l = c.loop-s in
    (omega (arith, l.invariant.few_components, c.requires.quads), omega (arith, l.invariant.few_entries, c.requires.quads, c.requires.few l.s c.loop-s-test.true, ap (λ (r : Runs). r.lone.count) c.runs_at-runs.ensures))

pub loop-s-preserved : goal.loop-s-preserved
loop-s-preserved c =
    let z = c.args in
    let l = c.loop-s in
    let told = c.counted-totals.ensures in
    let kept = c.is_kept-kept.ensures ∙ ap is_kept c.fate_at.ensures in
    let more = counting_more z.work.now z.span z.n l.s l.totals.components l.totals.entries c.is_kept-kept.result l.invariant (c.requires.few l.s c.loop-s-test.true) kept in
    rw (told.0, told.1, c.runs_at-runs.ensures) more

pub returns : goal.returns
returns c =
    let l = c.loop-s in
    let e : l.s ≡ c.args.n = omega arith in
    rw e at l.invariant
