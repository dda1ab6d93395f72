-- `scan`: from the first place of the run on each side is met, until a key differs.
use Rattle.std.proofs.Common.{◌+◌, ◌*◌, ◌∙◌, arith}
use Rattle.std.proofs.lemmas.Result.{err_from_is_err_and}
use Rattle.laying.specs.inner.Invariant.{Met}
use Rattle.laying.proofs.Resting.{rest_low}
use Rattle.laying.proofs.Parts.{went_stuck, went_so, went_next, Ran, ran_next, ran_all}
use Rattle.laying.proofs.steps.scan.Goals as goal

pub returns-then-work-table : goal.returns-then-work-table
returns-then-work-table c =
    let s = c.args.sheet in
    let v = c.loop-i.invariant in
    went_so (λ _. Met s.quads.now s.count c.args.e) v
    (ran_all s.given c.requires.e_bound.1 c.loop-i.work c.loop-i.i c.requires.e_bound.0 (λ h e. c.if-work-table.true (rest_low v.rest (4 * s.span + 2 * c.loop-i.i) (omega arith) (omega arith) ∙ e)) c.loop-i.auto.i v.ended.done)

pub meet-requires-clause-e_bound : goal.meet-requires-clause-e_bound
meet-requires-clause-e_bound c =
    let s = c.args.sheet in
    let i = c.loop-i.i in
    (c.requires.e_bound.0, rw (rest_low c.loop-i.invariant.rest (4 * s.span + 2 * i + 1) (omega arith) (omega arith)) (c.requires.e_bound.1.sides i c.loop-i-test.true), omega (arith, c.requires.e_bound.1.room, c.loop-i.auto.work))

pub returns-in_err-t : goal.returns-in_err-t
returns-in_err-t c =
    let p = err_from_is_err_and c.from_residual.result c.from_residual.ensures.1 in
    rw (p.1, p.2) (went_stuck (λ _. Met c.args.sheet.quads.now c.args.sheet.count c.args.e) c.loop-i.invariant c.in_err-t.ensures)

pub loop-i-preserved : goal.loop-i-preserved
loop-i-preserved c =
    let s = c.args.sheet in
    let l = c.loop-i in
    went_next (λ _. Ran s.span s.count s.quads.now c.args.work.now c.args.e (l.i + 1)) l.invariant c.in_ok-t.ensures
    (λ w d m. ran_next s.given c.requires.e_bound.1 _ c.loop-i-test.true (rest_low l.invariant.rest (4 * s.span + 2 * l.i + 1) (omega arith) (omega arith)) w d m)

pub returns : goal.returns
returns c =
    let s = c.args.sheet in
    let l = c.loop-i in
    went_so (λ _. Met s.quads.now s.count c.args.e) l.invariant (ran_all s.given c.requires.e_bound.1 l.work l.i c.requires.e_bound.0 (λ h e. omega (arith, c.loop-i-test.false)) l.auto.i l.invariant.ended.done)
