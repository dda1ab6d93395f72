-- `run`: one quad of the queue after the other, until there is none left.
use Rattle.std.proofs.Common.{refl, ◌+◌, arith}
use Rattle.std.proofs.lemmas.Result.{err_from_is_err_and}
use Rattle.laying.specs.inner.Moves.{Closed}
use Rattle.laying.proofs.Resting.{table_rest}
use Rattle.laying.proofs.Stepping.{tail_le}
use Rattle.laying.proofs.Parts.{went_stuck, went_so, went_next, closed_next}
use Rattle.laying.proofs.steps.run.Goals as goal

pub overflow_add-q : goal.overflow_add-q
overflow_add-q c = omega (arith, tail_le c.loop-head.invariant.ended.state.cover)

pub offset_bounds-work-sheet : goal.offset_bounds-work-sheet
offset_bounds-work-sheet c = omega (arith, tail_le c.loop-head.invariant.ended.state.cover)

pub bounds-work-sheet : goal.bounds-work-sheet
bounds-work-sheet c = omega (arith, tail_le c.loop-head.invariant.ended.state.cover, c.requires.table.room)

pub sides-requires-clause-q_lt_n : goal.sides-requires-clause-q_lt_n
sides-requires-clause-q_lt_n c = (c.loop-head.invariant.ended.state.cover.within c.loop-head.head c.loop-head-test.true, table_rest c.requires.table c.loop-head.invariant.rest)

pub returns-in_err-tail : goal.returns-in_err-tail
returns-in_err-tail c =
    let p = err_from_is_err_and c.from_residual.result c.from_residual.ensures.1 in
    rw (p.1, p.2) (went_stuck (Closed c.args.sheet.span c.args.sheet.quads.now c.args.sheet.count) c.loop-head.invariant c.in_err-tail.ensures)

pub loop-head-smaller : goal.loop-head-smaller
loop-head-smaller c = omega (arith, tail_le c.loop-head.invariant.ended.state.cover)

pub loop-head-preserved : goal.loop-head-preserved
loop-head-preserved c =
    let l = c.loop-head in
    let s = c.args.sheet in
    went_next (λ _. Closed s.span s.quads.now s.count (l.head + 1)) l.invariant c.in_ok-tail.ensures (λ w d m. closed_next s.given _ c.loop-head-test.true refl w d m)

pub returns : goal.returns
returns c = went_so (Closed c.args.sheet.span c.args.sheet.quads.now c.args.sheet.count) c.loop-head.invariant (λ i k. c.loop-head.invariant.ended.done i (omega (arith, c.loop-head-test.false)))
