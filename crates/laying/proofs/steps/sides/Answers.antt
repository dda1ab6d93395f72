-- `sides`: one side after the other.
use Rattle.std.proofs.Common.{◌≡◌, refl, ◌+◌, ◌*◌, ◌/◌, arith}
use Rattle.std.proofs.lemmas.Result.{err_from_is_err_and}
use Rattle.laying.specs.inner.Moves.{MetRound}
use Rattle.laying.proofs.Resting.{table_rest}
use Rattle.laying.proofs.Parts.{went_stuck, went_next, round_next}
use Rattle.laying.proofs.steps.sides.Goals as goal

pub scan_once-requires-clause-e_bound : goal.scan_once-requires-clause-e_bound
scan_once-requires-clause-e_bound c = (omega (arith, c.requires.q_lt_n.0), table_rest c.requires.q_lt_n.1 c.loop-k.invariant.rest)

pub scan_once-requires-clause-marked : goal.scan_once-requires-clause-marked
scan_once-requires-clause-marked c =
    let e : (4 * c.args.q + c.loop-k.k) / 4 ≡ c.args.q = omega arith in
    rw e (c.loop-k.invariant.ended.grows.still c.args.q (omega (arith, c.args.sheet.given.few, c.requires.q_lt_n.0)) c.requires.marked)

pub returns-in_err-t : goal.returns-in_err-t
returns-in_err-t c =
    let p = err_from_is_err_and c.from_residual.result c.from_residual.ensures.1 in
    rw (p.1, p.2) (went_stuck (λ _. MetRound c.args.sheet.quads.now c.args.sheet.count c.args.q 4) c.loop-k.invariant c.in_err-t.ensures)

pub loop-k-preserved : goal.loop-k-preserved
loop-k-preserved c =
    let l = c.loop-k in
    let s = c.args.sheet in
    went_next (λ _. MetRound s.quads.now s.count c.args.q (l.k + 1)) l.invariant c.in_ok-t.ensures (λ w d m. round_next s.given c.args.q l.k (4 * c.args.q + l.k) refl w d m)

pub returns : goal.returns
returns c =
    let e : c.loop-k.k ≡ 4 = omega arith in
    rw e at c.loop-k.invariant
