-- `label_frame` is allowed: the rows, then the stages and their counts, then what follows the labelling.
use mathlib.Core.Path.{◌≡◌}
use lib.ListN.{length}
use Rattle.std.proofs.lemmas.Result.{err_from_is_err_and}
use Rattle.std.specs.Prelude.{Ok}
use Rattle.frame.specs.Stages.{Input, given}
use Rattle.frame.specs.Call.{entry_gate}
use Rattle.frame.proofs.Outcomes.{shut, may_ask, shut_work, entered, may_emit, emitted}
use Rattle.frame.proofs.label_frame.Goals as goal
use Rattle.frame.proofs.label_frame.Goals.{In_ok-work_gate, Start}

abbrev read : Start → Input
read s = given s.args.frame s.args.params

-- where all rows are open
through : (c : In_ok-work_gate) → entry_gate (given c.args.frame c.args.params) (length c.args.work.now) ≡ Ok tt
through c = entered (given c.args.frame c.args.params) _ c.judge.ensures c.in_ok-judge.was c.args.work.now _ c.work_gate.ensures c.in_ok-work_gate.was

pub returns-in_err-judge : goal.returns-in_err-judge
returns-in_err-judge c =
    let p = err_from_is_err_and c.from_residual.result c.from_residual.ensures.1 in
    rw (p.1, p.2) (shut (read (goal.at.returns-in_err-judge c).Start) _ _ _ _ c.judge.ensures _ c.in_err-judge.was)

pub work_gate-requires : goal.work_gate-requires
work_gate-requires c = may_ask (read (goal.at.work_gate-requires c).Start) _ c.judge.ensures c.in_ok-judge.was

pub returns-in_err-work_gate : goal.returns-in_err-work_gate
returns-in_err-work_gate c =
    let p = err_from_is_err_and c.from_residual-in_err-work_gate.result c.from_residual-in_err-work_gate.ensures.1 in
    rw (p.1, p.2) (shut_work (read (goal.at.returns-in_err-work_gate c).Start) _ c.judge.ensures c.in_ok-judge.was _ _ c.work_gate.ensures _ _ _ c.in_err-work_gate.was)

pub compute_frame-counts-requires : goal.compute_frame-counts-requires
compute_frame-counts-requires c = through (goal.at.compute_frame-counts-requires c).In_ok-work_gate

pub write_components-requires : goal.write_components-requires
write_components-requires c =
    let told = c.compute_frame-counts.ensures in
    let spanned = c.span_of-span.ensures in
    record { writable = may_emit (read (goal.at.write_components-requires c).Start) c.args.work.now _ _ _ (through (goal.at.write_components-requires c).In_ok-work_gate) told.fated spanned; counted = rw spanned told.counted_fates }

pub returns : goal.returns
returns c = emitted (read (goal.at.returns c).Start) c.args.work.now _ _ _ (through (goal.at.returns c).In_ok-work_gate) c.compute_frame-counts.ensures.fated c.span_of-span.ensures _ _ _ c.write_components.ensures
