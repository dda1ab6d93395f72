-- `step`: a quad that is marked already is met; another is laid, marked and queued, and the walk goes on or is stuck.
use Rattle.std.proofs.Common.{◌<◌, ◌/◌, length-set, arith}
use Rattle.laying.proofs.Stepping.{room_for, step_ends, went_on, went_wrong}
use Rattle.laying.proofs.steps.step.Goals as goal
use Rattle.laying.proofs.steps.step.Goals.{After-lay-fits}

pub lay-fits-requires-clause-ends_at : goal.lay-fits-requires-clause-ends_at
lay-fits-requires-clause-ends_at c = step_ends c.args.sheet.span _ _ _ _ _ c.args.e c.args.g c.args.sheet.given c.requires.state c.requires.e_bound.0 c.requires.e_bound.1 c.requires.marked c.requires.across

room : (c : After-lay-fits) → c.args.tail < c.args.sheet.count
room c = room_for c.requires.state.cover (c.args.g / 4) (omega (arith, c.requires.e_bound)) c.if-work-p-ne0.false

pub overflow_add-work : goal.overflow_add-work
overflow_add-work c = omega (arith, room (goal.at.overflow_add-work c).After-lay-fits)

pub offset_bounds-work-sheet : goal.offset_bounds-work-sheet
offset_bounds-work-sheet c = omega (arith, room (goal.at.offset_bounds-work-sheet c).After-lay-fits)

pub bounds-work-sheet : goal.bounds-work-sheet
bounds-work-sheet c = simp length-set (omega (arith, room (goal.at.bounds-work-sheet c).After-lay-fits, c.lay-fits.ensures.len))

pub overflow_add-queued : goal.overflow_add-queued
overflow_add-queued c = omega (arith, room (goal.at.overflow_add-queued c).After-lay-fits)

pub returns-then-fits : goal.returns-then-fits
returns-then-fits c = went_on c.args.sheet.span _ _ _ _ _ c.args.e c.args.g c.args.sheet.given c.requires.state c.requires.e_bound.0 c.requires.e_bound.1 c.requires.marked c.requires.across _ _ c.lay-fits.ensures c.if-work-p-ne0.false c.requires.e_bound.2 c.if-fits.true

pub returns : goal.returns
returns c = went_wrong c.args.sheet.span _ _ _ _ _ c.args.e c.args.g c.args.sheet.given c.requires.state c.requires.e_bound.0 c.requires.e_bound.1 c.requires.marked c.requires.across _ _ c.lay-fits.ensures c.if-work-p-ne0.false c.requires.e_bound.2 c.if-fits.false
