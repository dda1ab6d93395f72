-- `walk_from` goes one seed on by what the walk answered: its labels taken, or cleared.
use native.Mathlib.Omega.{arith}
use Rattle.fates.proofs.Fated.{fitted_small, fitted_room, underway_none, underway_laid}
use Rattle.fates.proofs.gather.walk_from.Goals as goal

pub take-r-requires-clause-seed_lt_n : goal.take-r-requires-clause-seed_lt_n
take-r-requires-clause-seed_lt_n c =
    let w = c.in-Ok.ensures in
    (c.requires.seed_lt_n, fitted_room c.args.sheet.given c.requires.begun.underway c.requires.seed_lt_n c.requires.seed_value w.rest w.ended)

pub overflow_cast-work : goal.overflow_cast-work
overflow_cast-work c =
    let w = c.in-Ok.ensures in
    omega (arith, fitted_small c.args.sheet.given c.requires.begun.underway c.requires.seed_lt_n c.requires.seed_value w.rest w.ended, c.args.sheet.given.few, c.args.sheet.given.most)

pub returns-in-Ok : goal.returns-in-Ok
returns-in-Ok c =
    let w = c.in-Ok.ensures in
    λ number params u. underway_laid c.args.sheet.given u c.requires.seed_lt_n c.requires.seed_value w.rest w.ended c.take-r.ensures

pub returns-in-Err : goal.returns-in-Err
returns-in-Err c =
    let w = c.in-Err.ensures in
    λ number params u. underway_none c.args.sheet.given u c.requires.seed_lt_n c.requires.seed_value w.rest w.ended c.clear.ensures
