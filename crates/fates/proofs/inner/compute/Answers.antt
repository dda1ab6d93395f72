-- `compute` leaves what its four routines leave one after the other.
use native.Mathlib.Omega.{arith}
use Rattle.fates.proofs.Routines.{batch, tables, outcome}
use Rattle.fates.proofs.inner.compute.Goals as goal

pub list_lone-m-requires : goal.list_lone-m-requires
list_lone-m-requires c = batch c.args.sheet.given (omega arith) c.prepare.ensures c.gather-all.ensures c.args.params

pub judge_groups-requires : goal.judge_groups-requires
judge_groups-requires c = tables c.args.sheet.given (omega arith) c.prepare.ensures c.gather-all.ensures c.args.params c.list_lone-m.ensures

pub returns : goal.returns
returns c = outcome c.args.sheet.given (omega arith) c.prepare.ensures c.gather-all.ensures c.args.params c.list_lone-m.ensures c.prepare.auto.work c.judge_groups.ensures
