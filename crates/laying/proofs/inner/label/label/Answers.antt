-- `label`: the walk from the planted seed ends with the queue used up, or is stuck.
use Rattle.laying.proofs.Resting.{table_rest}
use Rattle.laying.proofs.Ended.{labelled}
use Rattle.laying.proofs.inner.label.label.Goals as goal

pub run-requires-clause-table : goal.run-requires-clause-table
run-requires-clause-table c = table_rest c.requires.table c.plant.ensures.rest

pub returns : goal.returns
returns c = labelled c.args.sheet.given c.requires.seed_in _ c.plant.ensures c.run.ensures
