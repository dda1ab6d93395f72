-- `gather_seed` goes one seed on: no lowest, or a walk.
use Rattle.fates.proofs.Fated.{underway_within}
use Rattle.fates.proofs.gather.gather_seed.Goals as goal

pub returns-then-work-sheet : goal.returns-then-work-sheet
returns-then-work-sheet c = λ number params u. underway_within c.args.sheet.given u c.requires.seed_lt_n c.if-work-sheet.true
