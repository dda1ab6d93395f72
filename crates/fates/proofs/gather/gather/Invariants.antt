-- `gather`: whatever the least quads and corners, the walks of the seeds passed are underway over the groups of the entry.
use mathlib.Core.Path.{◌≡◌}
use lib.ListN.{length}
use Rattle.cells.specs.Listed.{grouping_by}
use Rattle.fates.specs.declared.LabelParams.{LabelParams}
use Rattle.fates.specs.inner.Gathering.{numbers_in, Underway}
use Rattle.fates.proofs.gather.gather.Given as goal

abbrev pub invariant-loop-seed : goal.invariant-loop-seed
invariant-loop-seed l = (length l.work ≡ length l.initial.work) × ((params : LabelParams) → Underway l.sheet.span l.sheet.quads.now (grouping_by l.sheet.count (numbers_in l.sheet.span l.sheet.count l.initial.work) params.quads params.corners) l.seed l.m l.work)
