-- `gather_lengths` reads records and lengths outside the region that it fills, so they are as they were.
use mathlib.Core.Path.{refl}
use native.Mathlib.Omega.{arith}
use Rattle.words.proofs.Regions.{filled_more}
use Rattle.filter.proofs.Gathering.{number_lt, length_next}
use borrow.Author.Rules.{rules}
use Rattle.filter.proofs.size.gather_lengths.Goals as goal

pub bounds-work-n-in-loop-e : goal.bounds-work-n-in-loop-e
bounds-work-n-in-loop-e c = omega (arith, number_lt c.loop-e.invariant c.requires.by_index (search rules) refl)

pub loop-e-preserved : goal.loop-e-preserved
loop-e-preserved c = filled_more c.loop-e.invariant (search rules) (search rules) (length_next c.loop-e.invariant c.requires.by_index (search rules) refl)
