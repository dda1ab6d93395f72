-- `gather_lengths` reads records and lengths outside the region that it fills, so they are as they were.
use Prim.Native.Nat.{◌*◌}
use Rattle.words.specs.inner.Regions.{Filled}
use Rattle.filter.specs.inner.Layout.{gathered_at}
use Rattle.filter.proofs.Gathering.{length_to}
use Rattle.filter.proofs.size.gather_lengths.Given as goal

abbrev pub invariant-loop-e : goal.invariant-loop-e
invariant-loop-e l = Filled l.initial.work l.work (gathered_at l.n) (4 * l.n) l.e (length_to l.initial.work l.n)
