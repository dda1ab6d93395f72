-- `write_lengths` fills the region of the lengths, side by side.
use mathlib.Core.Path.{◌≡◌}
use Prim.Native.Nat.{◌/◌}
use lib.ListN.{length}
use Rattle.words.specs.inner.Regions.{Filled}
use Rattle.filter.specs.inner.Layout.{lengths_at}
use Rattle.filter.specs.inner.Steps.{side_word}
use Rattle.filter.proofs.checked.Checked.write_lengths.Given as goal

abbrev pub invariant-loop-e : goal.invariant-loop-e
invariant-loop-e l = (l.at ≡ lengths_at (length l.self.quads.now / 4)) × Filled l.initial.work l.work l.at (length l.self.quads.now) l.e (side_word l.self.corners.x.now l.self.corners.y.now l.self.quads.now)
