-- `write_crowds`: the marks passed are written.
use mathlib.Core.Path.{◌≡◌}
use Prim.Native.Nat.{ℕ, ◌<◌}
use lib.ListN.{get_or}
use Rattle.words.specs.Sorting.{one}
use Rattle.filter.specs.Topology.{crowded}
use Rattle.filter.proofs.checked.Checked.write_crowds.Given as goal

abbrev pub invariant-loop-q : goal.invariant-loop-q
invariant-loop-q l = (k : ℕ) → k < l.q → get_or l.marks k 0 ≡ one (crowded l.self.quads.now k)
