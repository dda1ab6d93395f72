-- The first i words are the given ones over and over, and those past the count as they were.
use mathlib.Core.Path.{◌≡◌}
use Prim.Native.Nat.{ℕ, ◌≤◌}
use lib.ListN.{get_or}
use Rattle.vectors.specs.inner.Lists.{over_at, Laid}
use Rattle.vectors.proofs.inner.list.say_over.Given as goal

abbrev pub invariant-loop-i : goal.invariant-loop-i
invariant-loop-i l = Laid 0 l.initial.list l.list l.i (over_at l.initial.list l.given) × ((k : ℕ) → l.count ≤ k → get_or l.list k 0 ≡ get_or l.initial.list k 0)
