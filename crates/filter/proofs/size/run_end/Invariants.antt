-- `run_end` stops at the first record of another group, or past the last; groups ascend, so all after it are higher.
use mathlib.Core.Path.{◌≡◌}
use Prim.Native.Nat.{ℕ, ◌≤◌, ◌<◌}
use Rattle.words.specs.inner.Order.{word_of}
use Rattle.filter.specs.inner.Layout.{records_at}
use Rattle.filter.proofs.size.run_end.Given as goal

abbrev pub invariant-loop-e : goal.invariant-loop-e
invariant-loop-e l = (k : ℕ) → l.s ≤ k → k < l.e → word_of l.work (records_at l.n) 1 k ≡ word_of l.work (records_at l.n) 1 l.s
