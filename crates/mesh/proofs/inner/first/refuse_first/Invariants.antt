-- No place passed so far offends.
use Rattle.std.proofs.Common.{ℕ, ◌<◌, false}
use Rattle.mesh.proofs.inner.first.refuse_first.Given as goal

abbrev pub invariant-loop-k : goal.invariant-loop-k
invariant-loop-k g l = (k : ℕ) → k < l.k → goal.O-post g l.offends k false
