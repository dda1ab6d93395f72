-- `claimed`: those of the first k records that begin a claim are counted.
use Prim.Native.Nat.{◌≤◌}
use Rattle.cells.specs.Counted.{Exactly}
use Rattle.cells.proofs.Counted.{Below}
use Rattle.fates.specs.inner.Judging.{Begins}
use Rattle.fates.proofs.judge.claimed.Given as goal

abbrev pub invariant-loop-k : goal.invariant-loop-k
invariant-loop-k l = (l.claims ≤ l.k) × Exactly (Below (Begins l.work l.run.at l.run.count) l.k) l.claims
