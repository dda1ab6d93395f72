-- `keep_lone`: of the first k records the single ones are picked.
use Prim.Native.Nat.{◌*◌}
use Rattle.words.specs.inner.Regions.{Kept}
use Rattle.fates.specs.inner.Singles.{Picked}
use Rattle.fates.proofs.lone.keep_lone.Given as goal

abbrev pub invariant-loop-k : goal.invariant-loop-k
invariant-loop-k l = Kept l.initial.work l.work l.b (2 * l.m) × Picked l.initial.work l.work l.a l.b l.m l.k l.r
