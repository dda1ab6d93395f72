-- `write_medians` goes from run to run: the medians of all records before s are written, and a run begins at s.
use Prim.Native.Nat.{◌-◌}
use Rattle.filter.proofs.Runs.{RunsTo}
use Rattle.filter.proofs.size.write_medians.Given as goal

abbrev pub invariant-loop-s : goal.invariant-loop-s
invariant-loop-s l = RunsTo l.n l.s l.initial.work l.work

abbrev pub decreases-loop-s : goal.decreases-loop-s
decreases-loop-s l = l.n - l.s
