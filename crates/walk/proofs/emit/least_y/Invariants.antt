-- `least_y`: y is the least of the first k records' y.
use mathlib.Core.Path.{◌≡◌}
use Rattle.walk.specs.inner.Emitted.{y_in, least_of}
use Rattle.walk.proofs.emit.least_y.Given as goal

abbrev pub invariant-loop-k : goal.invariant-loop-k
invariant-loop-k l = (l.y ≡ least_of (y_in l.work l.run.at) l.k)
