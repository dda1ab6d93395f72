-- `least_x`: keys ascend, so the first record's x is the least.
use mathlib.Core.Path.{sym, ◌∙◌}
use native.Mathlib.Omega.{arith}
use Rattle.walk.specs.inner.Emitted.{least_of}
use Rattle.walk.proofs.Extent.{x_first}
use Rattle.walk.proofs.emit.least_x.Goals as goal

pub returns-then-run-eq0 : goal.returns-then-run-eq0
unfolding least_of
returns-then-run-eq0 c = rw c.if-run-eq0.true

pub returns : goal.returns
returns c = c.x_of.ensures ∙ sym (x_first c.args.work.now c.args.run c.requires (omega arith))
