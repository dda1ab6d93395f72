-- `counted` goes by whether the component is kept.
use mathlib.Core.Path.{refl}
use Rattle.walk.proofs.emit.counted.Goals as goal

pub returns-then-kept : goal.returns-then-kept
returns-then-kept c = rw c.if-kept.true (refl, refl)
