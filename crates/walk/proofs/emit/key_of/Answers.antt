-- `key_of` is the first word of the record.
use mathlib.Core.Path.{ap}
use Prim.Native.Nat.{ℕ}
use native.Mathlib.Omega.{arith}
use lib.ListN.{get_or}
use Rattle.walk.proofs.emit.key_of.Goals as goal

pub returns : goal.returns
returns c = let z = c.args in ap (λ (p : ℕ). get_or z.work.now p 0) (omega arith)
