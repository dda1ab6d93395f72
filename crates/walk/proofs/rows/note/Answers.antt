-- `note`: the row's word is stored anew.
use mathlib.Core.Path.{ap}
use Prim.Native.Nat.{ℕ}
use lib.ListN.{set}
use Rattle.walk.proofs.rows.note.Goals as goal

pub returns : goal.returns
returns c = ap (λ (word : ℕ). set c.args.work.now c.args.row word) c.noted.ensures
