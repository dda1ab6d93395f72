-- `write_entries`: the first k entries stand from the place on, and the rest of the list is as it was.
use mathlib.Core.Path.{◌≡◌}
use Prim.Native.Nat.{◌*◌}
use lib.ListN.{length}
use Rattle.walk.specs.inner.Emitted.{entries_to}
use Rattle.walk.specs.Call.{entry_words}
use Rattle.walk.specs.inner.Emitting.{pasted}
use Rattle.walk.proofs.emit.write_entries.Given as goal

abbrev pub invariant-loop-k : goal.invariant-loop-k
invariant-loop-k l = (l.entries ≡ pasted (3 * l.place) (entry_words (entries_to l.work l.run.at l.least.x l.least.y l.k)) l.initial.entries) × (length l.entries ≡ length l.initial.entries)
