-- `write_kept`: the quads below q whose mark is 0 stand at the front, and the rest of the list is as it was.
use Prim.Native.Nat.{ℕ}
use lib.ListN.{get_or}
use Rattle.filter.proofs.Kept.{Wrote}
use Rattle.filter.proofs.inner.write_kept.Given as goal

abbrev pub invariant-loop-q : goal.invariant-loop-q
invariant-loop-q l = Wrote l.quads (λ (k : ℕ). get_or l.work k 0) l.initial.kept l.kept l.at l.q
