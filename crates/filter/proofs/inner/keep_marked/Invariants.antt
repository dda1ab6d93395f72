-- `keep_marked`: the quads below q whose mark is 0 stand at the front, and the rest of the list, q's quad too, is as it was.
use Prim.Native.Nat.{ℕ}
use lib.ListN.{get_or}
use Rattle.filter.proofs.Kept.{Wrote}
use Rattle.filter.proofs.inner.keep_marked.Given as goal

abbrev pub invariant-loop-q : goal.invariant-loop-q
invariant-loop-q l = Wrote l.initial.quads (λ (k : ℕ). get_or l.work k 0) l.initial.quads l.quads l.at l.q
