-- `count_incidence`: after the places passed each corner's word is twice the number of them that name it.
use Prim.Native.Nat.{ℕ}
use lib.ListN.{get_or}
use Rattle.filter.proofs.Tally.{Tallied}
use Rattle.filter.proofs.checked.Checked.count_incidence.Given as goal

abbrev pub invariant-loop-c : goal.invariant-loop-c
invariant-loop-c l = Tallied (λ (k : ℕ). get_or l.self.quads.now k 0) l.c-index l.table
