-- `claimed`: those of the first k records that begin a claim are counted.
use native.Mathlib.Omega.{arith}
use Rattle.std.proofs.lemmas.Bool.Decides.{not_from_Decides}
use Rattle.cells.proofs.Counted.{below_none, below_passed, below_more}
use Rattle.fates.proofs.judge.claimed.Goals as goal
use Rattle.fates.proofs.judge.claimed.Goals.{then-begins_claim, else-begins_claim}

pub loop-k-init : goal.loop-k-init
loop-k-init c = (omega arith, below_none _)

pub loop-k-preserved : goal.loop-k-preserved
loop-k-preserved c =
    let l = c.loop-k in
    let t = c.begins_claim.ensures in
    elim c.if-begins_claim.branch [
      | then-begins_claim w ↦ (omega arith, rw w.claims-is (below_more _ l.k (t.0 w.if-begins_claim.true) l.invariant.1))
      | else-begins_claim w ↦ (omega arith, rw w.claims-is (below_passed _ l.k (not_from_Decides _ t w.if-begins_claim.false) l.invariant.1))
    ]
