-- `keep_lone`: of the first k records the single ones are picked.
use native.Mathlib.Omega.{arith}
use Rattle.std.proofs.lemmas.Bool.Decides.{not_from_Decides}
use Rattle.fates.proofs.Picking.{rising_kept, picked_left, picked_took}
use Rattle.fates.proofs.lone.keep_lone.Goals as goal
use Rattle.fates.proofs.lone.keep_lone.Goals.{then-is_lone, else-is_lone}

pub is_lone-requires-clause-seed_order : goal.is_lone-requires-clause-seed_order
is_lone-requires-clause-seed_order c = rising_kept c.loop-k.invariant.0 c.requires.room c.requires.seed_order

pub loop-k-preserved : goal.loop-k-preserved
loop-k-preserved c =
    let l = c.loop-k in
    let t = c.is_lone.ensures in
    elim c.if-is_lone.branch [
      | then-is_lone w ↦ rw (w.work-is, w.r-is, w.carry.ensures) (picked_took _ _ _ _ _ _ _ c.requires.room c.requires.seed_order (omega arith) l.invariant.0 l.invariant.1 (t.0 w.if-is_lone.true))
      | else-is_lone w ↦ rw (w.work-is, w.r-is) (picked_left _ _ _ _ _ _ _ c.requires.room c.requires.seed_order (omega arith) l.invariant.0 l.invariant.1 (not_from_Decides _ t w.if-is_lone.false))
    ]
