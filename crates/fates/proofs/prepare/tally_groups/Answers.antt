-- `tally_groups`: the numbers so far are counted.
use native.Mathlib.Omega.{arith}
use Rattle.fates.proofs.Members.{counted_none, counted_more, counted_most}
use Rattle.fates.proofs.prepare.tally_groups.Goals as goal

pub loop-s-init : goal.loop-s-init
loop-s-init c = counted_none _ _ _ (c.fill.ensures.after (λ y e. e)) (omega arith)

pub overflow_add-counts : goal.overflow_add-counts
overflow_add-counts c = omega (arith, counted_most c.loop-s.invariant _ (c.requires.by_index c.loop-s.s-index c.loop-s-test.true))

pub loop-s-preserved : goal.loop-s-preserved
loop-s-preserved c = counted_more c.loop-s.invariant (c.requires.by_index c.loop-s.s-index c.loop-s-test.true)
