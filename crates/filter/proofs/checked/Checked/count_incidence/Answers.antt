-- `count_incidence`: a cleared table, and 2 more at each place.
use mathlib.Core.Path.{◌≡◌}
use Prim.Native.Nat.{ℕ}
use native.Mathlib.Omega.{arith}
use lib.ListN.{length, get_or}
use Rattle.filter.specs.Topology.{incidence}
use Rattle.filter.proofs.Tally.{tallied_none, tallied_more, tallied_most}
use Rattle.filter.proofs.checked.Checked.count_incidence.Goals as goal

pub loop-c-init : goal.loop-c-init
loop-c-init c = tallied_none _ _ _ (c.fill.ensures.after (λ y e. e))

pub overflow_add-table : goal.overflow_add-table
overflow_add-table c =
    let s = c.args.self in
    omega (arith, tallied_most (λ (k : ℕ). get_or s.quads.now k 0) c.loop-c.c-index c.loop-c.table c.loop-c.invariant (get_or s.quads.now c.loop-c.c-index 0) (omega (arith, s.sound.named c.loop-c.c-index)), s.sound.few, s.sound.whole)

pub loop-c-preserved : goal.loop-c-preserved
loop-c-preserved c =
    let s = c.args.self in
    tallied_more (λ (k : ℕ). get_or s.quads.now k 0) c.loop-c.c-index c.loop-c.table c.loop-c.invariant (omega (arith, s.sound.named c.loop-c.c-index))

pub returns : goal.returns
unfolding incidence
returns c k h =
    let e : c.loop-c.c-index ≡ length c.args.self.quads.now = omega arith in
    rw e at (c.loop-c.invariant k (omega arith))
