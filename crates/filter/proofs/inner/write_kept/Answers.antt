-- `write_kept`: the quads below q whose mark is 0 stand at the front, and the rest of the list is as it was.
use Prim.Native.Nat.{ℕ}
use native.Mathlib.Omega.{arith}
use lib.ListN.{get_or}
use Rattle.filter.proofs.Kept.{wrote_none, wrote_room, wrote_yes, wrote_no}
use Rattle.filter.proofs.inner.write_kept.Goals as goal
use Rattle.filter.proofs.inner.write_kept.Goals.{then-work-q-eq0, else-work-q-eq0}

pub loop-q-init : goal.loop-q-init
loop-q-init c = wrote_none _ _ _

pub store-requires : goal.store-requires
store-requires c =
    let l = c.loop-q in
    let s = c.args in
    omega (arith, wrote_room s.quads.now (λ (k : ℕ). get_or s.work.now k 0) s.kept.now l.kept l.at l.q _ l.invariant c.if-work-q-eq0.true c.loop-q-test.true c.requires.room)

pub loop-q-preserved : goal.loop-q-preserved
loop-q-preserved c =
    let l = c.loop-q in
    let s = c.args in
    elim c.if-work-q-eq0.branch [
      | then-work-q-eq0 w ↦ rw (w.kept-is, w.at-is) (wrote_yes _ _ _ l.kept _ l.at l.q _ l.invariant w.if-work-q-eq0.true w.quad_at.ensures (wrote_room s.quads.now (λ (k : ℕ). get_or s.work.now k 0) s.kept.now l.kept l.at l.q _ l.invariant w.if-work-q-eq0.true c.loop-q-test.true c.requires.room) w.store.ensures)
      | else-work-q-eq0 w ↦ rw (w.kept-is, w.at-is) (wrote_no _ _ _ l.kept l.at l.q l.invariant w.if-work-q-eq0.false)
    ]
