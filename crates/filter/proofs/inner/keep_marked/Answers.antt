-- `keep_marked`: the quads below q whose mark is 0 stand at the front, and the rest of the list, q's quad too, is as it was.
use mathlib.Core.Path.{◌∙◌}
use native.Mathlib.Omega.{arith}
use Rattle.filter.proofs.Kept.{wrote_none, wrote_yes, wrote_no, wrote_before, quad_unmoved}
use Rattle.filter.proofs.inner.keep_marked.Goals as goal
use Rattle.filter.proofs.inner.keep_marked.Goals.{then-work-q-eq0, else-work-q-eq0}

pub loop-q-init : goal.loop-q-init
loop-q-init c = wrote_none _ _ _

pub store-requires : goal.store-requires
store-requires c = let l = c.loop-q in omega (arith, wrote_before _ _ l.quads l.at l.q l.invariant, l.invariant.len)

pub loop-q-preserved : goal.loop-q-preserved
loop-q-preserved c =
    let l = c.loop-q in
    elim c.if-work-q-eq0.branch [
      | then-work-q-eq0 w ↦ rw (w.quads-is, w.at-is) (wrote_yes _ _ _ l.quads _ l.at l.q _ l.invariant w.if-work-q-eq0.true (w.quad_at-quad.ensures ∙ quad_unmoved _ _ l.quads l.at l.q l.invariant) (omega (arith, wrote_before _ _ l.quads l.at l.q l.invariant, l.invariant.len)) w.store.ensures)
      | else-work-q-eq0 w ↦ rw (w.quads-is, w.at-is) (wrote_no _ _ _ l.quads l.at l.q l.invariant w.if-work-q-eq0.false)
    ]
