-- `clear`: one quad of the queue after the other.
use Rattle.std.proofs.Common.{◌+◌, ◌≤◌, refl, arith}
use Rattle.laying.proofs.Stepping.{tail_le}
use Rattle.laying.proofs.Wiping.{clearing_more}
use Rattle.laying.proofs.inner.clear.clear.Goals as goal

pub overflow_add-q : goal.overflow_add-q
overflow_add-q c = omega (arith, tail_le c.requires.cover)

pub offset_bounds-work-sheet : goal.offset_bounds-work-sheet
offset_bounds-work-sheet c = omega (arith, tail_le c.requires.cover)

pub bounds-work-sheet : goal.bounds-work-sheet
bounds-work-sheet c = omega (arith, tail_le c.requires.cover)

pub wipe_quad-requires : goal.wipe_quad-requires
wipe_quad-requires c =
    let l = c.loop-i in
    let s = c.args.sheet in
    let few : c.args.tail ≤ s.span = omega (arith, tail_le c.requires.cover, s.given.few) in
    (rw (l.invariant.middle (s.span + l.i) (omega (arith, s.given.few)) (omega arith)) (c.requires.cover.within l.i (omega arith)), omega (arith, c.requires.span_in_bounds, l.invariant.len))

pub loop-i-preserved : goal.loop-i-preserved
loop-i-preserved c =
    let s = c.args.sheet in
    clearing_more _ c.loop-i.invariant c.wipe_quad.ensures s.given.few (omega (arith, tail_le c.requires.cover, s.given.few)) refl
