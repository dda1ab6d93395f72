-- The quads of the triangles below `from` stand at the front, and the rest of the list is as it was.
use mathlib.Core.Path.{refl}
use native.Mathlib.Omega.{arith}
use Rattle.quads.specs.Call.{words_of}
use Rattle.quads.specs.Merge.{quads_to}
use Rattle.quads.proofs.Made.{front_more, front_all, front_room}
use Rattle.quads.proofs.Pairs.{four_exist}
use Rattle.quads.proofs.inner.write_quads.Goals as goal

pub loop-t-init : goal.loop-t-init
unfolding quads_to words_of
loop-t-init c = (omega arith, record { count = refl; held = refl })

pub overflow_mul-made : goal.overflow_mul-made
overflow_mul-made c = omega (arith, front_room _ _ _ c.loop-t.invariant.1 c.in-Some.ensures c.requires.1)

pub order_corners-requires : goal.order_corners-requires
order_corners-requires c = let first = c.in-Some.ensures in (c.requires.0.standing, four_exist _ c.requires.0 _ _ (omega (arith, first.reach)) first.hit)

pub store-requires : goal.store-requires
store-requires c = omega (arith, front_room _ _ _ c.loop-t.invariant.1 c.in-Some.ensures c.requires.1, c.loop-t.auto.quads)

pub loop-t-preserved : goal.loop-t-preserved
loop-t-preserved c =
    let first = c.in-Some.ensures in
    (omega (arith, first.reach), front_more _ _ _ c.loop-t.invariant.1 first c.requires.1 c.order_corners.ensures c.store.ensures)

pub returns : goal.returns
returns c = front_all _ _ _ c.loop-t.invariant.1 c.loop-t.invariant.0 c.in_default.ensures
