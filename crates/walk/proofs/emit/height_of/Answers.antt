-- `height_of`: `high` is the height of the first k entries.
use mathlib.Core.Path.{◌≡◌, sym, ap}
use native.Mathlib.Numerals.{add-one}
use native.Mathlib.Omega.{arith}
use Rattle.cells.specs.Holes.{height}
use Rattle.walk.specs.inner.Emitted.{least_x}
use Rattle.walk.proofs.Shifted.{none_yet}
use Rattle.walk.proofs.Extent.{y_low, height_more}
use Rattle.walk.proofs.emit.height_of.Goals as goal

pub loop-k-init : goal.loop-k-init
unfolding height
loop-k-init c = let z = c.args in (sym (ap height (none_yet z.work.now z.run.at (least_x z.work.now z.run) z.y)), omega arith)

pub shifted-requires : goal.shifted-requires
shifted-requires c =
    let k = c.loop-k.k in
    let h = y_low c.args.work.now c.args.run c.requires.ascending k (omega arith) in
    (omega (arith, c.y_of.ensures, c.requires.y_value), omega (arith, c.y_of.ensures))

pub loop-k-preserved : goal.loop-k-preserved
loop-k-preserved c =
    let z = c.args in
    let l = c.loop-k in
    let v = c.shifted.ensures in
    let e = height_more z.work.now z.run.at (least_x z.work.now z.run) z.y l.k in
    (rw (add-one l.k) (omega (arith, c.max-high.ensures, c.y_of.ensures)), omega (arith, c.max-high.ensures, c.y_of.ensures))

pub returns : goal.returns
returns c =
    let l = c.loop-k in
    let e : l.k ≡ c.args.run.count = omega arith in
    (rw (e, c.requires.y_value) at l.invariant.0, l.invariant.1)
