-- `spread`: four steps outward from near words, each along the turned side.
use Rattle.std.proofs.Common.{◌≡◌, ℕ, ℤ, ◌+◌, ◌*◌, ◌-◌, ◌<◌, ◌+ℤ◌, arith}
use Rattle.std.proofs.lemmas.Int.{ints}
use Rattle.mesh.specs.Lists.{most_corners}
use Rattle.laying.specs.inner.Layout.{centre, label, InRange, Near}
use Rattle.laying.proofs.settle.spread.Goals as goal

-- a step between near words leads from a near word to a word
leads : {b p q : ℕ} (z : ℤ) → Near most_corners b → Near most_corners p → Near most_corners q → label b +ℤ z ≡ label ((b + p) - q) → (b < 2 * centre) × InRange (label b +ℤ z)
leads {b} {p} {q} z hb hp hq e = (omega (arith, hb.high), record { word = (b + p) - q; of = record { is = e; small = omega (arith, hb.high, hp.high, hq.low) } })

pub outward-requires : goal.outward-requires
outward-requires c = let h = c.requires.ends in leads _ h.xb_near h.ya_near h.yb_near (omega (arith, ints))

pub outward-requires-2 : goal.outward-requires-2
outward-requires-2 c = let h = c.requires.ends in leads _ h.yb_near h.xb_near h.xa_near (omega (arith, ints))

pub outward-requires-3 : goal.outward-requires-3
outward-requires-3 c = let h = c.requires.ends in leads _ h.xa_near h.ya_near h.yb_near (omega (arith, ints))

pub outward-requires-4 : goal.outward-requires-4
outward-requires-4 c = let h = c.requires.ends in leads _ h.ya_near h.xb_near h.xa_near (omega (arith, ints))

pub returns : goal.returns
returns c =
    let a = c.args.a in
    let b = c.args.b in
    let xc : c.outward.result ≡ (b.x + a.y) - b.y = omega (arith, ints) in
    let yc : c.outward-2.result ≡ (b.y + b.x) - a.x = omega (arith, ints) in
    let xd : c.outward-3.result ≡ (a.x + a.y) - b.y = omega (arith, ints) in
    let yd : c.outward-4.result ≡ (a.y + b.x) - a.x = omega (arith, ints) in
    rw (xc, yc, xd, yd) at c.place.ensures
