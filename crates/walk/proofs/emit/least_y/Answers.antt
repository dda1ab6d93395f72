-- `least_y`: y is the least of the first k records' y.
use mathlib.Core.Path.{◌≡◌}
use native.Mathlib.Numerals.{add-one}
use native.Mathlib.Omega.{arith}
use borrow.Author.Rules.{rules}
use Rattle.walk.specs.inner.Emitted.{y_in, least_of}
use Rattle.walk.proofs.Shifted.{least_more}
use Rattle.walk.proofs.emit.least_y.Goals as goal

pub loop-k-init : goal.loop-k-init
unfolding least_of
loop-k-init c = search rules

pub loop-k-preserved : goal.loop-k-preserved
loop-k-preserved c =
    let z = c.args in
    let l = c.loop-k in
    let e = least_more (y_in z.work.now z.run.at) l.k in
    rw (add-one l.k) (omega (arith, e, c.min-y.ensures, c.y_of.ensures, l.invariant))

pub returns : goal.returns
returns c =
    let l = c.loop-k in
    let e : l.k ≡ c.args.run.count = omega arith in
    rw e at l.invariant
