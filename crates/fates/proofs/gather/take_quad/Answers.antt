-- `take_quad`: after the mark, its first k corners have no words.
use mathlib.Core.Path.{◌≡◌}
use native.Mathlib.Omega.{arith}
use Rattle.fates.proofs.Draining.{stripped_more, emptied}
use Rattle.fates.proofs.gather.take_quad.Goals as goal

pub loop-k-preserved : goal.loop-k-preserved
loop-k-preserved c =
    let t = c.take_corner-r.ensures in
    stripped_more c.corner-c.result c.args.sheet.given c.requires.q_lt_n.0 c.loop-k.invariant t.0 t.1 c.corner-c.ensures.0 t.2

pub returns : goal.returns
returns c =
    let l = c.loop-k in
    let e : l.k ≡ 4 = omega arith in
    emptied c.args.sheet.given c.requires.q_lt_n.0 (omega (arith, c.requires.n_in_bounds)) (rw e at l.invariant)
