-- `take_corner`: with words, one record more.
use mathlib.Core.Path.{refl}
use native.Mathlib.Omega.{arith}
use Rattle.fates.proofs.Drawing.{written, drawn_one}
use Rattle.fates.proofs.gather.take_corner.Goals as goal

pub returns : goal.returns
returns c =
    let p = c.requires.c_lt_span in
    let w = written {seed = c.args.seed} c.args.work.now _ _ c.requires.n_in_bounds.0 p.0 p.2 refl refl in
    rw c.wipe.ensures (drawn_one w c.requires.n_in_bounds.1 c.requires.n_in_bounds.2 p.0 p.1 c.if-x-eq0.false, omega arith, w.first)
