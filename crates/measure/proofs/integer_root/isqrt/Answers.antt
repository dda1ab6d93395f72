-- `isqrt` is the integer root. The guess never falls below the root, and a guess whose square is above n falls.
use native.Mathlib.Nat.{le_trans, le_of_lt, lt_of_le_of_lt, div-le_self}
use native.Mathlib.Omega.{arith}
use lib.Dec.{lit<}
use Rattle.measure.proofs.Newton.{newton_above, newton_below, sq_pos}
use Rattle.measure.proofs.Squares.{square_le, root_least, root_most}
use Rattle.measure.proofs.integer_root.isqrt.Goals as goal

pub overflow_mul-r : goal.overflow_mul-r
overflow_mul-r c = record { fits = lt_of_le_of_lt (square_le c.loop-r.invariant.1) (lit< tt) }

pub nonzero_div-r : goal.nonzero_div-r
nonzero_div-r c = sq_pos c.args.n c.loop-r.r c.loop-r-test.true

pub overflow_add-r : goal.overflow_add-r
overflow_add-r c = omega (arith, div-le_self c.args.n c.loop-r.r)

pub loop-r-smaller : goal.loop-r-smaller
loop-r-smaller c = newton_below c.args.n c.loop-r.r c.loop-r-test.true

pub loop-r-preserved : goal.loop-r-preserved
loop-r-preserved c =
    let n = c.args.n in
    let r = c.loop-r.r in
    (newton_above n r (sq_pos n r c.loop-r-test.true), le_trans (le_of_lt (newton_below n r c.loop-r-test.true)) c.loop-r.invariant.1)

pub returns : goal.returns
returns c =
    let n = c.args.n in
    let r = c.loop-r.r in
    record {
      least = root_least n 8388608 r c.requires.0 c.loop-r.invariant.0;
      most = root_most n 16777216 r c.requires.1 c.loop-r-test.false;
      under = c.loop-r-test.false;
      over = c.loop-r.invariant.0;
    }
