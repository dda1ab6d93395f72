-- `take`: the first i quads of the queue have no marks and their corners no words, and the queue itself stays.
use mathlib.Core.Path.{refl}
use Prim.Native.Nat.{◌≤◌}
use native.Mathlib.Omega.{arith}
use Rattle.fates.proofs.Draining.{drained_more}
use Rattle.fates.proofs.gather.take.Goals as goal

pub loop-i-preserved : goal.loop-i-preserved
loop-i-preserved c =
    let few : c.args.tail ≤ c.args.sheet.count = omega (arith, c.requires.seed_lt_n.1) in
    drained_more c.args.sheet.given c.requires.fitted.cover c.loop-i.invariant few _ c.loop-i-test.true refl c.take_quad-r.ensures
