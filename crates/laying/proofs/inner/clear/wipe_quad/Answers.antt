-- `wipe_quad`: the mark goes first, then the words of one corner after the other.
use Rattle.std.proofs.Common.{◌≡◌, arith}
use Rattle.laying.proofs.Wiping.{wiped}
use Rattle.laying.proofs.inner.clear.wipe_quad.Goals as goal

pub returns : goal.returns
returns c =
    let e : c.loop-k.k ≡ 4 = omega arith in
    wiped (rw e at c.loop-k.invariant) c.requires.0 c.args.sheet.given.few c.requires.1
