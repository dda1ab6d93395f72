-- `keep_quads`: the marks of the front's quads, and those whose mark is 0 kept.
use mathlib.Core.Path.{refl, sym}
use Prim.Native.Nat.{◌*◌}
use native.Mathlib.Omega.{arith}
use lib.ListN.{take}
use lib.Seq.{length-take-le}
use Rattle.filter.specs.Input.{Input}
use Rattle.frame.proofs.Sifting.{front_count, sifted}
use Rattle.frame.proofs.stages.keep_quads.Goals as goal
use Rattle.frame.proofs.stages.keep_quads.Goals.{Start}

abbrev read : Start → Input
read s = record { xs = s.args.corners.x.now; ys = s.args.corners.y.now; quads = take (4 * s.args.n) s.args.quads.now; params = s.args.params }

pub slice_bounds-mark_quads-end-2 : goal.slice_bounds-mark_quads-end-2
slice_bounds-mark_quads-end-2 c = sym (length-take-le _ _ c.requires.2)

pub mark_quads-requires : goal.mark_quads-requires
mark_quads-requires c = (c.requires.0, omega (arith, front_count (read (goal.at.mark_quads-requires c).Start) _ _ refl c.requires.2, c.requires.1))

pub returns : goal.returns
returns c =
    let marked = c.mark_quads.ensures in
    let kept = c.keep_marked.ensures in
    (sifted (read (goal.at.returns c).Start) _ _ refl c.requires.2 _ _ _ _ marked kept.0 kept.1, marked.len)
