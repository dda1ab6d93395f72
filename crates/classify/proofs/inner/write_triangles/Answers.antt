-- `write_triangles` writes `classes_of` and fits: after t triangles the first 3t places of each list hold their half-edges' own.
use mathlib.Core.Path.{◌≡◌}
use Prim.Native.Nat.{◌*◌}
use native.Mathlib.Omega.{arith}
use borrow.Author.Count.{below_none}
use lib.ListN.{length}
use Rattle.classify.specs.Classes.{given}
use Rattle.classify.proofs.Triangle.{classed_more, fitted_more, classed_all, fitted_all}
use Rattle.classify.proofs.inner.write_triangles.Goals as goal

pub loop-t-init : goal.loop-t-init
loop-t-init c = record { classed = below_none _; fitted = λ e h. absurd (omega arith) }

pub loop-t-preserved : goal.loop-t-preserved
loop-t-preserved c =
    let i = given c.args.corners c.args.axes c.args.triangles c.args.params in
    let l = c.loop-t in
    let sides = c.judge_triangle-sides.ensures in
    let judged = c.judge_sides-judged.ensures in
    record {
      classed = classed_more i l.t _ sides _ judged l.classes _ _ c.class_words.ensures c.store.ensures (omega arith) l.invariant.classed;
      fitted = fitted_more i l.t _ sides _ judged l.fits _ c.tell_fits.ensures (rw l.auto.fits c.requires.2) (omega arith) l.invariant.fitted;
    }

pub returns : goal.returns
returns c =
    let i = given c.args.corners c.args.axes c.args.triangles c.args.params in
    let l = c.loop-t in
    let whole : length c.args.triangles.now ≡ 3 * l.t = omega (arith, c.requires.0.whole) in
    (classed_all i l.t whole l.classes (omega arith) l.invariant.classed, fitted_all i l.t whole l.fits (rw l.auto.fits c.requires.2) l.invariant.fitted)
