-- `quads_of`: the quads made, at the front of their list, are what the filters look at.
use mathlib.Core.Path.{sym, ◌∙◌}
use native.Mathlib.Omega.{arith}
use lib.Seq.{length-take-le}
use Rattle.frame.specs.Stages.{Input, given}
use Rattle.frame.proofs.Sound.{entry_open}
use Rattle.frame.proofs.Handing.{same_work, filters_ask, sifted_made}
use Prim.Native.Nat.{◌≤◌}
use lib.ListN.{length}
use Rattle.frame.proofs.stages.quads_of.Goals as goal
use Rattle.frame.proofs.stages.quads_of.Goals.{Start}

abbrev read : Start → Input
read s = given s.args.frame s.args.params

-- there is a word of work for each half-edge
edges_fit : (s : Start) → length s.args.frame.triangles.now ≤ length s.args.work.now
edges_fit s = omega (arith, (entry_open (read s) _ s.requires.0).1)

pub slice_bounds-make_quads-end : goal.slice_bounds-make_quads-end
slice_bounds-make_quads-end c = omega (arith, (entry_open (read (goal.at.slice_bounds-make_quads-end c).Start) _ c.requires.0).1)

pub slice_bounds-make_quads-end-2 : goal.slice_bounds-make_quads-end-2
slice_bounds-make_quads-end-2 c = sym (length-take-le _ _ (edges_fit (goal.at.slice_bounds-make_quads-end-2 c).Start))

pub make_quads-n-requires : goal.make_quads-n-requires
make_quads-n-requires c = record { rows_open = (entry_open (read (goal.at.make_quads-n-requires c).Start) _ c.requires.0).0; classes_len = (length-take-le _ _ (edges_fit (goal.at.make_quads-n-requires c).Start), c.requires.1) }

pub keep_quads-requires : goal.keep_quads-requires
keep_quads-requires c =
    let rows = entry_open (read (goal.at.keep_quads-requires c).Start) _ c.requires.0 in
    filters_ask (read (goal.at.keep_quads-requires c).Start) _ _ _ c.make_quads-n.ensures rows.0 c.args.work.now rows.1

pub returns : goal.returns
returns c =
    let made = c.make_quads-n.ensures in
    let kept = c.keep_quads.ensures in (
      sifted_made (read (goal.at.returns c).Start) _ _ _ made _ _ kept.0,
      kept.1 ∙ same_work (read (goal.at.returns c).Start) _ _ _ made (entry_open (read (goal.at.returns c).Start) _ c.requires.0).0 c.args.work.now (edges_fit (goal.at.returns c).Start),
    )
