-- `marks` takes the two marks of every eight words.
use mathlib.Core.Path.{◌≡◌, refl}
use Prim.Native.Nat.{ℕ, ◌*◌}
use native.Mathlib.Omega.{arith}
use lib.ListN.{replicate, length-replicate}
use Rattle.gridtext.specs.Text.{most_corner_lines}
use Rattle.gridtext.proofs.Filling.{filled_none, filled_more}
use Rattle.gridtext.proofs.inner.unpack.marks.Goals as goal

pub loop-t-init : goal.loop-t-init
loop-t-init c = filled_none _ (replicate (2 * most_corner_lines) 0)

pub loop-t-preserved : goal.loop-t-preserved
loop-t-preserved c = let l = c.loop-t in filled_more l.t _ (replicate (2 * most_corner_lines) 0) l.out _ (omega (arith, length-replicate {A = ℕ} (2 * most_corner_lines) 0, c.requires)) l.invariant refl

pub returns : goal.returns
returns c = let e : c.loop-t.t ≡ 2 * c.args.n = omega arith in rw e at c.loop-t.invariant
