-- `triples` takes three words of every six.
use mathlib.Core.Path.{◌≡◌, refl}
use Prim.Native.Nat.{ℕ, ◌*◌}
use native.Mathlib.Omega.{arith}
use lib.ListN.{replicate, length-replicate}
use Rattle.gridtext.specs.Text.{most_triangle_lines}
use Rattle.gridtext.proofs.Filling.{filled_none, filled_more}
use Rattle.gridtext.proofs.inner.unpack.triples.Goals as goal

pub loop-t-init : goal.loop-t-init
loop-t-init c = filled_none _ (replicate (3 * most_triangle_lines) 0)

pub loop-t-preserved : goal.loop-t-preserved
loop-t-preserved c = let l = c.loop-t in filled_more l.t _ (replicate (3 * most_triangle_lines) 0) l.out _ (omega (arith, length-replicate {A = ℕ} (3 * most_triangle_lines) 0, c.requires)) l.invariant refl

pub returns : goal.returns
returns c = let e : c.loop-t.t ≡ 3 * c.args.n = omega arith in rw e at c.loop-t.invariant
