-- `slots` takes two words of every eight, as floats.
use mathlib.Core.Path.{◌≡◌}
use Prim.Native.Nat.{◌*◌}
use native.Mathlib.Omega.{arith}
use lib.ListN.{replicate, length-replicate}
use Rattle.measure.specs.Float.{bits}
use Rattle.gridtext.specs.Text.{most_corner_lines}
use Rattle.gridtext.proofs.Filling.{filled_none, filled_more}
use Rattle.gridtext.proofs.inner.unpack.slots.Goals as goal

pub loop-t-init : goal.loop-t-init
loop-t-init c = filled_none _ (replicate (2 * most_corner_lines) (bits 0))

pub loop-t-preserved : goal.loop-t-preserved
loop-t-preserved c = let l = c.loop-t in filled_more l.t _ (replicate (2 * most_corner_lines) (bits 0)) l.out _ (omega (arith, length-replicate (2 * most_corner_lines) (bits 0), c.requires)) l.invariant c.float_of.ensures

pub returns : goal.returns
returns c = let e : c.loop-t.t ≡ 2 * c.args.n = omega arith in rw e at c.loop-t.invariant
