-- `write_out`: after the quads below s, their components and entries stand at the fronts, and the rest of both lists is as it was.
use mathlib.Core.Path.{◌≡◌}
use Prim.Native.Nat.{◌*◌}
use lib.ListN.{length}
use Rattle.words.specs.inner.Regions.{Kept}
use Rattle.walk.specs.inner.Emitted.{out_to}
use Rattle.walk.specs.inner.Emitting.{Written}
use Rattle.walk.proofs.Counting.{Counting}
use Rattle.walk.proofs.emit.write_out.Given as goal

abbrev pub invariant-loop-s : goal.invariant-loop-s
invariant-loop-s l = Counting l.initial.work l.span l.n l.s l.totals.components l.totals.entries × Written (out_to l.initial.work l.span l.n l.s) l.initial.components l.initial.entries l.components l.entries × (length l.components ≡ length l.initial.components) × (length l.entries ≡ length l.initial.entries)
    × Kept l.initial.work l.work 0 (4 * l.span)
