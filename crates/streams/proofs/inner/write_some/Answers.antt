-- The call that ends the loop gave what it counts, and those before it gave nothing.
use Rattle.std.proofs.Common.{arith, length-take}
use Rattle.std.proofs.KnownBytes.{Keeps-trans}
use Rattle.streams.proofs.Known.{within, written_by, kept_written}
use Rattle.streams.proofs.inner.write_some.Goals as goal

pub returns-in_default : goal.returns-in_default
returns-in_default g c = record {
  within = within _ _ _ _ c.came_to-came.ensures c.write.ensures.bound (omega (arith, length-take c.min-most.result c.args.part.now));
  bytes = kept_written _ _ _ _ _ c.loop.invariant (written_by _ _ _ _ _ c.args.part.now c.came_to-came.ensures c.write.ensures.bound (omega arith) c.write.ensures.bytes);
}

pub loop-preserved : goal.loop-preserved
loop-preserved g c =
    let by = written_by _ _ _ _ _ c.args.part.now c.came_to-came.ensures c.write.ensures.bound (omega arith) c.write.ensures.bytes in
    Keeps-trans _ _ _ c.loop.invariant (rw c.in-Interrupted.is at by)
