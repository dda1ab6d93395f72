-- The call that ends the loop took what it counts, and those before it took nothing.
use Rattle.std.proofs.Common.{arith, length-take}
use Rattle.std.proofs.KnownBytes.{Keeps-trans}
use Rattle.streams.proofs.Known.{within, counted_within, read_by, kept_read}
use Rattle.streams.proofs.inner.read_some.Goals as goal

pub returns-in_default : goal.returns-in_default
returns-in_default g c =
    let most = c.min-most.result in
    let part = c.loop.part in
    record {
      within = within _ _ _ _ c.came_to-came.ensures (counted_within _ _ c.read-answer.ensures.bound) (omega (arith, length-take most part));
      bytes = kept_read _ _ _ _ _ c.loop.invariant (read_by _ _ _ _ _ most part c.came_to-came.ensures c.read-answer.ensures.bound c.read-answer.ensures.bytes c.read-answer.auto.buf (λ some. omega arith));
    }

pub loop-preserved : goal.loop-preserved
loop-preserved g c =
    let by = read_by _ _ _ _ _ c.min-most.result c.loop.part c.came_to-came.ensures c.read-answer.ensures.bound c.read-answer.ensures.bytes c.read-answer.auto.buf (λ some. omega arith) in
    Keeps-trans _ _ _ c.loop.invariant (rw c.in-Interrupted.is at by)
