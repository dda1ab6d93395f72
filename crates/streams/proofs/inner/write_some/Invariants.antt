-- A call that a signal cut off gave nothing to the writer.
use Rattle.std.specs.Io.KnownBytes.{Keeps}
use Rattle.streams.proofs.inner.write_some.Given as goal

abbrev pub invariant-loop : goal.invariant-loop
invariant-loop g l = Keeps (g.W.Write.contents l.initial.writer) (g.W.Write.contents l.writer)
