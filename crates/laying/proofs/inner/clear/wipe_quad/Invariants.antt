-- `wipe_quad`: the mark goes first, then the words of one corner after the other.
use Rattle.laying.proofs.Wiping.{Bared}
use Rattle.laying.proofs.inner.clear.wipe_quad.Given as goal

abbrev pub invariant-loop-k : goal.invariant-loop-k
invariant-loop-k l = Bared l.sheet.span l.sheet.quads.now l.initial.work l.work l.q l.k
