-- `take_quad`: after the mark, its first k corners have no words.
use Rattle.fates.proofs.Draining.{Stripped}
use Rattle.fates.proofs.gather.take_quad.Given as goal

abbrev pub invariant-loop-k : goal.invariant-loop-k
invariant-loop-k l = Stripped l.sheet.span l.sheet.quads.now l.sheet.count l.seed l.initial.work l.work l.m l.r l.q l.k
