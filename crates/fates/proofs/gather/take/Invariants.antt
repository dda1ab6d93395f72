-- `take`: the first i quads of the queue have no marks and their corners no words, and the queue itself stays.
use Rattle.fates.proofs.Draining.{Drained}
use Rattle.fates.proofs.gather.take.Given as goal

abbrev pub invariant-loop-i : goal.invariant-loop-i
invariant-loop-i l = Drained l.sheet.span l.sheet.quads.now l.sheet.count l.seed l.initial.work l.work l.m l.r l.i
