-- `write_records` copies what stands outside the records, so the first q are right at every turn.
use Rattle.filter.specs.inner.Steps.{Recorded}
use Rattle.filter.proofs.size.write_records.Given as goal

abbrev pub invariant-loop-q : goal.invariant-loop-q
invariant-loop-q l = Recorded l.n l.q l.initial.work l.work
