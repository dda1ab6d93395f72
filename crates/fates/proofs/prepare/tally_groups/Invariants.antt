-- `tally_groups`: the numbers so far are counted.
use Rattle.fates.specs.inner.Prepared.{Counted}
use Rattle.fates.proofs.prepare.tally_groups.Given as goal

abbrev pub invariant-loop-s : goal.invariant-loop-s
invariant-loop-s l = Counted l.numbers l.s-index l.counts
