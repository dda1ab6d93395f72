-- What was passed are digits, which spell the number so far.
use Rattle.digits.proofs.Numerals.{Spelt}
use Rattle.digits.proofs.run_at.Given as goal

abbrev pub invariant-loop-count : goal.invariant-loop-count
invariant-loop-count l = Spelt l.text l.at l.base l.most l.value l.count
