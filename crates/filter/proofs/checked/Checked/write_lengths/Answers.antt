-- `write_lengths` fills the region of the lengths, side by side.
use native.Mathlib.Omega.{arith}
use Rattle.words.proofs.Regions.{filled_more}
use borrow.Author.Rules.{rules}
use Rattle.filter.proofs.checked.Checked.write_lengths.Goals as goal

pub loop-e-preserved : goal.loop-e-preserved
loop-e-preserved c = (search rules, filled_more c.loop-e.invariant.1 (omega arith) (search rules) c.side_word.ensures)
