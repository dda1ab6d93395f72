-- `mark_skewed` sweeps the marks: what it reads of a quad is as it was.
use mathlib.Core.Path.{◌∙◌}
use native.Mathlib.Omega.{arith}
use Rattle.words.proofs.Regions.{filled_grow}
use Rattle.filter.proofs.Skew.{skew_later}
use borrow.Author.Rules.{rules}
use Rattle.filter.proofs.checked.Checked.mark_skewed.Goals as goal

pub loop-q-preserved : goal.loop-q-preserved
loop-q-preserved c = filled_grow _ _ c.loop-q.invariant (omega arith) (search rules) (c.skew_mark.ensures ∙ skew_later _ _ _ c.loop-q.invariant (search rules))
