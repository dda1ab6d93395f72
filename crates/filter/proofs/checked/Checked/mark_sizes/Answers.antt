-- `mark_sizes` sweeps the marks: what it reads of a quad is as it was.
use mathlib.Core.Path.{◌∙◌}
use native.Mathlib.Omega.{arith}
use Rattle.words.proofs.Regions.{filled_grow}
use Rattle.filter.proofs.Sizes.{size_later}
use borrow.Author.Rules.{rules}
use Rattle.filter.proofs.checked.Checked.mark_sizes.Goals as goal

pub loop-q-preserved : goal.loop-q-preserved
loop-q-preserved c = filled_grow _ _ c.loop-q.invariant (omega arith) (search rules) (c.size_mark.ensures ∙ size_later _ _ _ c.loop-q.invariant (search rules))
