-- `mark_off_size`: skipped, or the marks by what was weighed.
use mathlib.Core.Path.{sym, ◌∙◌}
use Rattle.filter.specs.inner.Steps.Sized.{weighed}
use Rattle.filter.proofs.checked.Checked.mark_off_size.Goals as goal

pub returns : goal.returns
returns c = weighed (sym c.is_skipped.ensures ∙ c.if-is_skipped.false) c.write_groups.ensures c.mark_sizes.ensures
