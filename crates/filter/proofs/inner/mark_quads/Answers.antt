-- `mark_quads`: the routines one after the other leave the marks of the three rules.
use Rattle.filter.proofs.Judging.{judged}
use Rattle.filter.proofs.inner.mark_quads.Goals as goal

pub returns : goal.returns
returns c = judged _ c.requires.0 _ _ _ _ c.mark_crowded.ensures.len c.mark_crowded.ensures.marks c.write_lengths.ensures c.mark_skewed.ensures _ c.mark_off_size.ensures
