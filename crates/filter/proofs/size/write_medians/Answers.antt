-- `write_medians` goes from run to run: the medians of all records before s are written, and a run begins at s.
use mathlib.Core.Path.{refl}
use Rattle.filter.proofs.Runs.{runs_more}
use Rattle.filter.proofs.size.write_medians.Goals as goal

pub loop-s-preserved : goal.loop-s-preserved
loop-s-preserved c =
    let s = c.requires in
    runs_more c.middle_word-median.new.run _ _ s.rising c.loop-s.invariant s.n_in_bounds c.run_end-e.ensures refl c.middle_word-median.ensures.0.len c.middle_word-median.ensures.1
