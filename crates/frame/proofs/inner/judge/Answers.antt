-- `judge` asks of the rows on values what the rows on lengths have shown.
use mathlib.Core.Path.{sym, ◌∙◌}
use Rattle.classify.proofs.Sound.{lengths_open}
use Rattle.frame.proofs.inner.judge.Goals as goal

pub values_gate-requires : goal.values_gate-requires
values_gate-requires c = let l = lengths_open _ _ _ _ _ _ _ (sym c.lengths_gate.ensures ∙ c.in_ok-lengths_gate.was) in (l.y_is, l.corners, l.edges, l.whole, l.classes_are)
