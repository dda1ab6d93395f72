-- What the rows behind the second ask, the first three have shown.
use mathlib.Core.Path.{sym, ◌∙◌}
use native.Mathlib.Omega.{arith}
use Rattle.mesh.proofs.Open.{limit_open}
use Rattle.walk.proofs.gate.entry.Goals as goal

pub corners_row-requires : goal.corners_row-requires
corners_row-requires c = omega (arith, limit_open _ _ (sym c.limit_row-2.ensures ∙ c.in_ok-limit_row-2.was))

pub twice_row-requires : goal.twice_row-requires
twice_row-requires c = (omega arith, omega (arith, limit_open _ _ (sym c.limit_row-2.ensures ∙ c.in_ok-limit_row-2.was)))

pub quad_words-requires : goal.quad_words-requires
quad_words-requires c = (limit_open _ _ (sym c.limit_row-2.ensures ∙ c.in_ok-limit_row-2.was), limit_open _ _ (sym c.limit_row.ensures ∙ c.in_ok-limit_row.was))

pub work_row-requires : goal.work_row-requires
work_row-requires c = omega (arith, c.quad_words.ensures, limit_open _ _ (sym c.limit_row-2.ensures ∙ c.in_ok-limit_row-2.was), limit_open _ _ (sym c.limit_row.ensures ∙ c.in_ok-limit_row.was))
