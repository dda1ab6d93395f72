-- `entry` counts the words wanted from numbers that the rows before have let through.
use mathlib.Core.Path.{sym, ◌∙◌}
use native.Mathlib.Omega.{arith}
use Rattle.filter.proofs.Sound.{gate_paired}
use Rattle.filter.proofs.gate.entry.Goals as goal

pub quad_words-requires : goal.quad_words-requires
quad_words-requires c = let l = gate_paired _ (sym c.judge.ensures ∙ c.in_ok-judge.was) in (l.few, l.corners)

pub work_row-requires : goal.work_row-requires
work_row-requires c =
    let l = gate_paired _ (sym c.judge.ensures ∙ c.in_ok-judge.was) in
    omega (arith, c.quad_words.ensures, l.few, l.corners)
