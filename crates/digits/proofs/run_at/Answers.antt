-- `run_at` finds the run: what it passes are digits, and it stops where no digit stands, or at as many as asked.
use native.Mathlib.Omega.{arith}
use Rattle.digits.proofs.Numerals.{spelt_none, spelt_nowhere, spelt_small, spelt_more}
use Rattle.digits.proofs.run_at.Goals as goal

pub returns-then-text-at : goal.returns-then-text-at
returns-then-text-at c = let a = c.args in spelt_nowhere a.text.now a.at a.base a.most (omega arith)

pub loop-count-init : goal.loop-count-init
loop-count-init c = let a = c.args in spelt_none a.text.now a.at a.base a.most (omega arith)

pub overflow_mul-value : goal.overflow_mul-value
overflow_mul-value c =
    let small = spelt_small c.loop-count.invariant c.in-Some.digit (omega arith) c.in-Some.ensures.1 c.requires.2 in
    rw c.from.ensures (omega arith)

pub overflow_add-value : goal.overflow_add-value
overflow_add-value c =
    let small = spelt_small c.loop-count.invariant c.in-Some.digit (omega arith) c.in-Some.ensures.1 c.requires.2 in
    rw (c.from.ensures, c.from-in-loop-count.ensures) (omega arith)

pub loop-count-preserved : goal.loop-count-preserved
loop-count-preserved c =
    let digit = c.in-Some.ensures in
    rw (c.from.ensures, c.from-in-loop-count.ensures) (spelt_more c.loop-count.invariant c.in-Some.digit (omega arith) digit.1 digit.0 digit.2)
