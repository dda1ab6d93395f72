-- `hex_at` answers the word whose digits are the run, where that has eight digits and the end follows.
use mathlib.Core.Path.{sym, ◌∙◌}
use native.Mathlib.Omega.{arith}
use Rattle.digits.proofs.Forms.{no_hex, run_within, hex_word}
use Rattle.digits.proofs.hex_at.Goals as goal

pub returns-then-run-lt8 : goal.returns-then-run-lt8
returns-then-run-lt8 c = no_hex c.args.end c.run_at-run.ensures (λ q l g. omega arith)

pub overflow_add-at : goal.overflow_add-at
overflow_add-at c = omega (arith, run_within c.run_at-run.ensures (omega arith))

pub returns-in_err-get : goal.returns-in_err-get
returns-in_err-get c =
    let short = c.in_err-get.ensures.lookup.3 in
    rw c.from_residual.ensures (no_hex c.args.end c.run_at-run.ensures (λ q l g. omega arith))

pub returns-then-branch-byte : goal.returns-then-branch-byte
returns-then-branch-byte c =
    no_hex c.args.end c.run_at-run.ensures
    (λ q l g. c.if-branch-byte.true (c.in_ok-get.ensures.lookup.3.1 0 ∙ rw (← q, ← c.byte.ensures) at g))

pub returns : goal.returns
returns c =
    let r = c.run_at-run.ensures in
    let there = c.in_ok-get.ensures.lookup.3 in
    hex_word c.args.end r (omega (arith, r.few)) there.0 (sym (there.1 0) ∙ c.if-branch-byte.false ∙ c.byte.ensures)
