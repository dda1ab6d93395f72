-- `decimal_at` answers the word whose digits are the run, where that has none to spare and the end follows.
use Rattle.std.proofs.Common.{◌≡◌, sym, ◌∙◌, ℕ, ◌<◌, Result, Ok, Err, Some, None}
use Rattle.std.specs.Result.{OkIff, result_ok}
use Rattle.digits.specs.Taken.{words}
use native.Mathlib.Omega.{arith}
use Rattle.digits.proofs.Forms.{no_decimal, run_within, spare, none_spare, decimal_word}
use Rattle.digits.proofs.decimal_at.Goals as goal
use Rattle.digits.proofs.decimal_at.Goals.{else-is_long-via-then-is_long+else-text-at-eq48, else-is_long-via-else-is_long}

-- what the conversion to a word says of the number converted, which is the run's
word_told : {E : Type 0} (r : Result ℕ E) (n v value : ℕ) → OkIff r (n < words) n → Some v ≡ result_ok r → n ≡ value → (value < words) × (v ≡ value)
word_told (Ok x) n v value h e is = (omega (arith, h.0, is), cc)
word_told (Err why) n v value h e is = cc

no_word : {E : Type 0} (r : Result ℕ E) (n value : ℕ) → OkIff r (n < words) n → None ≡ result_ok r → n ≡ value → value < words → ⊥
no_word (Ok x) n value h e is w = cc
no_word (Err why) n value h e is w = h (omega (arith, is, w))

pub returns-then-count-eq0 : goal.returns-then-count-eq0
returns-then-count-eq0 c = no_decimal c.args.end c.run_at-value.ensures (λ f w l g. omega (arith, f.0))

pub overflow_add-at : goal.overflow_add-at
overflow_add-at c = omega (arith, run_within c.run_at-value.ensures (omega arith))

pub returns-in_err-get : goal.returns-in_err-get
returns-in_err-get c =
    let short = c.in_err-get.ensures.lookup.3 in
    rw c.from_residual.ensures (no_decimal c.args.end c.run_at-value.ensures (λ f w l g. omega arith))

pub returns-then-branch-byte : goal.returns-then-branch-byte
returns-then-branch-byte c =
    no_decimal c.args.end c.run_at-value.ensures (λ f w l g. c.if-branch-byte.true (c.in_ok-get.ensures.lookup.3.1 0 ∙ rw (← c.byte.ensures) at g))

pub returns-then-text-at-eq48 : goal.returns-then-text-at-eq48
returns-then-text-at-eq48 c = no_decimal c.args.end c.run_at-value.ensures (λ f w l g. spare _ c.run_at-value.ensures c.if-text-at-eq48.true (omega arith) f)

pub returns-in_err-ok : goal.returns-in_err-ok
returns-in_err-ok c =
    rw c.from_residual-in_err-ok.ensures (no_decimal c.args.end c.run_at-value.ensures (λ f w l g. no_word _ _ _ c.try_from.ensures c.in_err-ok.ensures.value (omega arith) w))

pub returns : goal.returns
returns c =
    let r = c.run_at-value.ensures in
    let there = c.in_ok-get.ensures.lookup.3 in
    let f = none_spare _ r (omega arith) (λ m z. elim c.else-is_long.branch [ else-is_long-via-then-is_long+else-text-at-eq48 w ↦ w.if-text-at-eq48.false z | else-is_long-via-else-is_long w ↦ omega arith ]) in
    let w = word_told _ _ _ c.run_at-value.result.value c.try_from.ensures c.in_ok-ok.ensures.value (omega arith) in
    rw w.1 (decimal_word c.args.end r f w.0 there.0 (sym (there.1 0) ∙ c.if-branch-byte.false ∙ c.byte.ensures))
