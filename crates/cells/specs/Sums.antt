-- Sums and counts over the numbers below a bound.
use Rattle.std.specs.Prelude.{Bool, cond, ℕ, zero, suc, ◌+◌}

-- the sum of f over the numbers below n
unfoldable pub total : (ℕ → ℕ) → ℕ → ℕ
total f zero = 0
total f (suc n) = total f n + f n

-- how many of the numbers below n pass the test
abbrev pub how_many : (ℕ → Bool) → ℕ → ℕ
how_many test n = total (λ (k : ℕ). cond (test k) 1 0) n
