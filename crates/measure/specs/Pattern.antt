-- A float's pattern as a number of units of 2^-149.
use Rattle.std.specs.Prelude.{ℕ, ◌+◌, ◌-◌, ◌*◌, ◌/◌, ◌%◌, ◌^◌, cond, ltb}

-- the significand and exponent of the pattern b of a nonnegative float: it is sig_of b · 2^(exp_of b) units
unfoldable pub sig_of : ℕ → ℕ
sig_of b = cond (ltb b 8388608) b (b % 8388608 + 8388608)

unfoldable pub exp_of : ℕ → ℕ
exp_of b = cond (ltb b 8388608) 0 (b / 8388608 - 1)

unfoldable pub units : ℕ → ℕ
units b = sig_of b * 2 ^ exp_of b
