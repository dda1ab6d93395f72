-- The first offender, or none: the least place below n that offends, or n where none does. A search for a place answers it.
use Rattle.std.specs.Prelude.{◌≡◌, Bool, true, false, cond, ℕ, zero, suc, ◌<◌, ◌≤◌}

pub record First (offends : ℕ → Bool) (n r : ℕ) : Type 0 where
  pub reach : r ≤ n
  pub clear : (k : ℕ) → k < r → offends k ≡ false
  pub hit : r < n → offends r ≡ true

-- the same as a function, for tables that compute
unfoldable pub first_of : (ℕ → Bool) → ℕ → ℕ
first_of offends zero = zero
first_of offends (suc n) = cond (offends zero) zero (suc (first_of (λ (k : ℕ). offends (suc k)) n))
