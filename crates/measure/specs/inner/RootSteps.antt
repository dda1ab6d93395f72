-- What the root's integer steps answer: an integer root, the whole number nearest to a root, and the root's pattern.
use Rattle.std.specs.Prelude.{ℕ, ◌+◌, ◌-◌, ◌*◌, ◌≤◌, ◌<◌}
use Rattle.measure.specs.Pattern.{units}

-- r is the integer root of n, for an n of 47 or 48 bits
pub record IntegerRoot (n r : ℕ) : Type 0 where
  pub least : 8388608 ≤ r
  pub most : r < 16777216
  pub under : r * r ≤ n
  pub over : n < (r + 1) * (r + 1)

-- the whole number nearest to the root of n
pub record NearestRoot (n r : ℕ) : Type 0 where
  pub least : 8388608 ≤ r
  pub most : r ≤ 16777216
  pub under : n ≤ r * r + r
  pub over : r * r < n + r

-- r is the pattern of a float between whose lower and upper half-way points the root of v / 4 lies
pub record RootBits (v r : ℕ) : Type 0 where
  pub least : 8388608 ≤ r
  pub most : r < 2130706432
  pub low : (units (r - 1) + units r) * (units (r - 1) + units r) ≤ v
  pub high : v ≤ (units r + units (r + 1)) * (units r + units (r + 1))
