-- Groups: the classes of the closure of a relation on numbers, each named by its lowest number.
use Rattle.std.specs.Prelude.{◌≡◌, ℕ, ◌≤◌, ◌<◌}

-- steps of E, each taken either way, lead from x to y
pub data Linked (E : ℕ → ℕ → Type 0) : ℕ → ℕ → Type 0 where
  same : {x : ℕ} → Linked E x x
  on : {x y z : ℕ} → Linked E x y → E y z → Linked E x z
  back : {x y z : ℕ} → Linked E x y → E z y → Linked E x z

-- each of the numbers below n is given the lowest number of its class: one that it is linked to, the same for all of a class, and no
-- higher than any of them
pub record Groups (E : ℕ → ℕ → Type 0) (n : ℕ) (g : ℕ → ℕ) : Type 0 where
  pub linked : (x : ℕ) → x < n → Linked E x (g x)
  pub together : (x y : ℕ) → E x y → g x ≡ g y
  pub lowest : (x : ℕ) → x < n → g x ≤ x
