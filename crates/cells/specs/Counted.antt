-- How many there are of a kind, as a definition: so many picked ones, no two of them the same, and every one is picked.
use Rattle.std.specs.Prelude.{◌≡◌, ℕ, ◌<◌}

module _ {A : Type 0} (P : A → Type 0) where
  -- x is one of the picked
  pub record Among (pick : ℕ → A) (count : ℕ) (x : A) : Type 0 where
    pub at : ℕ
    pub small : at < count
    pub is : pick at ≡ x

  -- exactly so many are as P says
  pub record Exactly (count : ℕ) : Type 0 where
    pub pick : ℕ → A
    pub each : (k : ℕ) → k < count → P (pick k)
    pub apart : (j k : ℕ) → j < count → k < count → pick j ≡ pick k → j ≡ k
    pub every : (x : A) → P x → Among pick count x
