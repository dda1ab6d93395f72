-- Runs of equal keys in the ordered table of the sides, and the place where each begins.
use Rattle.std.specs.Prelude.{◌≡◌, List, ℕ, ◌+◌, ◌*◌, ◌≤◌, ◌<◌, length}
use Rattle.words.specs.inner.Regions.{Kept}
use Rattle.mesh.specs.Lists.{most_corners}
use Rattle.laying.specs.inner.Layout.{key_at, number_at, run_of}

-- a table of n quads' sides in order of keys, where one side has one key
pub record Rising (span n : ℕ) (w : List ℕ) : Type 0 where
  pub room : 4 * span + 26 * n ≤ length w
  pub few : n ≤ span
  pub most : span ≤ most_corners
  pub sides : (i : ℕ) → i < 4 * n → number_at span w i < 4 * n
  pub alike : (i j : ℕ) → i < 4 * n → j < 4 * n → number_at span w i ≡ number_at span w j → key_at span w i ≡ key_at span w j
  pub ascends : (i j : ℕ) → i ≤ j → j < 4 * n → key_at span w i ≤ key_at span w j

-- the run of place i begins at a
pub record Begin (key : ℕ → ℕ) (a i : ℕ) : Type 0 where
  pub le : a ≤ i
  pub run : (j : ℕ) → a ≤ j → j ≤ i → key j ≡ key i
  pub before : (j : ℕ) → j < a → key j ≡ key i → ⊥

-- the sides at the first i places are told where their runs begin, and all but the run starts is as it was
pub record Told (span n : ℕ) (xs ys : List ℕ) (i : ℕ) : Type 0 where
  pub kept : Kept xs ys (4 * span + 8 * n) (4 * n)
  pub begin : (j : ℕ) → j < i → Begin (key_at span xs) (run_of span n ys (number_at span xs j)) j

-- r is place i itself, where its key is not that of f, the place where the last run began, and else f
pub data Started (key : ℕ → ℕ) (f i r : ℕ) : Type 0 where
  new : (key i ≡ key f → ⊥) → r ≡ i → Started key f i r
  old : key i ≡ key f → r ≡ f → Started key f i r
