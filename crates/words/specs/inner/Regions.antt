-- Regions of a lent list: a record of two words stored, which places are outside one, what stays as it was, and what a region holds after a routine.
use Rattle.std.specs.Prelude.{◌≡◌, List, ℕ, ◌+◌, ◌<◌, length, get_or, set}

-- xs with x and y at p and the place after it
abbrev pub two : List ℕ → ℕ → ℕ → ℕ → List ℕ
two xs p x y = set (set xs p x) (p + 1) y

-- place k is none of the m from a on
abbrev pub Outside : ℕ → ℕ → ℕ → Type 0
Outside a m k = (j : ℕ) → j < m → k ≡ a + j → ⊥

-- no place is in both of two regions of m words
abbrev pub Apart : ℕ → ℕ → ℕ → Type 0
Apart a b m = (i j : ℕ) → i < m → j < m → a + i ≡ b + j → ⊥

-- ys is xs but for the m words from a on
pub record Kept (xs ys : List ℕ) (a m : ℕ) : Type 0 where
  pub len : length ys ≡ length xs
  pub rest : (k : ℕ) → Outside a m k → get_or ys k 0 ≡ get_or xs k 0

-- the first n of the m words from a on are f's, and all outside the m is as it was
pub record Filled (xs ys : List ℕ) (a m n : ℕ) (f : ℕ → ℕ) : Type 0 where
  pub kept : Kept xs ys a m
  pub holds : (k : ℕ) → k < n → get_or ys (a + k) 0 ≡ f k
