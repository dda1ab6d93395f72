-- The rows of a run as words at the front of the workspace: a row's word tells the least and the greatest x of its records. And the holes
-- between a record and the next.
use Rattle.std.specs.Prelude.{◌≡◌, Bool, cond, ◌&&◌, List, ℕ, suc, ◌+◌, ◌*◌, ◌/◌, ◌%◌, ◌≤◌, ◌<◌, eqb, ltb, get_or}
use Rattle.words.specs.inner.Regions.{Kept}
use Rattle.cells.specs.Holes.{height, row_around}
use Rattle.cells.specs.inner.Gaps.{gap}
use Rattle.fates.specs.declared.Run.{Run}
use Rattle.walk.specs.inner.Emitted.{x_in, y_in, least_x, least_y, entry_in, entries_of}

-- ---- a row's word

module _ (x y : ℕ → ℕ) where
  -- of the first m records those of row r have no lesser x than record `low` and no greater than record `high`, and the word is both
  pub record Ends (r m word : ℕ) : Type 0 where
    pub low : ℕ
    pub high : ℕ
    pub low_small : low < m
    pub high_small : high < m
    pub low_row : y low ≡ r
    pub high_row : y high ≡ r
    pub is : word ≡ x low * 32768 + x high
    pub least : (j : ℕ) → j < m → y j ≡ r → x low ≤ x j
    pub greatest : (j : ℕ) → j < m → y j ≡ r → x j ≤ x high

  -- what a word tells of row r: 0 that it has none of the first m records, or its ends
  pub data Row (r m word : ℕ) : Type 0 where
    none : word ≡ 0 → ((j : ℕ) → j < m → y j ≡ r → ⊥) → Row r m word
    some : Ends r m word → Row r m word

-- the front of ys has a word for each row of the run in xs, which tells of the run's first m records, and all else is as it was
pub record Noted (xs ys : List ℕ) (run : Run) (m : ℕ) : Type 0 where
  pub kept : Kept xs ys 0 (height (entries_of xs run))
  pub tells : (v : ℕ) → v < height (entries_of xs run) → Row (x_in xs run.at) (y_in xs run.at) (least_y xs run + v) m (get_or ys v 0)

-- the word where a record of x is the greatest of its row: the least stays, or is x in a row that has had none
abbrev pub noted_of : ℕ → ℕ → ℕ
noted_of word x = cond (eqb word 0) x (word / 32768) * 32768 + x

-- a row's word tells of records on both sides of x
abbrev pub tells_around : ℕ → ℕ → Bool
tells_around word x = ltb (word / 32768) x && ltb x (word % 32768)

-- ---- a gap

-- the holes between record k of the run and the next
abbrev pub gap_after : List ℕ → Run → ℕ → ℕ
gap_after w run k = gap (row_around (entries_of w run)) (entry_in w run.at (least_x w run) (least_y w run) k) (entry_in w run.at (least_x w run) (least_y w run) (suc k))
