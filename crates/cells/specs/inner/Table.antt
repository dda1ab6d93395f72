-- The workspace of the groups of n cells: marks, then groups, then the ordered side table and room for its ordering.
use Rattle.std.specs.Prelude.{◌≡◌, Bool, List, ℕ, ◌+◌, ◌*◌, ◌≤◌, ◌<◌, eqb, length, get_or}
use Rattle.cells.specs.Cells.{cell}

-- a cell takes part where its mark is 0
abbrev pub unmarked : List ℕ → ℕ → Bool
unmarked work q = eqb (get_or work q 0) 0

-- where the parts stand
abbrev pub groups_at : ℕ → ℕ
groups_at n = n

abbrev pub table_at : ℕ → ℕ
table_at n = 2 * n

abbrev pub spare_at : ℕ → ℕ → ℕ
spare_at size n = 2 * n + 2 * (size * n)

abbrev pub groups_end : ℕ → ℕ → ℕ
groups_end size n = 2 * n + 4 * (size * n)

-- the most cells of a list, of any kind: as many as triangles
abbrev pub most_cells : ℕ
most_cells = 8192

-- every corner is one of 4,096
abbrev pub Corners : List ℕ → Type 0
Corners cells = (k : ℕ) → k < length cells → get_or cells k 0 < 4096

-- what the groups ask of a list of n cells: whole, of corners below 4,096, no side from a corner to itself
pub record Sound (size : ℕ) (cells : List ℕ) (n : ℕ) : Type 0 where
  pub least : 3 ≤ size
  pub most : size ≤ 4
  pub whole : length cells ≡ size * n
  pub few : n ≤ most_cells
  pub corners : Corners cells
  pub proper : (q i : ℕ) → q < n → i < size → cell size cells q i ≡ cell size cells q (i + 1) → ⊥
