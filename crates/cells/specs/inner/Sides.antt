-- The side table: a record of two words, a key and a number, for each side of each cell, what each routine leaves of it, and the links
-- that its neighbours of one key make.
use Rattle.std.specs.Prelude.{◌≡◌, cond, List, ℕ, ◌+◌, ◌*◌, ◌-◌, ◌/◌, ◌≤◌, ◌<◌, min, max, length, get_or, take, drop}
use Rattle.words.specs.inner.Regions.{Kept}
use Rattle.words.specs.inner.Order.{word_of}
use Rattle.cells.specs.Cells.{cell, Neighbours}
use Rattle.cells.specs.Groups.{Groups}
use Rattle.cells.specs.inner.Forest.{Classes}
use Rattle.cells.specs.inner.Table.{unmarked, groups_at, table_at, groups_end, most_cells}

-- the key and the number of record k
abbrev pub key_at : ℕ → List ℕ → ℕ → ℕ
key_at n ys k = word_of ys (table_at n) 0 k

abbrev pub number_at : ℕ → List ℕ → ℕ → ℕ
number_at n ys k = word_of ys (table_at n) 1 k

-- two corners as one number: the lower, times 4,096, and the higher
abbrev pub ends_key : ℕ → ℕ → ℕ
ends_key x y = min x y * 4096 + max x y

module _ (size : ℕ) (cells : List ℕ) where
  abbrev pub side_key : ℕ → ℕ → ℕ
  side_key q i = ends_key (cell size cells q i) (cell size cells q (i + 1))

  -- the key of side i of cell q in the table, by the marks of xs: 0, which no side has, where the cell takes no part
  abbrev pub table_key : List ℕ → ℕ → ℕ → ℕ
  table_key xs q i = cond (unmarked xs q) (side_key q i) 0

  module _ (n : ℕ) (xs ys : List ℕ) where
    -- record k is that of side i of cell q
    pub record Stands (k q i : ℕ) : Type 0 where
      pub place : k < size * n
      pub has : q < n
      pub small : i < size
      pub key : key_at n ys k ≡ table_key xs q i
      pub number : number_at n ys k ≡ 4 * q + i

    -- the first t records are those of the sides by cells; all but the table is as it was
    pub record Tabled (t : ℕ) : Type 0 where
      pub kept : Kept xs ys (table_at n) (2 * (size * n))
      pub stands : (q i : ℕ) → i < size → q < n → size * q + i < t → Stands (size * q + i) q i

    -- each record is of a side, each side has a record, and their keys ascend
    pub record InTable : Type 0 where
      pub cell_of : ℕ → ℕ
      pub side_of : ℕ → ℕ
      pub place_of : ℕ → ℕ → ℕ
      pub is : (k : ℕ) → k < size * n → Stands k (cell_of k) (side_of k)
      pub at : (q i : ℕ) → q < n → i < size → Stands (place_of q i) q i
      pub ascends : (j k : ℕ) → j ≤ k → k < size * n → key_at n ys j ≤ key_at n ys k

    -- the table is in order; all before it, and all past the room for its ordering, is as it was
    pub record Tabulated : Type 0 where
      pub kept : Kept xs ys (table_at n) (4 * (size * n))
      pub table : InTable

-- records i and i + 1, for some i below k, have one key, and not 0; they are of cells x and y
pub record Adjacent (n : ℕ) (ys : List ℕ) (k x y : ℕ) : Type 0 where
  pub i : ℕ
  pub small : i < k
  pub proper : key_at n ys i ≡ 0 → ⊥
  pub same : key_at n ys i ≡ key_at n ys (i + 1)
  pub left : x ≡ number_at n ys i / 4
  pub right : y ≡ number_at n ys (i + 1) / 4

-- each of the first m records is of a cell below n
pub record Ready (n m : ℕ) (ys : List ℕ) : Type 0 where
  pub few : n ≤ most_cells
  pub room : table_at n + 2 * m ≤ length ys
  pub within : (k : ℕ) → k < m → number_at n ys k / 4 < n

-- the part of the list that has the groups
abbrev pub groups_of : ℕ → List ℕ → List ℕ
groups_of n ys = take (2 * n - n) (drop n ys)

-- the groups' part has the classes of the first k neighbours of the table; all else is as it was
pub record United (n k : ℕ) (xs ys : List ℕ) : Type 0 where
  pub kept : Kept xs ys (groups_at n) n
  pub classes : Classes (Adjacent n xs k) n (groups_of n ys)

-- and each class is named by its lowest number
pub record Named (n k : ℕ) (xs ys : List ℕ) : Type 0 where
  pub kept : Kept xs ys (groups_at n) n
  pub groups : Groups (Adjacent n xs k) n (λ (q : ℕ). get_or ys (groups_at n + q) 0)

-- the groups of the unmarked cells and the ordered table stand in their places; the marks, and all past the room for the table's
-- ordering, are as they were
pub record Grouped (size : ℕ) (cells : List ℕ) (n : ℕ) (xs ys : List ℕ) : Type 0 where
  pub len : length ys ≡ length xs
  pub marks : (k : ℕ) → k < n → get_or ys k 0 ≡ get_or xs k 0
  pub groups : Groups (Neighbours size cells (unmarked xs)) n (λ (q : ℕ). get_or ys (groups_at n + q) 0)
  pub table : InTable size cells n xs ys
  pub rest : (k : ℕ) → groups_end size n ≤ k → get_or ys k 0 ≡ get_or xs k 0
