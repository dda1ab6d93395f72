-- What stands in the workspace while the walks' words become records: corner by corner, quad by quad and seed by seed.
use Rattle.std.specs.Prelude.{◌≡◌, ◌≢◌, List, ℕ, ◌+◌, ◌*◌, ◌≤◌, ◌<◌, length, get_or}
use Rattle.cells.specs.Cells.{cell, everyone, Neighbours}
use Rattle.cells.specs.Groups.{Groups}
use Rattle.cells.specs.Listed.{Grouping, grouping_by}
use Rattle.laying.specs.inner.Layout.{mark, first_word, second_word, Table, Blank, Unscanned}
use Rattle.laying.specs.inner.Settling.{Bears}
use Rattle.fates.specs.declared.LabelParams.{LabelParams}
use Rattle.fates.specs.inner.Fates.{groups_at, records_at, key_in, corner_in, seed_in, Gathered}

-- a corner has two words that are labels', or none
pub record Worded (span : ℕ) (w : List ℕ) : Type 0 where
  pub first : (c : ℕ) → c < span → first_word span w c < 32768
  pub second : (c : ℕ) → c < span → second_word span w c < 32768
  pub none : (c : ℕ) → c < span → first_word span w c ≡ 0 → second_word span w c ≡ 0

-- record k of those from a on in ys is the seed's, of a corner that had words in xs and has none in ys
pub record Copied (span seed : ℕ) (xs ys : List ℕ) (a k : ℕ) : Type 0 where
  pub small : corner_in ys a k < span
  pub had : first_word span xs (corner_in ys a k) ≢ 0
  pub gone : first_word span ys (corner_in ys a k) ≡ 0
  pub key : key_in ys a k ≡ first_word span xs (corner_in ys a k) * 32768 + second_word span xs (corner_in ys a k)
  pub of : seed_in ys a k ≡ seed

-- one of the records m up to r from a on is of corner c
pub record Recorded (w : List ℕ) (a m r c : ℕ) : Type 0 where
  pub at : ℕ
  pub from : m ≤ at
  pub small : at < r
  pub is : corner_in w a at ≡ c

-- some words of xs are 0 in ys, a corner's both or none; records m up to r are those of the corners that have lost theirs, one for each; all
-- else is as it was
pub record Drawn (span n seed : ℕ) (xs ys : List ℕ) (m r : ℕ) : Type 0 where
  pub len : length ys ≡ length xs
  pub more : m ≤ r
  pub middle : (k : ℕ) → n ≤ k → k < 2 * span → get_or ys k 0 ≡ get_or xs k 0
  pub zero : (k : ℕ) → k < 4 * span → get_or xs k 0 ≡ 0 → get_or ys k 0 ≡ 0
  pub kept : (c : ℕ) → c < span → first_word span ys c ≢ 0 → Bears span ys c (first_word span xs c) (second_word span xs c)
  pub both : (c : ℕ) → c < span → first_word span xs c ≢ 0 → first_word span ys c ≡ 0 → second_word span ys c ≡ 0
  pub before : (k : ℕ) → 4 * span ≤ k → k < records_at span n + 2 * m → get_or ys k 0 ≡ get_or xs k 0
  pub after : (k : ℕ) → records_at span n + 2 * r ≤ k → get_or ys k 0 ≡ get_or xs k 0
  pub copied : (k : ℕ) → m ≤ k → k < r → Copied span seed xs ys (records_at span n) k
  pub every : (c : ℕ) → c < span → first_word span xs c ≢ 0 → first_word span ys c ≡ 0 → Recorded ys (records_at span n) m r c
  pub once : (j k : ℕ) → m ≤ j → j < r → m ≤ k → k < r → corner_in ys (records_at span n) j ≡ corner_in ys (records_at span n) k → j ≡ k

-- so of quad q: it has no mark, and its corners have no words
pub record Emptied (span : ℕ) (cells : List ℕ) (n seed : ℕ) (xs ys : List ℕ) (m r q : ℕ) : Type 0 where
  pub drawn : Drawn span n seed xs ys m r
  pub few : r ≤ m + 4
  pub mark : mark ys q ≡ 0
  pub words : (k : ℕ) → first_word span ys (cell 4 cells q k) ≡ 0

-- so of all t quads of the queue
pub record Taken (span n seed : ℕ) (xs ys : List ℕ) (m r t : ℕ) : Type 0 where
  pub drawn : Drawn span n seed xs ys m r
  pub few : r ≤ m + 4 * t
  pub blank : Blank span n ys

-- ---- seed by seed

abbrev pub numbers_in : ℕ → ℕ → List ℕ → ℕ → ℕ
numbers_in span n w q = get_or w (groups_at span n + q) 0

-- what the walks of the seeds from s on ask, and what those of the seeds below s have left
pub record Underway (span : ℕ) (cells : List ℕ) (g : Grouping) (s m : ℕ) (w : List ℕ) : Type 0 where
  pub room : 4 * span + 27 * g.n ≤ length w
  pub table : Table span cells g.n w
  pub blank : Blank span g.n w
  pub groups : Groups (Neighbours 4 cells everyone) g.n g.number
  pub numbers : (q : ℕ) → q < g.n → numbers_in span g.n w q ≡ g.number q
  pub unscanned : (q : ℕ) → s ≤ q → q < g.n → g.number q ≡ q → Unscanned span cells g.n q w
  pub gathered : Gathered cells g span s m w

-- the same of some groups
pub record Begun (span : ℕ) (cells : List ℕ) (n s m : ℕ) (w : List ℕ) : Type 0 where
  pub number : ℕ → ℕ
  pub params : LabelParams
  pub underway : Underway span cells (grouping_by n number params.quads params.corners) s m w

-- one seed more is done, whatever the least quads and corners of a component
abbrev pub Advances : ℕ → List ℕ → (n s m r : ℕ) → List ℕ → List ℕ → Type 0
Advances span cells n s m r xs ys =
    (number : ℕ → ℕ) (params : LabelParams) → Underway span cells (grouping_by n number params.quads params.corners) s m xs → Underway span cells (grouping_by n number params.quads params.corners) (s + 1) r ys

-- every walk was taken, and the groups are as they were
pub record Gathers (span : ℕ) (cells : List ℕ) (n m : ℕ) (xs ys : List ℕ) : Type 0 where
  pub len : length ys ≡ length xs
  pub numbers : (q : ℕ) → q < n → numbers_in span n ys q ≡ numbers_in span n xs q
  pub gathered : (params : LabelParams) → Gathered cells (grouping_by n (numbers_in span n xs) params.quads params.corners) span n m ys
