-- What stands in the workspace before the first walk: the quads' groups, the table of their sides with its run starts, and how many quads
-- each group has; marks, words and flags are zero.
use Rattle.std.specs.Prelude.{◌≡◌, List, ℕ, ◌+◌, ◌*◌, ◌-◌, ◌/◌, ◌≤◌, ◌<◌, length, get_or}
use Rattle.words.specs.Sorting.{equal}
use Rattle.cells.specs.Cells.{Neighbours, everyone}
use Rattle.cells.specs.Groups.{Groups}
use Rattle.cells.specs.inner.Sides.{side_key}
use Rattle.laying.specs.inner.Layout.{key_at, number_at, flags_at, Table, Blank}
use Rattle.fates.specs.inner.Fates.{groups_at, fate_of}

-- the sides in order of their keys: every record is of a side, and side e stands at `place_of e`
pub record SideTable (span : ℕ) (cells : List ℕ) (n : ℕ) (w : List ℕ) : Type 0 where
  pub sides : (i : ℕ) → i < 4 * n → number_at span w i < 4 * n
  pub keys : (i : ℕ) → i < 4 * n → key_at span w i ≡ side_key 4 cells (number_at span w i / 4) (number_at span w i)
  pub ascends : (i j : ℕ) → i ≤ j → j < 4 * n → key_at span w i ≤ key_at span w j
  pub place_of : ℕ → ℕ
  pub small : (e : ℕ) → e < 4 * n → place_of e < 4 * n
  pub is : (e : ℕ) → e < 4 * n → number_at span w (place_of e) ≡ e

-- for each number s below how many numbers there are: how many of the first j are s
pub record Counted (numbers : List ℕ) (j : ℕ) (counts : List ℕ) : Type 0 where
  pub len : length counts ≡ length numbers
  pub each : (s : ℕ) → s < length numbers → get_or counts s 0 ≡ equal (λ (q : ℕ). get_or numbers q 0) j s

-- the n words from a on are the numbers of the quads' groups
abbrev pub Numbered : List ℕ → ℕ → List ℕ → ℕ → Type 0
Numbered cells n w a = Groups (Neighbours 4 cells everyone) n (λ (q : ℕ). get_or w (a + q) 0)

-- the groups stand right before the ordered table
pub record Sided (span : ℕ) (cells : List ℕ) (n : ℕ) (xs ys : List ℕ) : Type 0 where
  pub len : length ys ≡ length xs
  pub groups : Numbered cells n ys (4 * span - n)
  pub table : SideTable span cells n ys

-- the first walk may begin: no quad is marked, no corner has words, no run was scanned; and each group's place among the fates has the
-- number of its quads
pub record Ready (span : ℕ) (cells : List ℕ) (n : ℕ) (w : List ℕ) : Type 0 where
  pub blank : Blank span n w
  pub table : Table span cells n w
  pub flags : (k : ℕ) → k < 4 * n → get_or w (flags_at span n + k) 0 ≡ 0
  pub groups : Numbered cells n w (groups_at span n)
  pub sizes : (s : ℕ) → s < n → fate_of span n w s ≡ equal (λ (q : ℕ). get_or w (groups_at span n + q) 0) n s
