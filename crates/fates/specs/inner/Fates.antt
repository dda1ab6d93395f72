-- What stands in the workspace between the routines: after the walks how many quads each of them reached, and a record for each reached
-- corner of each group with a labelling; then these records in order, and the lone ones of them; at last the fate of every quad.
use Rattle.std.specs.Prelude.{◌≡◌, ◌≢◌, List, ℕ, ◌+◌, ◌*◌, ◌/◌, ◌%◌, ◌≤◌, ◌<◌, get_or}
use Rattle.words.specs.inner.Order.{word_of, grouped_of}
use Rattle.words.specs.Sorting.{below}
use Rattle.cells.specs.Kind.{Pair, ReachedCorner, Lone}
use Rattle.cells.specs.Listed.{Grouping, members, Labelling}
use Rattle.cells.specs.Quads.{quads}
use Rattle.mesh.specs.Lists.{most_quads}
use Rattle.laying.specs.inner.Layout.{label, Near}

-- where the groups' numbers, the fates, the records of corners and the walks' words stand; lone records take the place of the side table
abbrev pub groups_at : ℕ → ℕ → ℕ
groups_at span n = 4 * span + 12 * n

abbrev pub fates_at : ℕ → ℕ → ℕ
fates_at span n = 4 * span + 13 * n

abbrev pub records_at : ℕ → ℕ → ℕ
records_at span n = 4 * span + 14 * n

abbrev pub walked_at : ℕ → ℕ → ℕ
walked_at span n = 4 * span + 26 * n

abbrev pub lone_at : ℕ → ℕ
lone_at span = 4 * span

-- the words of quad s: how many quads its group has, and how many the walk from it reached; once it is judged its fate, and how many
-- pairs are claimed by several
abbrev pub fate_of : ℕ → ℕ → List ℕ → ℕ → ℕ
fate_of span n w s = get_or w (fates_at span n + s) 0

abbrev pub walked_of : ℕ → ℕ → List ℕ → ℕ → ℕ
walked_of span n w s = get_or w (walked_at span n + s) 0

-- record k of those from a on: a key, which is the pair of a corner's words, and a number, which is the corner and its group's lowest quad
abbrev pub key_in : List ℕ → ℕ → ℕ → ℕ
key_in w a k = word_of w a 0 k

abbrev pub corner_in : List ℕ → ℕ → ℕ → ℕ
corner_in w a k = word_of w a 1 k / 4096

abbrev pub seed_in : List ℕ → ℕ → ℕ → ℕ
seed_in w a k = word_of w a 1 k % 4096

-- a key is the words of a pair, both of whose numbers are at most as far from 0 as there may be quads
pub record Keyed (p : Pair) (key : ℕ) : Type 0 where
  pub x : ℕ
  pub y : ℕ
  pub x_near : Near most_quads x
  pub y_near : Near most_quads y
  pub is : key ≡ x * 32768 + y
  pub pair : p ≡ (label x, label y)

-- of the m records from a on, those of seed s are one for each corner that P holds of, with its pair under L
pub record Holding (P : ℕ → Type 0) (L : ℕ → Pair) (s : ℕ) (w : List ℕ) (a m : ℕ) : Type 0 where
  pub sound : (k : ℕ) → k < m → seed_in w a k ≡ s → P (corner_in w a k)
  pub keyed : (k : ℕ) → k < m → seed_in w a k ≡ s → Keyed (L (corner_in w a k)) (key_in w a k)
  pub place : (c : ℕ) → P c → ℕ
  pub placed : (c : ℕ) (p : P c) → place c p < m
  pub of : (c : ℕ) (p : P c) → seed_in w a (place c p) ≡ s
  pub is : (c : ℕ) (p : P c) → corner_in w a (place c p) ≡ c
  pub once : (j k : ℕ) → j < m → k < m → seed_in w a j ≡ s → seed_in w a k ≡ s → corner_in w a j ≡ corner_in w a k → j ≡ k

module _ (cells : List ℕ) (g : Grouping) where
  -- a group with a labelling, whose records stand from a on: of all reached corners, or of the lone ones
  pub record Laid (P : (ℕ → Pair) → ℕ → Type 0) (s : ℕ) (w : List ℕ) (a m : ℕ) : Type 0 where
    pub lowest : g.number s ≡ s
    pub L : ℕ → Pair
    pub labelling : Labelling quads cells g s L
    pub holding : Holding (P L) L s w a m

  -- what the walk from quad s has left, by its word: nothing where s is no group's lowest, 0 where there is no labelling, or records
  pub data Walk (P : (ℕ → Pair) → ℕ → Type 0) (s : ℕ) (w : List ℕ) (a m : ℕ) : ℕ → Type 0 where
    within : {v : ℕ} → g.number s ≢ s → Walk P s w a m v
    none : g.number s ≡ s → ((L : ℕ → Pair) → Labelling quads cells g s L → ⊥) → Walk P s w a m 0
    laid : {v : ℕ} → v ≢ 0 → Laid P s w a m → Walk P s w a m v

  abbrev pub ReachedFrom : ℕ → (ℕ → Pair) → ℕ → Type 0
  ReachedFrom s L c = ReachedCorner quads cells s c

  abbrev pub IsLoneFrom : ℕ → (ℕ → Pair) → ℕ → Type 0
  IsLoneFrom s L c = Lone quads cells s L c

  -- record k is of a laid group below s
  pub record Owned (span s a : ℕ) (w : List ℕ) (k : ℕ) : Type 0 where
    pub small : seed_in w a k < s
    pub lowest : g.number (seed_in w a k) ≡ seed_in w a k
    pub walked : walked_of span g.n w (seed_in w a k) ≢ 0

  -- the walks from the quads below s are taken, and every quad still has the number of its group's members; the m records are of laid
  -- groups, and no more than four for each quad of these
  pub record Gathered (span s m : ℕ) (w : List ℕ) : Type 0 where
    pub walks : (q : ℕ) → q < s → Walk (ReachedFrom q) q w (records_at span g.n) m (walked_of span g.n w q)
    pub sizes : (q : ℕ) → q < g.n → fate_of span g.n w q ≡ members quads cells g q
    pub own : (k : ℕ) → k < m → Owned span s (records_at span g.n) w k
    pub few : m ≤ 4 * below g.number g.n s

  -- the records of all reached corners in order, and those of the lone ones, which ascend strictly; every walk's word and every size is
  -- there
  pub record Alone (span all m : ℕ) (w : List ℕ) : Type 0 where
    pub walks : (q : ℕ) → q < g.n → Walk (ReachedFrom q) q w (records_at span g.n) all (walked_of span g.n w q)
    pub lones : (q : ℕ) → q < g.n → Walk (IsLoneFrom q) q w (lone_at span) m (walked_of span g.n w q)
    pub sizes : (q : ℕ) → q < g.n → fate_of span g.n w q ≡ members quads cells g q
    pub own_all : (k : ℕ) → k < all → Owned span g.n (records_at span g.n) w k
    pub own : (k : ℕ) → k < m → Owned span g.n (lone_at span) w k
    pub ascends : (j k : ℕ) → j ≤ k → k < all → grouped_of w (records_at span g.n) j ≤ grouped_of w (records_at span g.n) k
    pub rises : (j k : ℕ) → j < k → k < m → grouped_of w (lone_at span) j < grouped_of w (lone_at span) k
    pub few_all : all ≤ 4 * g.n
    pub few : m ≤ 4 * g.n
