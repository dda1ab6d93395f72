-- Labelling over a kind of cell: chains of steps, assignments of pairs of whole numbers that fit, lone corners. What depends on the
-- number of corners, on how a cell is laid beside another, and on what may not stand in one group, is the kind's.
use Rattle.std.specs.Prelude.{◌≡◌, ◌≢◌, List, ℕ, ◌<◌, ℤ, pos, ◌+ℤ◌, ◌-ℤ◌, get_or}
use Rattle.cells.specs.Cells.{Cell, cell, Has}

-- a pair of whole numbers
abbrev pub Pair : Type 0
Pair = ℤ × ℤ

infixl 6 ◌⊕◌
abbrev pub ◌⊕◌ : Pair → Pair → Pair
p ⊕ q = (p.0 +ℤ q.0, p.1 +ℤ q.1)

infixl 6 ◌⊖◌
abbrev pub ◌⊖◌ : Pair → Pair → Pair
p ⊖ q = (p.0 -ℤ q.0, p.1 -ℤ q.1)

abbrev pub origin : Pair
origin = (pos 0, pos 0)

pub record Kind : Type 1 where
  -- how many corners a cell has
  pub size : ℕ
  -- the pairs that the seed reads, corner by corner
  pub first : List Pair
  -- the first cell reaches the second in one step
  pub Step : Cell → Cell → Type 0
  -- what L must meet between a cell and the next
  pub Holds : (ℕ → Pair) → Cell → Cell → Type 0
  -- three cells that may not stand in one group
  pub Crowd : Cell → Cell → Cell → Type 0

-- steps lead from s to q
pub data Chain (E : ℕ → ℕ → Type 0) (s : ℕ) : ℕ → Type 0 where
  here : Chain E s s
  on : {p q : ℕ} → Chain E s p → E p q → Chain E s q

module _ (k : Kind) (cells : List ℕ) where
  -- one cell reaches another in one step
  pub record Next (p q : ℕ) : Type 0 where
    pub from : Has k.size cells p
    pub to : Has k.size cells q
    pub two : p ≢ q
    pub step : k.Step (cell k.size cells p) (cell k.size cells q)

  -- a chain of steps leads from the seed to q
  abbrev pub Reached : ℕ → ℕ → Type 0
  Reached seed q = Chain Next seed q

  -- c is a corner of a reached cell
  pub record ReachedCorner (seed c : ℕ) : Type 0 where
    pub of : ℕ
    pub reached : Reached seed of
    pub place : ℕ
    pub small : place < k.size
    pub is : cell k.size cells of place ≡ c

  -- L fits from the seed: the seed reads the first pairs, and what must hold does at every step from a reached cell
  pub record Fits (seed : ℕ) (L : ℕ → Pair) : Type 0 where
    pub reads : (i : ℕ) → i < k.size → L (cell k.size cells seed i) ≡ get_or k.first i origin
    pub holds : (p q : ℕ) → Reached seed p → Next p q → k.Holds L (cell k.size cells p) (cell k.size cells q)

  -- no other reached corner has c's pair
  pub record Lone (seed : ℕ) (L : ℕ → Pair) (c : ℕ) : Type 0 where
    pub reached : ReachedCorner seed c
    pub alone : (d : ℕ) → ReachedCorner seed d → L d ≡ L c → d ≡ c

  -- two reached corners have the pair p
  pub record Claimed (seed : ℕ) (L : ℕ → Pair) (p : Pair) : Type 0 where
    pub c : ℕ
    pub d : ℕ
    pub two : c ≢ d
    pub first : ReachedCorner seed c
    pub second : ReachedCorner seed d
    pub at_c : L c ≡ p
    pub at_d : L d ≡ p
