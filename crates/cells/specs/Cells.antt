-- Cells of three or four corners in a flat list, their sides, and when two are neighbours. The size is the number of corners of a cell:
-- all here is said once for quads and for triangles.
use Rattle.std.specs.Prelude.{◌≡◌, Bool, true, List, ℕ, ◌+◌, ◌*◌, ◌%◌, ◌≤◌, ◌<◌, length, get_or}

-- a cell, by its corners in order
abbrev pub Cell : Type 0
Cell = ℕ → ℕ

-- a cell of the size has a side that runs from x to y: from a corner to the next, counted round
pub record Side (size : ℕ) (c : Cell) (x y : ℕ) : Type 0 where
  pub at : ℕ
  pub small : at < size
  pub starts : c at ≡ x
  pub ends : c ((at + 1) % size) ≡ y

-- a side of p and a side of q join the same two corners, whichever way each runs
pub data Touch (size : ℕ) (p q : Cell) : Type 0 where
  alike : {x y : ℕ} → Side size p x y → Side size q x y → Touch size p q
  opposite : {x y : ℕ} → Side size p x y → Side size q y x → Touch size p q

module _ (size : ℕ) (cells : List ℕ) where
  -- cell q of the list, its corners counted round
  abbrev pub cell : ℕ → Cell
  cell q i = get_or cells (size * q + i % size) 0

  -- the list has a cell q
  abbrev pub Has : ℕ → Type 0
  Has q = size * q + size ≤ length cells

  -- p and q are among those that take part, and touch
  pub record Neighbours (among : ℕ → Bool) (p q : ℕ) : Type 0 where
    pub from : Has p
    pub to : Has q
    pub from_among : among p ≡ true
    pub to_among : among q ≡ true
    pub touch : Touch size (cell p) (cell q)

-- where every cell takes part
abbrev pub everyone : ℕ → Bool
everyone q = true
