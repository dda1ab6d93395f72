-- Triangles as a kind of cell: three corners, steps across a common side whichever way each runs it, and the rule of the two third corners.
use Rattle.std.specs.Prelude.{◌≡◌, ◌≢◌, List, [], ◌∷◌, ℕ, ◌+◌, ◌%◌, ◌<◌, pos, get_or}
use Rattle.cells.specs.Cells.{Cell, Side, cell}
use Rattle.cells.specs.Kind.{Pair, ◌⊕◌, origin, Kind}
use Rattle.cells.specs.Listed.{Grouping}

-- t has a side that runs from x to y, and z is its third corner
pub record Third (t : Cell) (x y z : ℕ) : Type 0 where
  pub side : Side 3 t x y
  pub third : t ((side.at + 2) % 3) ≡ z

-- p and q have the side x y in common, whichever way each runs it; their third corners are z and w
pub data Across (p q : Cell) (x y z w : ℕ) : Type 0 where
  alike : Third p x y z → Third q x y w → Across p q x y z w
  opposite : Third p x y z → Third q y x w → Across p q x y z w

-- p and q have a side in common
pub record Shares (p q : Cell) : Type 0 where
  pub x : ℕ
  pub y : ℕ
  pub z : ℕ
  pub w : ℕ
  pub across : Across p q x y z w

-- across each common side the two third corners' labels add up to the sum of the side's two
abbrev pub Sums : (ℕ → Pair) → Cell → Cell → Type 0
Sums L p q = (x y z w : ℕ) → Across p q x y z w → L z ⊕ L w ≡ L x ⊕ L y

-- t has the side x y, whichever way it runs it
pub data Edge (t : Cell) (x y : ℕ) : Type 0 where
  along : Side 3 t x y → Edge t x y
  against : Side 3 t y x → Edge t x y

-- three triangles on one side
pub record ThreeOn (p q r : Cell) : Type 0 where
  pub x : ℕ
  pub y : ℕ
  pub first : Edge p x y
  pub second : Edge q x y
  pub third : Edge r x y

-- the first triangle reads (0,0), (1,0), (0,1)
abbrev pub triangles : Kind
triangles =
    record {
      size = 3;
      first = (pos 0, pos 0) ∷ (pos 1, pos 0) ∷ (pos 0, pos 1) ∷ [];
      Step = Shares;
      Holds = Sums;
      Crowd = ThreeOn;
    }

-- document 02's own words, over the group of lowest cell s: it reads the first pairs, and this holds between every two of the group's cells
-- with a common side; proofs/Trilaws shows that it is to fit
pub record SumsThroughout (cells : List ℕ) (g : Grouping) (s : ℕ) (L : ℕ → Pair) : Type 0 where
  pub reads : (i : ℕ) → i < 3 → L (cell 3 cells s i) ≡ get_or triangles.first i origin
  pub sums : (p q : ℕ) → p < g.n → q < g.n → p ≢ q → g.number p ≡ s → g.number q ≡ s → Sums L (cell 3 cells p) (cell 3 cells q)
