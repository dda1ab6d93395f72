-- The same cells in another order, groups that steps alone hold together, and two listings of the same corners: over any kind of cell.
use Rattle.std.specs.Prelude.{◌≡◌, List, ℕ, ◌<◌, length}
use Rattle.cells.specs.Cells.{cell, Has}
use Rattle.cells.specs.Kind.{Kind, Reached}
use Rattle.cells.specs.Listed.{In, Entry, Some, Grouping}

-- the others are the cells in another order: cell q is their cell `to q`, each of its corners as it stood
pub record Reordered (size : ℕ) (cells others : List ℕ) : Type 0 where
  pub len : length others ≡ length cells
  pub to : ℕ → ℕ
  pub from : ℕ → ℕ
  pub to_has : (q : ℕ) → Has size cells q → Has size others (to q)
  pub from_has : (q : ℕ) → Has size others q → Has size cells (from q)
  pub from_to : (q : ℕ) → Has size cells q → from (to q) ≡ q
  pub to_from : (q : ℕ) → Has size others q → to (from q) ≡ q
  pub same : (q : ℕ) → Has size cells q → (i : ℕ) → cell size others (to q) i ≡ cell size cells q i

-- any two cells of the group of lowest cell s are joined by steps: of quads, through sides run in opposite senses
pub record Joined (k : Kind) (cells : List ℕ) (g : Grouping) (s : ℕ) : Type 0 where
  pub joined : (p q : ℕ) → p < g.n → q < g.n → g.number p ≡ s → g.number q ≡ s → Reached k cells p q

-- the two list the same corners
pub record SameCorners (es fs : List Entry) : Type 0 where
  pub there : (e : Entry) → In e es → Some fs (λ f. f.corner ≡ e.corner)
  pub back : (f : Entry) → In f fs → Some es (λ e. e.corner ≡ f.corner)
