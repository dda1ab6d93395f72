-- Holes: the places of a component's rectangle, from (0,0) to greatest u and v, that hold no listed corner and have some on both sides of
-- them, in their row and in their column. A predicate on places says which count.
use Rattle.std.specs.Prelude.{Bool, not, ◌&&◌, List, [], ◌∷◌, ℕ, suc, max, eqb, ltb}
use Rattle.cells.specs.Sums.{total, how_many}
use Rattle.cells.specs.Listed.{some_one, Entry}

-- how many places of the rectangle are as P says
unfoldable pub places : (ℕ → ℕ → Bool) → ℕ → ℕ → ℕ
places P width height = total (λ (u : ℕ). how_many (P u) height) width

-- from 0 to the greatest u, and to the greatest v; of no entries, nothing
unfoldable pub width : List Entry → ℕ
width [] = 0
width (e ∷ es) = max (suc e.u) (width es)

unfoldable pub height : List Entry → ℕ
height [] = 0
height (e ∷ es) = max (suc e.v) (height es)

-- an entry at place (u, v); the place holds a listed corner
abbrev pub here : ℕ → ℕ → Entry → Bool
here u v e = eqb e.u u && eqb e.v v

unfoldable pub held : List Entry → ℕ → ℕ → Bool
held es u v = some_one (here u v) es

-- an entry of its row, the places of equal v, at a lower u, and at a higher
abbrev pub lower_u : ℕ → ℕ → Entry → Bool
lower_u u v e = eqb e.v v && ltb e.u u

abbrev pub higher_u : ℕ → ℕ → Entry → Bool
higher_u u v e = eqb e.v v && ltb u e.u

-- an entry of its column, the places of equal u, at a lower v, and at a higher
abbrev pub lower_v : ℕ → ℕ → Entry → Bool
lower_v u v e = eqb e.u u && ltb e.v v

abbrev pub higher_v : ℕ → ℕ → Entry → Bool
higher_v u v e = eqb e.u u && ltb v e.v

-- its row has listed corners on both sides of it; its column has some above and below it
abbrev pub row_around : List Entry → ℕ → ℕ → Bool
row_around es u v = some_one (lower_u u v) es && some_one (higher_u u v) es

abbrev pub column_around : List Entry → ℕ → ℕ → Bool
column_around es u v = some_one (lower_v u v) es && some_one (higher_v u v) es

-- it counts: it holds no listed corner, and its row and its column have some around it
abbrev pub hole : List Entry → ℕ → ℕ → Bool
hole es u v = not (held es u v) && (row_around es u v && column_around es u v)

unfoldable pub holes : List Entry → ℕ
holes es = places (hole es) (width es) (height es)
