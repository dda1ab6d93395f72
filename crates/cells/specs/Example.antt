-- Worked examples of labelling: quads with the numbers of their groups, and the components that they have, each with its holes. `Says` is
-- what an example says, by the definitions; no test stands in it.
use Rattle.std.specs.Prelude.{◌≡◌, List, [], ◌∷◌, map, ℕ, ◌/◌, length, get_or, replicate}
use Rattle.cells.specs.Cells.{Neighbours, everyone}
use Rattle.cells.specs.Groups.{Groups}
use Rattle.cells.specs.Quads.{quads}
use Rattle.cells.specs.Listed.{In, Entry, Grouping, grouping_by, Components}
use Rattle.cells.specs.Holes.{holes}

-- a component as it is told: its entries, and how many holes they leave
pub record Told : Type 0 where
  pub entries : List Entry
  pub gaps : ℕ

-- quads, of each the number of its group, the least numbers, and the components
pub record Example : Type 0 where
  pub cells : List ℕ
  pub groups : List ℕ
  pub least_quads : ℕ
  pub least_corners : ℕ
  pub answer : List Told

abbrev pub grouping : Example → Grouping
grouping x = grouping_by (length x.cells / 4) (λ (q : ℕ). get_or x.groups q 0) x.least_quads x.least_corners

pub record Says (x : Example) : Type 0 where
  pub grouped : Groups (Neighbours 4 x.cells everyone) (grouping x).n (grouping x).number
  pub components : Components quads x.cells (grouping x) (grouping x).n (map (λ (t : Told). t.entries) x.answer)
  pub holed : (t : Told) → In t x.answer → holes t.entries ≡ t.gaps

-- ---- the examples

abbrev pub entry : ℕ → ℕ → ℕ → Entry
entry u v c = record { u = u; v = v; corner = c }

-- corners a, b, c, d of one quad alone
abbrev pub square : ℕ → ℕ → ℕ → ℕ → List Entry
square a b c d = entry 0 0 a ∷ entry 0 1 d ∷ entry 1 0 b ∷ entry 1 1 c ∷ []

abbrev pub whole : List Entry → Told
whole es = record { entries = es; gaps = 0 }

-- quads that are one group, the least quads and corners, and the components
abbrev pub one_group : List ℕ → ℕ → ℕ → List Told → Example
one_group quads least_quads least_corners answer = record { cells = quads; groups = replicate (length quads / 4) 0; least_quads = least_quads; least_corners = least_corners; answer = answer }

-- the shift is over listed corners, not reached ones; only reached quads must fit; two groups share a corner; a component has no entries,
-- since each of the eight places is claimed twice; an L of three quads and a U of six have no hole, though (2,2) holds no corner; and a ring
-- of twelve round the place of a missing corner has one
abbrev pub examples : List Example
examples =
    record { cells = 0 ∷ 1 ∷ 2 ∷ 3 ∷ 0 ∷ 3 ∷ 4 ∷ 5 ∷ 0 ∷ 3 ∷ 6 ∷ 7 ∷ []; groups = 0 ∷ 0 ∷ 0 ∷ []; least_quads = 1; least_corners = 1; answer = whole (square 0 1 2 3) ∷ [] }
    ∷ record { cells = 0 ∷ 1 ∷ 2 ∷ 3 ∷ 1 ∷ 2 ∷ 5 ∷ 4 ∷ 5 ∷ 2 ∷ 6 ∷ 7 ∷ 4 ∷ 5 ∷ 7 ∷ 8 ∷ []; groups = 0 ∷ 0 ∷ 0 ∷ 0 ∷ []; least_quads = 1; least_corners = 1; answer = whole (square 0 1 2 3) ∷ [] }
    ∷ record { cells = 0 ∷ 1 ∷ 2 ∷ 3 ∷ 0 ∷ 4 ∷ 5 ∷ 6 ∷ []; groups = 0 ∷ 1 ∷ []; least_quads = 1; least_corners = 1; answer = whole (square 0 1 2 3) ∷ whole (square 0 4 5 6) ∷ [] }
    ∷ record {
      cells = 0 ∷ 1 ∷ 2 ∷ 3 ∷ 1 ∷ 0 ∷ 4 ∷ 5 ∷ 1 ∷ 0 ∷ 6 ∷ 7 ∷ 0 ∷ 1 ∷ 8 ∷ 9 ∷ 3 ∷ 2 ∷ 10 ∷ 11 ∷ 3 ∷ 2 ∷ 12 ∷ 13 ∷ 2 ∷ 3 ∷ 14 ∷ 15 ∷ [];
      groups = 0 ∷ 0 ∷ 0 ∷ 0 ∷ 0 ∷ 0 ∷ 0 ∷ [];
      least_quads = 1;
      least_corners = 0;
      answer = whole [] ∷ [];
    }
    ∷ record {
      cells = 0 ∷ 1 ∷ 2 ∷ 3 ∷ 1 ∷ 4 ∷ 5 ∷ 2 ∷ 3 ∷ 2 ∷ 6 ∷ 7 ∷ [];
      groups = 0 ∷ 0 ∷ 0 ∷ [];
      least_quads = 1;
      least_corners = 1;
      answer = whole (entry 0 0 0 ∷ entry 0 1 3 ∷ entry 0 2 7 ∷ entry 1 0 1 ∷ entry 1 1 2 ∷ entry 1 2 6 ∷ entry 2 0 4 ∷ entry 2 1 5 ∷ []) ∷ [];
    }
    ∷ record {
      cells = 0 ∷ 1 ∷ 2 ∷ 3 ∷ 1 ∷ 4 ∷ 5 ∷ 2 ∷ 4 ∷ 6 ∷ 7 ∷ 5 ∷ 6 ∷ 8 ∷ 9 ∷ 7 ∷ 3 ∷ 2 ∷ 10 ∷ 11 ∷ 7 ∷ 9 ∷ 12 ∷ 13 ∷ [];
      groups = 0 ∷ 0 ∷ 0 ∷ 0 ∷ 0 ∷ 0 ∷ [];
      least_quads = 1;
      least_corners = 1;
      answer = whole (entry 0 0 0 ∷ entry 0 1 3 ∷ entry 0 2 11 ∷ entry 1 0 1 ∷ entry 1 1 2 ∷ entry 1 2 10 ∷ entry 2 0 4 ∷ entry 2 1 5 ∷ entry 3 0 6 ∷ entry 3 1 7 ∷ entry 3 2 13 ∷ entry 4 0 8 ∷ entry 4 1 9 ∷ entry 4 2 12 ∷ []) ∷ [];
    }
    ∷ record {
      cells = 0 ∷ 5 ∷ 6 ∷ 1 ∷ 1 ∷ 6 ∷ 7 ∷ 2 ∷ 2 ∷ 7 ∷ 8 ∷ 3 ∷ 3 ∷ 8 ∷ 9 ∷ 4 ∷ 5 ∷ 10 ∷ 11 ∷ 6 ∷ 8 ∷ 13 ∷ 14 ∷ 9 ∷ 10 ∷ 15 ∷ 16 ∷ 11 ∷ 13 ∷ 18 ∷ 19 ∷ 14 ∷ 15 ∷ 20 ∷ 21 ∷ 16 ∷ 16 ∷ 21 ∷ 22 ∷ 17 ∷ 17 ∷ 22 ∷ 23 ∷ 18 ∷ 18 ∷ 23 ∷ 24 ∷ 19 ∷ [];
      groups = 0 ∷ 0 ∷ 0 ∷ 0 ∷ 0 ∷ 0 ∷ 0 ∷ 0 ∷ 0 ∷ 0 ∷ 0 ∷ 0 ∷ [];
      least_quads = 1;
      least_corners = 1;
      answer = record { entries = entry 0 0 0 ∷ entry 0 1 1 ∷ entry 0 2 2 ∷ entry 0 3 3 ∷ entry 0 4 4 ∷ entry 1 0 5 ∷ entry 1 1 6 ∷ entry 1 2 7 ∷ entry 1 3 8 ∷ entry 1 4 9 ∷ entry 2 0 10 ∷ entry 2 1 11 ∷ entry 2 3 13 ∷ entry 2 4 14 ∷ entry 3 0 15 ∷ entry 3 1 16 ∷ entry 3 2 17 ∷ entry 3 3 18 ∷ entry 3 4 19 ∷ entry 4 0 20 ∷ entry 4 1 21 ∷ entry 4 2 22 ∷ entry 4 3 23 ∷ entry 4 4 24 ∷ []; gaps = 1 } ∷ [];
    }
    ∷ []
