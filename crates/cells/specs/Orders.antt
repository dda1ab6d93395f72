-- Quads in two orders, computed. Joined across a side run in opposite senses, two are listed alike but for one turn and a shift. Hung on a side
-- run alike, document 01's two list other corners, and a group may be kept in the one order and dropped in the other. And what is no
-- reordering, no listing of the same corners, and no turn.
use Rattle.std.specs.Prelude.{◌≡◌, List, [], ◌∷◌, ℕ}
use Rattle.cells.specs.Quads.{quads}
use Rattle.cells.specs.Listed.{Entry}
use Rattle.cells.specs.Example.{Example, grouping, Says, entry, square, whole, one_group}
use Rattle.cells.specs.Reordered.{Reordered, Joined, SameCorners}
use Rattle.cells.specs.Turned.{TurnedListing}

-- side 1-2 run in opposite senses
abbrev pub opposite : List ℕ
opposite = 0 ∷ 1 ∷ 2 ∷ 3 ∷ 2 ∷ 1 ∷ 4 ∷ 5 ∷ []

abbrev pub opposite_back : List ℕ
opposite_back = 2 ∷ 1 ∷ 4 ∷ 5 ∷ 0 ∷ 1 ∷ 2 ∷ 3 ∷ []

abbrev pub lying : List Entry
lying = entry 0 0 0 ∷ entry 0 1 3 ∷ entry 1 0 1 ∷ entry 1 1 2 ∷ entry 2 0 4 ∷ entry 2 1 5 ∷ []

abbrev pub standing : List Entry
standing = entry 0 0 3 ∷ entry 0 1 2 ∷ entry 0 2 5 ∷ entry 1 0 0 ∷ entry 1 1 1 ∷ entry 1 2 4 ∷ []

-- side 1-2 run alike
abbrev pub alike : List ℕ
alike = 0 ∷ 1 ∷ 2 ∷ 3 ∷ 1 ∷ 2 ∷ 5 ∷ 4 ∷ []

abbrev pub alike_back : List ℕ
alike_back = 1 ∷ 2 ∷ 5 ∷ 4 ∷ 0 ∷ 1 ∷ 2 ∷ 3 ∷ []

-- a quad hung so on three round corner 5, which contradict one another; and the same with that quad as the last
abbrev pub hung : List ℕ
hung = 0 ∷ 1 ∷ 2 ∷ 3 ∷ 1 ∷ 2 ∷ 5 ∷ 4 ∷ 5 ∷ 2 ∷ 6 ∷ 7 ∷ 4 ∷ 5 ∷ 7 ∷ 8 ∷ []

abbrev pub hung_last : List ℕ
hung_last = 1 ∷ 2 ∷ 5 ∷ 4 ∷ 5 ∷ 2 ∷ 6 ∷ 7 ∷ 4 ∷ 5 ∷ 7 ∷ 8 ∷ 0 ∷ 1 ∷ 2 ∷ 3 ∷ []

-- one group, with one component
abbrev pub with_one : List ℕ → List Entry → Example
with_one cells es = one_group cells 1 1 (whole es ∷ [])

pub record Orders : Type 0 where
  pub opposite_reordered : Reordered 4 opposite opposite_back
  pub opposite_joined : Joined quads opposite (grouping (with_one opposite lying)) 0
  pub opposite_first : Says (with_one opposite lying)
  pub opposite_second : Says (with_one opposite_back standing)
  pub six_corners : SameCorners lying standing
  -- turned once, and not otherwise
  pub turned : TurnedListing lying standing
  pub once : (w : TurnedListing lying standing) → w.t ≡ 1
  pub alike_reordered : Reordered 4 alike alike_back
  pub alike_not_joined : Joined quads alike (grouping (with_one alike (square 0 1 2 3))) 0 → ⊥
  pub alike_first : Says (with_one alike (square 0 1 2 3))
  pub alike_second : Says (with_one alike_back (square 1 2 5 4))
  pub other_corners : SameCorners (square 0 1 2 3) (square 1 2 5 4) → ⊥
  pub hung_reordered : Reordered 4 hung hung_last
  pub hung_first : Says (with_one hung (square 0 1 2 3))
  pub hung_second : Says (one_group hung_last 1 1 [])
  -- no reordering: a quad begun at its next corner, one run the other way, one for a second that was equal to the first, a word more
  pub begun_elsewhere : Reordered 4 (0 ∷ 1 ∷ 2 ∷ 3 ∷ []) (1 ∷ 2 ∷ 3 ∷ 0 ∷ []) → ⊥
  pub run_back : Reordered 4 (0 ∷ 1 ∷ 2 ∷ 3 ∷ []) (0 ∷ 3 ∷ 2 ∷ 1 ∷ []) → ⊥
  pub for_another : Reordered 4 (0 ∷ 1 ∷ 2 ∷ 3 ∷ 0 ∷ 1 ∷ 2 ∷ 3 ∷ []) opposite → ⊥
  pub a_word_more : Reordered 4 (0 ∷ 1 ∷ 2 ∷ 3 ∷ []) (0 ∷ 1 ∷ 2 ∷ 3 ∷ 4 ∷ []) → ⊥
  -- not the same corners, though all of the one are in the other; no turn, u and v exchanged
  pub more_corners : SameCorners (square 0 1 2 3) lying → ⊥
  pub mirrored : TurnedListing (square 0 1 2 3) (square 0 3 2 1) → ⊥
