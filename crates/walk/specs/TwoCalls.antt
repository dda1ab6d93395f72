-- The call on two quads in both orders, whole: the words that it leaves, and what they list.
use Rattle.walk.specs.Call.{wrote}
use Rattle.std.specs.Prelude.{◌≡◌, List, [], ◌∷◌, ℕ, replicate}
use Rattle.cells.specs.Quads.{quads}
use Rattle.cells.specs.Reordered.{Joined}
use Rattle.cells.specs.Orders.{opposite, opposite_back, lying, standing}
use Rattle.walk.specs.Input.{Input}
use Rattle.walk.specs.Call.{Outcome}
use Rattle.walk.specs.DoneCall.{DoneCall, grouping_of, HasComponent, listing}

abbrev pub two_quads : List ℕ → Input
two_quads quads = record { quads = quads; corners = 6; params = record { quads = 1; corners = 1 } }

-- one component of six entries without a hole, in lists of just that room
abbrev pub six_entries : List ℕ → Outcome
six_entries entries = record { answer = wrote 1 6; work = replicate 160 0; components = 0 ∷ 6 ∷ 0 ∷ []; entries = entries }

abbrev pub lying_words : List ℕ
lying_words = 0 ∷ 0 ∷ 0 ∷ 0 ∷ 1 ∷ 3 ∷ 1 ∷ 0 ∷ 1 ∷ 1 ∷ 1 ∷ 2 ∷ 2 ∷ 0 ∷ 4 ∷ 2 ∷ 1 ∷ 5 ∷ []

abbrev pub standing_words : List ℕ
standing_words = 0 ∷ 0 ∷ 3 ∷ 0 ∷ 1 ∷ 2 ∷ 0 ∷ 2 ∷ 5 ∷ 1 ∷ 0 ∷ 0 ∷ 1 ∷ 1 ∷ 1 ∷ 1 ∷ 2 ∷ 4 ∷ []

pub record TwoCalls : Type 0 where
  pub first : DoneCall (two_quads opposite) (six_entries lying_words)
  pub second : DoneCall (two_quads opposite_back) (six_entries standing_words)
  pub first_lists : listing (six_entries lying_words) 0 ≡ lying
  pub second_lists : listing (six_entries standing_words) 0 ≡ standing
  -- however its groups are numbered, that of quad 0 is joined, and has a component
  pub joined : (x : DoneCall (two_quads opposite) (six_entries lying_words)) → Joined quads opposite (grouping_of x) (x.number 0)
  pub has : (x : DoneCall (two_quads opposite) (six_entries lying_words)) → HasComponent x 0
  -- the words of the one order are not left in the other
  pub not_exchanged : DoneCall (two_quads opposite_back) (six_entries lying_words) → ⊥
