-- A call that is done, with its groups: which of them has a component, and what that lists.
use Rattle.walk.specs.Call.{wrote}
use Rattle.std.specs.Prelude.{◌≡◌, List, ℕ}
use Rattle.cells.specs.Listed.{Entry, Grouping}
use Rattle.walk.specs.Input.{Input, GroupsOf, grouping}
use Rattle.walk.specs.Call.{Outcome, Allowed}
use Rattle.walk.specs.Read.{component_at}
use Rattle.walk.specs.Demanded.{Place, Seeds}

-- the lists as they were lent; that the call with this input may leave this outcome, which tells k components and l entries; the numbers of
-- the quads' groups, and of each component the lowest quad of its group
pub record DoneCall (input : Input) (outcome : Outcome) : Type 0 where
  pub work : List ℕ
  pub components : List ℕ
  pub entries : List ℕ
  pub allowed : Allowed input work components entries outcome
  pub k : ℕ
  pub l : ℕ
  pub done : outcome.answer ≡ wrote k l
  pub number : ℕ → ℕ
  pub groups : GroupsOf input number
  pub seed : ℕ → ℕ
  pub seeds : Seeds input number k seed

module _ {input : Input} {outcome : Outcome} (x : DoneCall input outcome) where
  abbrev pub grouping_of : Grouping
  grouping_of = grouping input x.number

  -- the group of quad q has a component, of which this is the number
  abbrev pub HasComponent : ℕ → Type 0
  HasComponent q = Place x.k (λ j. x.seed j ≡ x.number q)

-- component j, as it is read from the words
abbrev pub listing : Outcome → ℕ → List Entry
listing outcome j = component_at outcome.components outcome.entries j
