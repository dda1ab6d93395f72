-- What labelling reads, and the groups of its quads.
use Rattle.std.specs.Prelude.{List, ℕ, ◌/◌, length}
use Rattle.std.specs.Borrow.{Bor}
use Rattle.cells.specs.Cells.{everyone, Neighbours}
use Rattle.cells.specs.Groups.{Groups}
use Rattle.cells.specs.Listed.{Entry, Grouping, grouping_by, Components}
use Rattle.cells.specs.Quads.{quads}
use Rattle.fates.specs.declared.LabelParams.{LabelParams}

pub record Input : Type 0 where
  pub quads : List ℕ
  pub corners : ℕ
  pub params : LabelParams

-- what the lent list holds, and the numbers, in the order in which the call takes them
abbrev pub given : (quads : Bor (List ℕ)) (corners : ℕ) → LabelParams → Input
given quads corners params = record { quads = quads.now; corners = corners; params = params }

abbrev pub quad_count : Input → ℕ
quad_count i = length i.quads / 4

-- groups across shared sides, whichever way each runs
abbrev pub GroupsOf : Input → (ℕ → ℕ) → Type 0
GroupsOf i number = Groups (Neighbours 4 i.quads everyone) (quad_count i) number

abbrev pub grouping : Input → (ℕ → ℕ) → Grouping
grouping i number = grouping_by (quad_count i) number i.params.quads i.params.corners

-- out is the components, each by its entries: of the groups in order of their lowest quad, those that yield one
pub record Answer (i : Input) (out : List (List Entry)) : Type 0 where
  pub number : ℕ → ℕ
  pub groups : GroupsOf i number
  pub components : Components quads i.quads (grouping i number) (quad_count i) out
