-- The call `classify_all_edges` whole: rows 1 to 6 in order, 18 behind 3, or every half-edge's class and fit in the two lists.
use Rattle.std.specs.Prelude.{Result}
use Rattle.refusal.specs.declared.Refusal.{Refusal}
use Rattle.std.specs.Prelude.{List, ℕ, Float, length}
use Rattle.std.specs.Prelude.{Ok, Err}
use Rattle.refusal.specs.InNumbers.{InNumbers, gives, refuses}
use Rattle.refusal.specs.Rows.{Gate, ◌then◌}
use Rattle.measure.specs.Parameter.{parameter_row}
use Rattle.std.specs.Borrow.{Bor}
use Rattle.axis.specs.declared.Axes.{Axes}
use Rattle.axis.specs.Cache.{rule_row}
use Rattle.mesh.specs.declared.Positions.{Positions}
use Rattle.mesh.specs.Lists.{paired_row, doubled_row, whole_row, limit_row, most_corners, most_half_edges}
use Rattle.mesh.specs.Positions.{positions_row}
use Rattle.mesh.specs.Cells.{corners_row, twice_row}
use Rattle.classify.specs.declared.EdgeParams.{EdgeParams}
use Rattle.classify.specs.Classes.{Input, classes_of}
use Rattle.classify.specs.Fits.{fits_of}

-- rows 1 and 2 look at lengths alone: x, y, axes at two slots a corner; triangles, classes
unfoldable pub lengths_gate : (x y angles marks spreads triangles classes : ℕ) → Gate
lengths_gate x y angles marks spreads triangles classes =
    paired_row y x then doubled_row angles x then doubled_row marks x then doubled_row spreads x then whole_row triangles 3 then paired_row classes triangles
    then limit_row x most_corners then limit_row triangles most_half_edges

-- of lists that are lent, where the list that goes with the triangles is of length `paired`
abbrev pub lengths_given : Positions → Axes → Bor (List ℕ) → ℕ → Gate
lengths_given corners axes triangles paired =
    lengths_gate (length corners.x.now) (length corners.y.now) (length axes.angles.now) (length axes.marks.now) (length axes.spreads.now) (length triangles.now) paired

-- rows 3, 18 and 4 to 6 look at the parameters and at what the lists hold
unfoldable pub values_gate : List Float → List Float → List ℕ → EdgeParams → Gate
values_gate xs ys triangles params =
    parameter_row params.tolerance 0 then parameter_row params.spread.limit 4 then rule_row params.spread
    then positions_row xs ys then corners_row (length xs) triangles then twice_row 3 triangles

-- for a class list of that length
unfoldable pub gate_of : Input → ℕ → Gate
gate_of i classes =
    lengths_gate (length i.xs) (length i.ys) (length i.angles) (length i.marks) (length i.spreads) (length i.triangles) classes
    then values_gate i.xs i.ys i.triangles i.params

-- and for a fit list: row 1, whose place is 0 whichever list is at fault, begins with its length
unfoldable pub fitted_gate : Input → ℕ → ℕ → Gate
fitted_gate i classes fits = paired_row fits (length i.triangles) then gate_of i classes

-- the answer in 01's numbers
abbrev pub classified_told : Result Unit Refusal → InNumbers Unit
classified_told (Ok _) = gives tt
classified_told (Err why) = refuses tt why

-- the answer, and the two lists after the call
pub record Outcome : Type 0 where
  pub answer : Result Unit Refusal
  pub classes : List ℕ
  pub fits : List Float

abbrev pub outcome_by : Gate → Input → List ℕ → List Float → Outcome
outcome_by (Ok _) i classes fits = record { answer = Ok tt; classes = classes_of i; fits = fits_of i }
outcome_by (Err why) i classes fits = record { answer = Err why; classes = classes; fits = fits }

unfoldable pub call_of : Input → List ℕ → List Float → Outcome
call_of i classes fits = outcome_by (fitted_gate i (length classes) (length fits)) i classes fits
