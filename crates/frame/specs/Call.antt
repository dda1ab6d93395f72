-- The call `label_frame` whole: rows 1 to 7 in order, 18 behind 3, row 8, rows 9 and 10, or the components and their entries at the fronts
-- of their lists. The workspace is all zero after rows 9 and 10 and on success, and untouched by every other refusal.
use Rattle.std.specs.Prelude.{◌≡◌, List, ℕ, Float, length}
use Rattle.std.specs.Prelude.{Ok, Err}
use Rattle.refusal.specs.declared.Refusal.{Refusal}
use Rattle.refusal.specs.Rows.{Gate, ◌then◌}
use Rattle.measure.specs.Parameter.{parameter_row}
use Rattle.axis.specs.Cache.{rule_row}
use Rattle.classify.specs.Call.{lengths_gate}
use Rattle.mesh.specs.Lists.{work_row, frame_words}
use Rattle.mesh.specs.Positions.{positions_row}
use Rattle.mesh.specs.Cells.{corners_row, twice_row}
use Rattle.mesh.specs.Twins.{twins_row}
use Rattle.cells.specs.Listed.{Entry}
use Rattle.walk.specs.Call.{Outcome, outcome_in}
use Rattle.frame.specs.declared.Params.{Params}
use Rattle.frame.specs.Stages.{Input, Answer}

-- row 3: tolerance, opposing ratio, least relative length, greatest, spread limit; and row 18
unfoldable pub params_gate : Params → Gate
params_gate p =
    parameter_row p.edges.tolerance 0 then parameter_row p.filters.ratio 1 then parameter_row p.filters.least 2
    then parameter_row p.filters.greatest 3 then parameter_row p.edges.spread.limit 4 then rule_row p.edges.spread

-- rows 4 to 7 look at what the lists hold
unfoldable pub values_gate : List Float → List Float → List ℕ → List ℕ → Gate
values_gate xs ys triangles twins = positions_row xs ys then corners_row (length xs) triangles then twice_row 3 triangles then twins_row triangles twins

-- rows 1 to 7, with 18; rows 1 and 2 are those of the classes, with the twins where these have a class list
unfoldable pub judge_of : Input → Gate
judge_of i =
    lengths_gate (length i.xs) (length i.ys) (length i.angles) (length i.marks) (length i.spreads) (length i.triangles) (length i.twins)
    then params_gate i.params then values_gate i.xs i.ys i.triangles i.twins

-- row 8
unfoldable pub entry_gate : Input → ℕ → Gate
entry_gate i words = judge_of i then work_row words (frame_words (length i.triangles) (length i.xs))

pub data Allowed (i : Input) (work components entries : List ℕ) : Outcome → Type 0 where
  refused : (why : Refusal) → entry_gate i (length work) ≡ Err why → Allowed i work components entries (record { answer = Err why; work = work; components = components; entries = entries })
  labelled : entry_gate i (length work) ≡ Ok tt → (out : List (List Entry)) → Answer i out
      → Allowed i work components entries (outcome_in out work components entries)
