-- The call `filter_quads` whole: rows 1 to 6 and 8 in order, row 9, or the quads kept at the front of their list. The workspace is all
-- zero after row 9 and on success, and untouched by every other refusal.
use Rattle.std.specs.Prelude.{Result}
use Rattle.std.specs.Prelude.{◌≡◌, List, ◌++◌, ℕ, ◌*◌, ◌/◌, Float, length, drop, replicate}
use Rattle.std.specs.Prelude.{Ok, Err}
use Rattle.refusal.specs.declared.Refusal.{Refusal}
use Rattle.refusal.specs.InNumbers.{InNumbers, gives, refuses}
use Rattle.refusal.specs.Rows.{Gate, ◌then◌}
use Rattle.measure.specs.Parameter.{parameter_row}
use Rattle.mesh.specs.Lists.{paired_row, whole_row, limit_row, most_corners, most_quads, work_row, quad_words}
use Rattle.mesh.specs.Positions.{positions_row}
use Rattle.mesh.specs.Cells.{corners_row, twice_row}
use Rattle.quads.specs.declared.Quad.{Quad}
use Rattle.quads.specs.Call.{room_row, words_of}
use Rattle.filter.specs.declared.FilterParams.{FilterParams}
use Rattle.filter.specs.Input.{Input, quad_count}
use Rattle.filter.specs.Marks.{Marked, kept_of}

-- rows 1 and 2 look at lengths alone: x, y; quads
unfoldable pub lengths_gate : (x y quads : ℕ) → Gate
lengths_gate x y quads = paired_row y x then whole_row quads 4 then limit_row x most_corners then limit_row (quads / 4) most_quads

-- row 3: the opposing ratio, the least relative length, the greatest
unfoldable pub params_gate : FilterParams → Gate
params_gate p = parameter_row p.ratio 1 then parameter_row p.least 2 then parameter_row p.greatest 3

-- rows 4 to 6 look at what the lists hold
unfoldable pub values_gate : List Float → List Float → List ℕ → Gate
values_gate xs ys quads = positions_row xs ys then corners_row (length xs) quads then twice_row 4 quads

unfoldable pub gate_of : Input → Gate
gate_of i = lengths_gate (length i.xs) (length i.ys) (length i.quads) then params_gate i.params then values_gate i.xs i.ys i.quads

-- row 8
unfoldable pub entry_gate : Input → ℕ → Gate
entry_gate i words = gate_of i then work_row words (quad_words (quad_count i) (length i.xs))

-- the answer in 01's numbers: how many quads there are
abbrev pub filtered_told : Result ℕ Refusal → InNumbers ℕ
filtered_told (Ok count) = gives count
filtered_told (Err why) = refuses 0 why

-- the answer, and the lists that could change
pub record Outcome : Type 0 where
  pub answer : Result ℕ Refusal
  pub work : List ℕ
  pub kept : List ℕ

-- where the rows before it are open: by row 9
abbrev pub outcome_by : Gate → List Quad → List ℕ → List ℕ → Outcome
outcome_by (Ok _) quads work kept = record { answer = Ok (length quads); work = replicate (length work) 0; kept = words_of quads ++ drop (4 * length quads) kept }
outcome_by (Err why) quads work kept = record { answer = Err why; work = replicate (length work) 0; kept = kept }

pub data Allowed (i : Input) (work kept : List ℕ) : Outcome → Type 0 where
  refused : (why : Refusal) → entry_gate i (length work) ≡ Err why → Allowed i work kept (record { answer = Err why; work = work; kept = kept })
  judged : entry_gate i (length work) ≡ Ok tt → (marks : List ℕ) → Marked i marks
      → Allowed i work kept (outcome_by (room_row (length kept) (length (kept_of i marks))) (kept_of i marks) work kept)
