-- The call `merge_triangle_pairs` whole: rows 1, 2, 4 to 7 and 9 in order, or the quads at the front of their list.
use Rattle.std.specs.Prelude.{Result}
use Rattle.refusal.specs.declared.Refusal.{Refusal}
use Rattle.std.specs.Prelude.{List, [], ◌∷◌, ◌++◌, ℕ, ◌*◌, ◌/◌, ltb, length, drop}
use Rattle.std.specs.Prelude.{Ok, Err}
use Rattle.refusal.specs.declared.Refusal.TheVariants.{RecordsShort}
use Rattle.refusal.specs.InNumbers.{InNumbers, gives, refuses}
use Rattle.refusal.specs.Rows.{Gate, refuse_if, ◌then◌}
use Rattle.mesh.specs.Lists.{paired_row, whole_row, limit_row, most_corners, most_half_edges}
use Rattle.mesh.specs.Positions.{positions_row}
use Rattle.mesh.specs.Cells.{corners_row, classes_row, twice_row}
use Rattle.mesh.specs.Twins.{twins_row}
use Rattle.quads.specs.declared.Quad.{Quad}
use Rattle.quads.specs.Merge.{Input, merged_of}

-- rows 1 and 2 look at lengths alone: x, y; triangles, twins, classes
unfoldable pub lengths_gate : (x y triangles twins classes : ℕ) → Gate
lengths_gate x y triangles twins classes =
    paired_row y x then whole_row triangles 3 then paired_row twins triangles then paired_row classes triangles
    then limit_row x most_corners then limit_row triangles most_half_edges

-- rows 4 to 7 look at what the lists hold; of row 5 the triangle list is searched whole first, then the class list
unfoldable pub values_gate : Input → Gate
values_gate i =
    positions_row i.xs i.ys then corners_row (length i.xs) i.mesh.triangles then classes_row i.mesh.classes
    then twice_row 3 i.mesh.triangles then twins_row i.mesh.triangles i.mesh.twins

unfoldable pub gate_of : Input → Gate
gate_of i =
    lengths_gate (length i.xs) (length i.ys) (length i.mesh.triangles) (length i.mesh.twins) (length i.mesh.classes)
    then values_gate i

-- row 9: room is the number of whole records that fit
abbrev pub room_row : ℕ → ℕ → Gate
room_row words wanted = refuse_if (ltb (words / 4) wanted) (RecordsShort wanted)

-- a quad is four words of a list
unfoldable pub words_of : List Quad → List ℕ
words_of [] = []
words_of (q ∷ qs) = q.a ∷ q.b ∷ q.c ∷ q.d ∷ words_of qs

-- the answer in 01's numbers: how many quads there are
abbrev pub merged_told : Result ℕ Refusal → InNumbers ℕ
merged_told (Ok count) = gives count
merged_told (Err why) = refuses 0 why

-- the answer, and the quad list after the call
pub record Outcome : Type 0 where
  pub answer : Result ℕ Refusal
  pub quads : List ℕ

abbrev pub outcome_by : Gate → Input → List ℕ → Outcome
outcome_by (Ok _) i quads = record { answer = Ok (length (merged_of i)); quads = words_of (merged_of i) ++ drop (4 * length (merged_of i)) quads }
outcome_by (Err why) i quads = record { answer = Err why; quads = quads }

unfoldable pub call_of : Input → List ℕ → Outcome
call_of i quads = outcome_by (gate_of i then room_row (length quads) (length (merged_of i))) i quads
