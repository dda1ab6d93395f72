-- The call `label_components` whole: rows 1, 2, 5, 6 and 8 in order, rows 9 and 10, or the components and their entries at the front of
-- their lists. The workspace is all zero after rows 9 and 10 and on success, and untouched by every other refusal.
use Rattle.std.specs.Prelude.{Result}
use Rattle.std.specs.Prelude.{◌≡◌, List, [], ◌∷◌, ◌++◌, ℕ, ◌+◌, ◌*◌, ◌/◌, ltb, length, drop, replicate}
use Rattle.std.specs.Prelude.{Ok, Err}
use Rattle.refusal.specs.declared.Refusal.{Refusal}
use Rattle.refusal.specs.declared.Refusal.TheVariants.{RecordsShort, EntriesShort}
use Rattle.refusal.specs.InNumbers.{InNumbers, gives, refuses}
use Rattle.refusal.specs.Rows.{Gate, refuse_if, ◌then◌}
use Rattle.mesh.specs.Lists.{whole_row, limit_row, most_corners, most_quads, work_row, quad_words}
use Rattle.mesh.specs.Cells.{corners_row, twice_row}
use Rattle.cells.specs.Listed.{Entry}
use Rattle.cells.specs.Holes.{holes}
use Rattle.walk.specs.declared.Labelled.{Labelled}
use Rattle.walk.specs.Input.{Input, quad_count, Answer}

-- rows 1, 2, 5 and 6
unfoldable pub gate_of : Input → Gate
gate_of i =
    whole_row (length i.quads) 4 then limit_row i.corners most_corners then limit_row (quad_count i) most_quads
    then corners_row i.corners i.quads then twice_row 4 i.quads

-- row 8
unfoldable pub entry_gate : Input → ℕ → Gate
entry_gate i words = gate_of i then work_row words (quad_words (quad_count i) i.corners)

-- an entry is u, v, corner
unfoldable pub entry_words : List Entry → List ℕ
entry_words [] = []
entry_words (e ∷ es) = e.u ∷ e.v ∷ e.corner ∷ entry_words es

-- the entries of all components, one after the other
unfoldable pub all_entries : List (List Entry) → List Entry
all_entries [] = []
all_entries (es ∷ out) = es ++ all_entries out

-- a component is the number of entries before its own, their count and its holes
unfoldable pub component_words : ℕ → List (List Entry) → List ℕ
component_words before [] = []
component_words before (es ∷ out) = before ∷ length es ∷ holes es ∷ component_words (before + length es) out

-- rows 9 and 10: room is the number of whole records that fit
abbrev pub room_row : ℕ → ℕ → Gate
room_row words wanted = refuse_if (ltb (words / 3) wanted) (RecordsShort wanted)

abbrev pub entries_row : ℕ → ℕ → Gate
entries_row words wanted = refuse_if (ltb (words / 3) wanted) (EntriesShort wanted)

-- so many components and entries were written
abbrev pub wrote : ℕ → ℕ → Result Labelled Refusal
wrote components entries = Ok (record { components = components; entries = entries })

-- the answer in 01's numbers: how many components there are, and how many entries
abbrev pub labelled_told : Result Labelled Refusal → InNumbers (ℕ × ℕ)
labelled_told (Ok counts) = gives (counts.components, counts.entries)
labelled_told (Err why) = refuses (0, 0) why

-- the answer, and the lists that could change
pub record Outcome : Type 0 where
  pub answer : Result Labelled Refusal
  pub work : List ℕ
  pub components : List ℕ
  pub entries : List ℕ

-- where the rows before are open: by rows 9 and 10
abbrev pub outcome_by : Gate → List (List Entry) → List ℕ → List ℕ → List ℕ → Outcome
outcome_by (Ok _) out work components entries =
    record {
      answer = wrote (length out) (length (all_entries out));
      work = replicate (length work) 0;
      components = component_words 0 out ++ drop (3 * length out) components;
      entries = entry_words (all_entries out) ++ drop (3 * length (all_entries out)) entries;
    }
outcome_by (Err why) out work components entries = record { answer = Err why; work = replicate (length work) 0; components = components; entries = entries }

-- and so with the room that two lists have for the components and their entries
abbrev pub outcome_in : List (List Entry) → (work components entries : List ℕ) → Outcome
outcome_in out work components entries =
    outcome_by (room_row (length components) (length out) then entries_row (length entries) (length (all_entries out))) out work components entries

pub data Allowed (i : Input) (work components entries : List ℕ) : Outcome → Type 0 where
  refused : (why : Refusal) → entry_gate i (length work) ≡ Err why → Allowed i work components entries (record { answer = Err why; work = work; components = components; entries = entries })
  labelled : entry_gate i (length work) ≡ Ok tt → (out : List (List Entry)) → Answer i out
      → Allowed i work components entries (outcome_in out work components entries)
