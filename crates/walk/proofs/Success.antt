-- A call that is done has written an answer at the fronts of its two lists, and told how many components and entries it has. Assumes
-- nothing.
use mathlib.Core.Path.{◌≡◌, refl, sym, ap}
use mathlib.Core.List.{List, ◌++◌}
use Prim.Native.Nat.{ℕ}
use native.Mathlib.Omega.{arith}
use lib.ListN.{length}
use Rattle.std.specs.Prelude.{Result, Ok, Err}
use Rattle.refusal.specs.declared.Refusal.{Refusal}
use Rattle.refusal.specs.Rows.{Gate, ◌then◌}
use Rattle.cells.specs.Listed.{Entry}
use Rattle.walk.specs.declared.Labelled.{Labelled}
use Rattle.walk.specs.Input.{Input, Answer}
use Rattle.walk.specs.Call.{wrote, entry_words, all_entries, component_words, room_row, entries_row, Outcome, outcome_by, Allowed}
use Rattle.walk.specs.Call.Allowed.{refused, labelled}

pub record Success (i : Input) (o : Outcome) (k l : ℕ) : Type 0 where
  pub out : List (List Entry)
  pub answer : Answer i out
  pub count : k ≡ length out
  pub total : l ≡ length (all_entries out)
  pub past : List ℕ
  pub components : o.components ≡ component_words 0 out ++ past
  pub rest : List ℕ
  pub entries : o.entries ≡ entry_words (all_entries out) ++ rest

pub refused_done : (why : Refusal) (k l : ℕ) → Err why ≡ wrote k l → ⊥
refused_done why k l e = let z : ◌≡◌ {A = ℕ} 0 1 = cc in omega arith

-- how many were written, and 0 where the call was refused
abbrev pub components_told : Result Labelled Refusal → ℕ
components_told (Ok counts) = counts.components
components_told (Err why) = 0

abbrev pub entries_told : Result Labelled Refusal → ℕ
entries_told (Ok counts) = counts.entries
entries_told (Err why) = 0

same_done : (m n k l : ℕ) → wrote m n ≡ wrote k l → (k ≡ m) × (l ≡ n)
same_done m n k l e = (sym (ap components_told e), sym (ap entries_told e))

by_rows : (i : Input) (work components entries : List ℕ) (k l : ℕ) (out : List (List Entry)) (g : Gate) → Answer i out → (outcome_by g out work components entries).answer ≡ wrote k l → Success i (outcome_by g out work components entries) k l
by_rows i work components entries k l out (Ok _) a e =
    let s = same_done (length out) (length (all_entries out)) k l e in
    record { out = out; answer = a; count = s.0; total = s.1; past = _; components = refl; rest = _; entries = refl }
by_rows i work components entries k l out (Err why) a e = absurd (refused_done why k l e)

pub success : (i : Input) (work components entries : List ℕ) (o : Outcome) (k l : ℕ) → Allowed i work components entries o → o.answer ≡ wrote k l → Success i o k l
success i work components entries o k l (refused why e) d = absurd (refused_done why k l d)
success i work components entries o k l (labelled e out a) d = by_rows i work components entries k l out (room_row (length components) (length out) then entries_row (length entries) (length (all_entries out))) a d
