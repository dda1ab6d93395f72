-- The rows before the ninth refuse with other numbers than 9 and 10: a call that is refused by row 9 or 10 is one that they let through.
-- Assumes nothing.
use mathlib.Core.Path.{◌≡◌, refl, sym, ap, subst, ◌∙◌}
use mathlib.Core.Bool.{Bool, true, false, not, ◌||◌, false≢true}
use mathlib.Core.List.{List}
use Prim.Native.Nat.{ℕ, ◌/◌, ◌%◌}
use lib.Dec.{eqb, ltb}
use lib.ListN.{length}
use Rattle.std.specs.Prelude.{Result, Ok, Err}
use Rattle.refusal.specs.declared.Refusal.{Refusal}
use Rattle.refusal.specs.declared.Refusal.TheVariants.{Unpaired, OverLimit, NoSuchCorner, CornerTwice, WorkspaceShort, RecordsShort, EntriesShort}
use Rattle.refusal.specs.First.{first_of}
use Rattle.refusal.specs.Rows.{Gate, refuse_if, refuse_first, ◌then◌}
use Rattle.refusal.specs.Table.{number_of}
use Rattle.refusal.proofs.Rows.{shut_open, one_why}
use Rattle.mesh.specs.Lists.{paired_row, limit_row, most_corners, most_quads, work_row, quad_words}
use Rattle.mesh.specs.Cells.{not_below, corners_row, names_twice, twice_row}
use Rattle.walk.specs.declared.Labelled.{Labelled}
use Rattle.walk.specs.Input.{Input, quad_count}
use Rattle.walk.specs.Call.{gate_of, entry_gate, Outcome, Allowed}
use Rattle.walk.specs.Call.Allowed.{refused, labelled}

-- refused by row 9 or 10
abbrev pub of_room : Refusal → Bool
of_room why = eqb (number_of why) 9 || eqb (number_of why) 10

-- where it is shut, it is not for want of room
abbrev pub Early : Gate → Type 0
Early g = (why : Refusal) → g ≡ Err why → of_room why ≡ false

pub early_if : (t : Bool) (why : Refusal) → of_room why ≡ false → Early (refuse_if t why)
early_if true why h other e = subst (λ (w : Refusal). of_room w ≡ false) (one_why (Err why) why other refl e) h
early_if false why h other e = absurd (shut_open (Ok tt) other e refl)

pub early_first : (offends : ℕ → Bool) (n : ℕ) (why : ℕ → Refusal) → ((k : ℕ) → of_room (why k) ≡ false) → Early (refuse_first offends n why)
unfolding refuse_first
early_first offends n why h = early_if (ltb (first_of offends n) n) (why (first_of offends n)) (h (first_of offends n))

pub early_then : (g h : Gate) → Early g → Early h → Early (g then h)
early_then (Ok _) h a b = b
early_then (Err why) h a b = a

-- ---- rows 1, 2, 5, 6 and 8

pub early_paired : (a b : ℕ) → Early (paired_row a b)
early_paired a b = early_if (not (eqb a b)) Unpaired refl

pub early_limit : (count most : ℕ) → Early (limit_row count most)
early_limit count most = early_if (ltb most count) OverLimit refl

pub early_corners : (n : ℕ) (cells : List ℕ) → Early (corners_row n cells)
unfolding corners_row
early_corners n cells = early_first (not_below n cells) (length cells) NoSuchCorner (λ k. refl)

pub early_twice : (size : ℕ) (cells : List ℕ) → Early (twice_row size cells)
unfolding twice_row
early_twice size cells = early_first (names_twice size cells) (length cells / size) CornerTwice (λ k. refl)

pub early_work : (words wanted : ℕ) → Early (work_row words wanted)
early_work words wanted = early_if (ltb words wanted) (WorkspaceShort wanted) refl

pub entry_early : (i : Input) (words : ℕ) → Early (entry_gate i words)
unfolding entry_gate gate_of
entry_early i words =
    early_then _ _
    (early_then _ _ (early_paired (length i.quads % 4) 0)
    (early_then _ _ (early_limit i.corners most_corners)
    (early_then _ _ (early_limit (quad_count i) most_quads)
    (early_then _ _ (early_corners i.corners i.quads) (early_twice 4 i.quads)))))
    (early_work words (quad_words (quad_count i) i.corners))

-- ---- rows 9 and 10

pub not_9 : (g : Gate) → Early g → (why : Refusal) (w : ℕ) → g ≡ Err why → ◌≡◌ {A = Result Labelled Refusal} (Err why) (Err (RecordsShort w)) → ⊥
not_9 g early why w e f =
    let s : why ≡ RecordsShort w = cc in
    false≢true (sym (early why e) ∙ ap of_room s)

pub not_10 : (g : Gate) → Early g → (why : Refusal) (w : ℕ) → g ≡ Err why → ◌≡◌ {A = Result Labelled Refusal} (Err why) (Err (EntriesShort w)) → ⊥
not_10 g early why w e f =
    let s : why ≡ EntriesShort w = cc in
    false≢true (sym (early why e) ∙ ap of_room s)

pub open_by_9 : (i : Input) (work components entries : List ℕ) (o : Outcome) → Allowed i work components entries o → (w : ℕ) → o.answer ≡ Err (RecordsShort w) → entry_gate i (length work) ≡ Ok tt
open_by_9 i work components entries o (refused why e) w f = absurd (not_9 (entry_gate i (length work)) (entry_early i (length work)) why w e f)
open_by_9 i work components entries o (labelled e out a) w f = e

pub open_by_10 : (i : Input) (work components entries : List ℕ) (o : Outcome) → Allowed i work components entries o → (w : ℕ) → o.answer ≡ Err (EntriesShort w) → entry_gate i (length work) ≡ Ok tt
open_by_10 i work components entries o (refused why e) w f = absurd (not_10 (entry_gate i (length work)) (entry_early i (length work)) why w e f)
open_by_10 i work components entries o (labelled e out a) w f = e
