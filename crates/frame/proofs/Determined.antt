-- The call has one outcome (`determined`): the rows decide, a frame has one list of marks, and the quads that they keep one list of
-- components. Assumes nothing.
use Rattle.std.specs.Prelude.{Err}
use mathlib.Core.Path.{◌≡◌, ap, subst}
use mathlib.Core.List.{List}
use Prim.Native.Nat.{ℕ}
use lib.ListN.{length}
use Rattle.refusal.specs.declared.Refusal.{Refusal}
use Rattle.refusal.specs.Rows.{◌then◌}
use Rattle.refusal.proofs.Rows.{shut_open, one_why}
use Rattle.filter.specs.Marks.{Marked, kept_of}
use Rattle.filter.proofs.Determined.{marks_determined}
use Rattle.cells.specs.Listed.{Entry}
use Rattle.walk.specs.Input as labels
use Rattle.walk.specs.Call.{all_entries, room_row, entries_row, Outcome, outcome_by}
use Rattle.walk.proofs.Determined.{one_out}
use Rattle.frame.specs.Stages.{Input, filtering, labelling, Answer}
use Rattle.frame.specs.Call.{entry_gate, Allowed}
use Rattle.frame.specs.Call.Allowed.{refused, labelled}

-- the components are those of the quads kept by any marks of the filters
pub labelled_under : (i : Input) (out : List (List Entry)) (marks : List ℕ) → Marked (filtering i) marks → Answer i out → labels.Answer (labelling i (kept_of (filtering i) marks)) out
labelled_under i out marks marked a = subst (λ (m : List ℕ). labels.Answer (labelling i (kept_of (filtering i) m)) out) (marks_determined (filtering i) a.marks marks a.marked marked) a.labelled

pub one_answer : (i : Input) (out other : List (List Entry)) → Answer i out → Answer i other → out ≡ other
one_answer i out other a b = one_out (labelling i (kept_of (filtering i) b.marks)) out other (labelled_under i out b.marks b.marked a) b.labelled

pub determined : (i : Input) (work components entries : List ℕ) (o p : Outcome) → Allowed i work components entries o → Allowed i work components entries p → o ≡ p
determined i work components entries o p (refused why e) (refused other f) =
    ap (λ (w : Refusal). record { answer = Err w; work = work; components = components; entries = entries }) (one_why (entry_gate i (length work)) why other e f)
determined i work components entries o p (refused why e) (labelled f out a) = absurd (shut_open (entry_gate i (length work)) why e f)
determined i work components entries o p (labelled e out a) (refused why f) = absurd (shut_open (entry_gate i (length work)) why f e)
determined i work components entries o p (labelled e out a) (labelled f other b) =
    ap (λ (l : List (List Entry)). outcome_by (room_row (length components) (length l) then entries_row (length entries) (length (all_entries l))) l work components entries) (one_answer i out other a b)
