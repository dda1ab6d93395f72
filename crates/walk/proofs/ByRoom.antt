-- The answer by the room of the two lists, and what an answer of rows 9 and 10 then tells. Assumes nothing.
use Rattle.std.specs.Prelude.{Result, Err}
use Rattle.refusal.specs.declared.Refusal.{Refusal}
use Rattle.walk.specs.Call.{wrote}
use mathlib.Core.Path.{◌≡◌, sym, ◌∙◌}
use mathlib.Core.List.{List}
use Prim.Native.Nat.{ℕ, ◌/◌, ◌≤◌, ◌<◌}
use native.Mathlib.Decide.{dec_lt}
use native.Mathlib.Omega.{arith}
use borrow.Author.Tests.{lt-ltb, le-ltb}
use lib.ListN.{length}
use Rattle.refusal.specs.declared.Refusal.TheVariants.{RecordsShort, EntriesShort}
use Rattle.std.specs.Prelude.{Ok}
use Rattle.refusal.proofs.Rows.{shut_open}
use Rattle.cells.specs.Listed.{Entry}
use Rattle.walk.specs.declared.Labelled.{Labelled}
use Rattle.walk.specs.Input.{Input, Answer}
use Rattle.walk.specs.Call.{all_entries, entry_gate, Outcome, Allowed}
use Rattle.walk.specs.Call.Allowed.{refused, labelled}
use Rattle.walk.specs.Wanted.{ByRoom}

-- a call that the rows before let through has an answer of the definitions, and answers by the room for it
pub record Passed (i : Input) (components entries : List ℕ) (answer : Result Labelled Refusal) : Type 0 where
  pub out : List (List Entry)
  pub is : Answer i out
  pub room : ByRoom (length components / 3) (length entries / 3) (length out) (length (all_entries out)) answer

pub passed : (i : Input) (work components entries : List ℕ) (o : Outcome) → Allowed i work components entries o → entry_gate i (length work) ≡ Ok tt → Passed i components entries o.answer
passed i work components entries o (refused why e) through = absurd (shut_open (entry_gate i (length work)) why e through)
passed i work components entries o (labelled e out a) through = record {
  out = out;
  is = a;
  room = record {
    row_9 = λ h. rw (lt-ltb (length components / 3) (length out) h);
    row_10 = λ h r. rw (le-ltb (length components / 3) (length out) h, lt-ltb (length entries / 3) (length (all_entries out)) r);
    done = λ h r. rw (le-ltb (length components / 3) (length out) h, le-ltb (length entries / 3) (length (all_entries out)) r);
  };
}

module _ {records entries k l : ℕ} {answer : Result Labelled Refusal} (b : ByRoom records entries k l answer) where
  -- which of the three it is
  by_three : {A : Type 0} → (records < k → answer ≡ Err (RecordsShort k) → A) → (k ≤ records → entries < l → answer ≡ Err (EntriesShort l) → A) → (k ≤ records → l ≤ entries → answer ≡ wrote k l → A) → A
  by_three {A} f g h = go (dec_lt records k) (dec_lt entries l)
    where
      go : Dec (records < k) → Dec (entries < l) → A
      go (yes x) y = f x (b.row_9 x)
      go (no x) (yes y) = g (omega arith) y (b.row_10 (omega arith) y)
      go (no x) (no y) = h (omega arith) (omega arith) (b.done (omega arith) (omega arith))

  pub told_by_9 : (w : ℕ) → answer ≡ Err (RecordsShort w) → (k ≡ w) × (records < k)
  told_by_9 w e = by_three
      (λ h f. let s : Err (RecordsShort k) ≡ Err (RecordsShort w) = sym f ∙ e in let z : k ≡ w = cc in (z, h))
      (λ h r f. let s : Err (EntriesShort l) ≡ Err (RecordsShort w) = sym f ∙ e in let z : ◌≡◌ {A = ℕ} 0 1 = cc in absurd (omega arith))
      (λ h r f. let s : wrote k l ≡ Err (RecordsShort w) = sym f ∙ e in let z : ◌≡◌ {A = ℕ} 0 1 = cc in absurd (omega arith))

  pub told_by_10 : (w : ℕ) → answer ≡ Err (EntriesShort w) → (l ≡ w) × (k ≤ records) × (entries < l)
  told_by_10 w e = by_three
      (λ h f. let s : Err (RecordsShort k) ≡ Err (EntriesShort w) = sym f ∙ e in let z : ◌≡◌ {A = ℕ} 0 1 = cc in absurd (omega arith))
      (λ h r f. let s : Err (EntriesShort l) ≡ Err (EntriesShort w) = sym f ∙ e in let z : l ≡ w = cc in (z, h, r))
      (λ h r f. let s : wrote k l ≡ Err (EntriesShort w) = sym f ∙ e in let z : ◌≡◌ {A = ℕ} 0 1 = cc in absurd (omega arith))
