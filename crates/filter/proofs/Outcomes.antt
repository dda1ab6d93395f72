-- The call's three outcomes: refused by the rows, refused for room, done. Assumes nothing.
use mathlib.Core.Path.{◌≡◌, refl, sym, ap, ◌∙◌, subst}
use mathlib.Core.List.{List, ◌++◌}
use Prim.Native.Nat.{ℕ, ◌*◌, ◌/◌, ◌≤◌, ◌<◌}
use borrow.Author.Tests.{lt-ltb, le-ltb}
use native.Mathlib.Omega.{arith}
use lib.ListN.{length, get_or, drop, replicate}
use Rattle.refusal.specs.Rows.{Gate}
use Rattle.std.specs.Prelude.{Ok, Err}
use Rattle.refusal.specs.declared.Refusal.{Refusal}
use Rattle.refusal.specs.declared.Refusal.TheVariants.{RecordsShort}
use Rattle.words.specs.Sorting.{equal}
use Rattle.words.proofs.Rank.{equal_le}
use Rattle.mesh.specs.Lists.{quad_words}
use Rattle.quads.specs.Call.{room_row, words_of}
use Rattle.filter.specs.Input.{Input, quad_count}
use Rattle.filter.specs.Marks.{kept_to, kept_of}
use Rattle.filter.specs.Call.{entry_gate, Outcome, outcome_by, Allowed}
use Rattle.filter.specs.Call.Allowed.{refused as by_rows, judged as by_marks}
use Rattle.filter.specs.inner.Steps.{Sound, Judged}
use Rattle.filter.proofs.Kept.{kept_count, kept_same}

-- the marks have room in a workspace that is long enough
pub front : (i : Input) (work mid : List ℕ) → quad_words (quad_count i) (length i.xs) ≤ length work → Judged i work mid → quad_count i ≤ length mid
front i work mid h j = omega (arith, j.len)

-- the count is a word, and where it is within the room, so are the quads
pub few : (i : Input) (mark : ℕ → ℕ) (n : ℕ) → Sound i → n ≡ equal mark (quad_count i) 0 → n < 4294967296
few i mark n s counted = omega (arith, equal_le mark 0 (quad_count i), s.few)

pub room : (quads : List ℕ) (mark : ℕ → ℕ) (m n words : ℕ) → n ≡ equal mark m 0 → n ≤ words / 4 → 4 * length (kept_to quads mark m) ≤ words
room quads mark m n words counted h = omega (arith, kept_count quads mark m)

module _ (i : Input) (work kept : List ℕ) (g : Gate) (entered : g ≡ entry_gate i (length work)) where
  pub refused : (why : Refusal) → g ≡ Err why → Allowed i work kept (record { answer = Err why; work = work; kept = kept })
  refused why e = by_rows why (sym entered ∙ e)

  -- where the rows are open, the marks stand at the front of mid, and n of them are 0
  module _ (through : g ≡ Ok tt) (mid : List ℕ) (j : Judged i work mid) (n : ℕ) (counted : n ≡ equal (λ (q : ℕ). get_or mid q 0) (quad_count i) 0) where
    same : kept_to i.quads (λ (q : ℕ). get_or mid q 0) (quad_count i) ≡ kept_of i j.marks
    unfolding kept_of
    same = kept_same i.quads i.quads (λ (q : ℕ). get_or mid q 0) (λ (q : ℕ). get_or j.marks q 0) (quad_count i) (λ k h. refl) j.held

    many : n ≡ length (kept_of i j.marks)
    many = counted ∙ kept_count i.quads (λ (q : ℕ). get_or mid q 0) (quad_count i) ∙ ap length same

    all : Allowed i work kept (outcome_by (room_row (length kept) (length (kept_of i j.marks))) (kept_of i j.marks) work kept)
    all = by_marks (sym entered ∙ through) j.marks j.marked

    pub short : (after : List ℕ) → length kept / 4 < n → after ≡ replicate (length mid) 0 → Allowed i work kept (record { answer = Err (RecordsShort n); work = after; kept = kept })
    short after h zeroed =
        let o : ◌≡◌ {A = Outcome} (outcome_by (room_row (length kept) (length (kept_of i j.marks))) (kept_of i j.marks) work kept) (record { answer = Err (RecordsShort n); work = after; kept = kept }) =
        rw (← many, lt-ltb (length kept / 4) n h, zeroed, j.len) in
        subst (Allowed i work kept) o all

    pub done : (after full : List ℕ) → n ≤ length kept / 4
        → full ≡ words_of (kept_to i.quads (λ (q : ℕ). get_or mid q 0) (quad_count i)) ++ drop (4 * length (kept_to i.quads (λ (q : ℕ). get_or mid q 0) (quad_count i))) kept
        → after ≡ replicate (length mid) 0 → Allowed i work kept (record { answer = Ok n; work = after; kept = full })
    done after full h wrote zeroed =
        let o : ◌≡◌ {A = Outcome} (outcome_by (room_row (length kept) (length (kept_of i j.marks))) (kept_of i j.marks) work kept) (record { answer = Ok n; work = after; kept = full }) =
        rw (wrote, same, many, le-ltb (length kept / 4) (length (kept_of i j.marks)) (omega (arith, many, h)), zeroed, j.len) in
        subst (Allowed i work kept) o all
