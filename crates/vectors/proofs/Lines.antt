-- The lines' counts: a refusal's line is as long as its parts, a number's as its digits and the bytes round them, a run that is told adds
-- one to the runs. Assumes nothing.
use mathlib.Core.Bool.{Bool, true, false, cond}
use mathlib.Core.Path.{◌≡◌, refl, sym, ap, ◌∙◌, subst}
use mathlib.Core.List.{List, []}
use Prim.Native.Nat.{ℕ, zero, suc, ◌+◌, ◌-◌, ◌≤◌, ◌<◌}
use native.Mathlib.Decide.{ℕ_discrete}
use native.Mathlib.Omega.{arith}
use borrow.Author.Tests.{eq-eqb, ne_eqb}
use lib.ListN.{length, get_or, length-append}
use Rattle.io.specs.Digits.{IsDigitCount}
use Rattle.refusal.specs.declared.Refusal.{Refusal}
use Rattle.refusal.specs.Table.{number_of, beside_of, has_beside}
use Rattle.digits.specs.Digits.{decimal_of}
use Rattle.digits.proofs.Places.{places, fewest, one_fewest, word_places}
use Rattle.vectors.specs.Hex.{field_of, refusal_front, beside_field, refusal_line}
use Rattle.vectors.specs.inner.Lines.{count_line, counts_line, begins_at, runs_to, runs_of, Run}

-- ---- a refusal

pub beside_none : (why : Refusal) → has_beside (number_of why) ≡ false → [] ≡ beside_field why
beside_none why e = ap (λ (has : Bool). cond has (field_of (beside_of why)) []) (sym e)

pub beside_some : (why : Refusal) → has_beside (number_of why) ≡ true → field_of (beside_of why) ≡ beside_field why
beside_some why e = ap (λ (has : Bool). cond has (field_of (beside_of why)) []) (sym e)

pub refusal_length : (why : Refusal) {j k : ℕ} → j ≡ length (refusal_front why) → k ≡ length (beside_field why) → j + k + 1 ≡ length (refusal_line why)
unfolding refusal_line
refusal_length why e f = simp length-append (omega (arith, e, f))

-- ---- numbers

-- a word takes ten digits at most
pub few_places : (n k : ℕ) → n < 4294967296 → IsDigitCount 10 1 n k → k ≤ 10
few_places n k h f = rw (one_fewest n k (places n) f (fewest n)) (word_places n h)

pub count_length : (count : ℕ) {k : ℕ} → k ≡ length (decimal_of count) → k + 6 ≡ length (count_line count)
unfolding count_line
count_length count e = simp length-append (omega (arith, e))

pub counts_length : (first second : ℕ) {j k : ℕ} → j ≡ length (decimal_of first) → k ≡ length (decimal_of second) → j + k + 7 ≡ length (counts_line first second)
unfolding counts_line
counts_length first second e f = simp length-append (omega (arith, e, f))

-- ---- runs

-- at a place after the first, the same word as before begins no run, and another does
begins_same : (list : List ℕ) (k : ℕ) → get_or list (suc k) 0 ≡ get_or list k 0 → begins_at list (suc k) ≡ 0
unfolding begins_at
begins_same list k e = rw (eq-eqb _ _ e)

begins_other : (list : List ℕ) (k : ℕ) → (get_or list (suc k) 0 ≡ get_or list k 0 → ⊥) → begins_at list (suc k) ≡ 1
unfolding begins_at
begins_other list k n = rw (ne_eqb _ _ n)

module _ {list : List ℕ} {from end : ℕ} (run : Run list from end) where
  begins_next : end < length list → begins_at list end ≡ 1
  begins_next l = go end refl
    where
      go : (e : ℕ) → e ≡ end → begins_at list e ≡ 1
      go zero q = absurd (omega (arith, run.after))
      go (suc k) q = begins_other list k (λ s. run.other l (subst (λ (j : ℕ). get_or list j 0 ≡ get_or list from 0) q (s ∙ run.same k (omega (arith, run.after)) (omega arith))))

  runs_first : begins_at list from ≡ 1 → (j : ℕ) → j ≡ from → runs_to list (suc j) ≡ runs_to list from + 1
  unfolding runs_to
  runs_first b j e = rw (e, b)

  runs_step : (i : ℕ) → from ≤ i → suc i < end → runs_to list (suc i) ≡ runs_to list from + 1 → runs_to list (suc (suc i)) ≡ runs_to list from + 1
  unfolding runs_to
  runs_step i h l e = rw (begins_same list i (run.same (suc i) (omega arith) l ∙ sym (run.same i h (omega arith)))) (omega (arith, e))

  runs_in : begins_at list from ≡ 1 → (j : ℕ) → from ≤ j → j < end → runs_to list (suc j) ≡ runs_to list from + 1
  runs_in b zero h l = runs_first b zero (omega arith)
  runs_in b (suc i) h l = go (ℕ_discrete (suc i) from) (λ k. runs_in b i k (omega arith))
    where
      go : Dec (suc i ≡ from) → (from ≤ i → runs_to list (suc i) ≡ runs_to list from + 1) → runs_to list (suc (suc i)) ≡ runs_to list from + 1
      go (yes e) less = runs_first b (suc i) e
      go (no n) less = let k : from ≤ i = omega (arith, n) in runs_step i k l (less k)

  runs_more : begins_at list from ≡ 1 → runs_to list end ≡ runs_to list from + 1
  runs_more b =
      let a = run.after in
      let e : suc (end - 1) ≡ end = omega arith in
      subst (λ (j : ℕ). runs_to list j ≡ runs_to list from + 1) e (runs_in b (end - 1) (omega arith) (omega arith))

-- so many runs are told before `at`, where the next begins or the list ends
pub record Told (list : List ℕ) (runs at : ℕ) : Type 0 where
  pub within : at ≤ length list
  pub few : runs ≤ at
  pub count : runs ≡ runs_to list at
  pub begins : at < length list → begins_at list at ≡ 1

pub told_none : (list : List ℕ) → Told list 0 0
unfolding runs_to begins_at
told_none list = record { within = omega arith; few = omega arith; count = refl; begins = λ l. refl }

pub told_more : {list : List ℕ} {runs at end : ℕ} → Told list runs at → Run list at end → Told list (runs + 1) end
told_more {list} {runs} {at} {end} told run =
    let a = run.after in record {
      within = run.within;
      few = omega (arith, told.few);
      count = ap (λ (n : ℕ). n + 1) told.count ∙ sym (runs_more run (told.begins (omega (arith, run.within))));
      begins = begins_next run;
    }

pub told_all : {list : List ℕ} {runs at : ℕ} → Told list runs at → length list ≤ at → runs ≡ runs_of list
told_all {list} {runs} {at} told h =
    let e : at ≡ length list = omega (arith, told.within) in
    told.count ∙ ap (runs_to list) e

-- from `from` up to i stands one word
pub record Passed (list : List ℕ) (from i : ℕ) : Type 0 where
  pub after : from < i
  pub within : i ≤ length list
  pub same : (k : ℕ) → from ≤ k → k < i → get_or list k 0 ≡ get_or list from 0

pub passed_first : (list : List ℕ) (from : ℕ) → from < length list → Passed list from (from + 1)
passed_first list from h = record {
  after = omega arith;
  within = omega arith;
  same = λ k a b. let e : k ≡ from = omega arith in ap (λ (j : ℕ). get_or list j 0) e;
}

pub passed_more : {list : List ℕ} {from i : ℕ} → Passed list from i → i < length list → get_or list i 0 ≡ get_or list from 0 → Passed list from (i + 1)
passed_more {list} {from} {i} p h e = record { after = omega (arith, p.after); within = omega arith; same = λ k a b. go k a b (ℕ_discrete k i) }
  where
    go : (k : ℕ) → from ≤ k → k < i + 1 → Dec (k ≡ i) → get_or list k 0 ≡ get_or list from 0
    go k a b (yes q) = ap (λ (j : ℕ). get_or list j 0) q ∙ e
    go k a b (no n) = p.same k a (omega (arith, n))

-- what is passed is a run where another word follows, or none
pub passed_run : {list : List ℕ} {from i : ℕ} → Passed list from i → (i < length list → get_or list i 0 ≡ get_or list from 0 → ⊥) → Run list from i
passed_run p n = record { after = p.after; within = p.within; same = p.same; other = n }
