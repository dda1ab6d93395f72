-- Taking marks and words away: quad by quad along the queue, until the workspace is blank. Assumes nothing.
use mathlib.Core.Path.{◌≡◌, sym, ap, ◌∙◌}
use mathlib.Core.List.{List}
use Prim.Native.Nat.{ℕ, ◌+◌, ◌*◌, ◌%◌, ◌≤◌, ◌<◌}
use native.Mathlib.Decide.{ℕ_discrete}
use native.Mathlib.Omega.{arith}
use lib.ListN.{length, get_or, set, length-set}
use Rattle.cells.specs.Cells.{cell}
use Rattle.laying.specs.inner.Layout.{mark, queued, first_word, second_word}
use Rattle.laying.specs.inner.Invariant.{Cover}
use Rattle.laying.specs.inner.Settling.{Bears}
use Rattle.laying.specs.inner.Answers.{Wiped, Cleared}
use Rattle.laying.proofs.Around.{same_corner}
use Rattle.laying.proofs.Counts.{eq_or_lt}
use Rattle.laying.proofs.Settling.{skip, put}

zero_set : (l : List ℕ) (i j : ℕ) → i < length l → get_or l j 0 ≡ 0 → get_or (set l i 0) j 0 ≡ 0
zero_set l i j h z = go (ℕ_discrete j i)
  where
    go : Dec (j ≡ i) → get_or (set l i 0) j 0 ≡ 0
    go (yes e) = rw e (put l i 0 h)
    go (no n) = skip l i 0 j n ∙ z

-- ---- the corners of one quad

-- the words of the first k corners of q are taken away
pub record Bared (span : ℕ) (cells xs ys : List ℕ) (q k : ℕ) : Type 0 where
  pub len : length ys ≡ length xs
  pub low : (i : ℕ) → i < 2 * span → get_or ys i 0 ≡ get_or xs i 0
  pub high : (i : ℕ) → 4 * span ≤ i → get_or ys i 0 ≡ get_or xs i 0
  pub zero : (i : ℕ) → get_or xs i 0 ≡ 0 → get_or ys i 0 ≡ 0
  pub gone : (j : ℕ) → j < k → Bears span ys (cell 4 cells q j) 0 0

-- with the mark taken away first
pub wiped : {span : ℕ} {cells xs ys : List ℕ} {n q : ℕ} → Bared span cells (set xs q 0) ys q 4 → q < n → n ≤ span → 4 * span ≤ length xs → Wiped span cells n xs ys q
wiped {span} {cells} {xs} {ys} {n} {q} b l f h =
    let w : q < length xs = omega arith in
    record {
      len = b.len ∙ length-set xs q 0;
      middle = λ k a c. b.low k c ∙ skip xs q 0 k (omega arith);
      high = λ k a. b.high k a ∙ skip xs q 0 k (omega arith);
      zero = λ k z. b.zero k (zero_set xs q k w z);
      gone = b.low q (omega arith) ∙ put xs q 0 w;
      first = λ k. ap (λ (c : ℕ). first_word span ys c) (same_corner cells q k (k % 4) (omega arith)) ∙ (b.gone (k % 4) (omega arith)).first;
      second = λ k. ap (λ (c : ℕ). second_word span ys c) (same_corner cells q k (k % 4) (omega arith)) ∙ (b.gone (k % 4) (omega arith)).second;
    }

-- ---- the queue

-- the first i of the queue are wiped
pub record Clearing (span : ℕ) (cells : List ℕ) (n : ℕ) (xs ys : List ℕ) (i : ℕ) : Type 0 where
  pub len : length ys ≡ length xs
  pub middle : (k : ℕ) → n ≤ k → k < 2 * span → get_or ys k 0 ≡ get_or xs k 0
  pub high : (k : ℕ) → 4 * span ≤ k → get_or ys k 0 ≡ get_or xs k 0
  pub zero : (k : ℕ) → get_or xs k 0 ≡ 0 → get_or ys k 0 ≡ 0
  pub gone : (j : ℕ) → j < i → mark ys (queued span xs j) ≡ 0
  pub first : (j : ℕ) → j < i → (k : ℕ) → first_word span ys (cell 4 cells (queued span xs j) k) ≡ 0
  pub second : (j : ℕ) → j < i → (k : ℕ) → second_word span ys (cell 4 cells (queued span xs j) k) ≡ 0

pub clearing_more : {span : ℕ} {cells : List ℕ} {n : ℕ} {xs ys zs : List ℕ} {i : ℕ} (q : ℕ) → Clearing span cells n xs ys i → Wiped span cells n ys zs q → n ≤ span → i < span → q ≡ queued span ys i → Clearing span cells n xs zs (i + 1)
clearing_more {span} {cells} {n} {xs} {ys} {zs} {i} q c w h l e =
    let f : q ≡ queued span xs i = e ∙ c.middle (span + i) (omega arith) (omega arith) in
    record {
      len = w.len ∙ c.len;
      middle = λ k a b. w.middle k a b ∙ c.middle k a b;
      high = λ k a. w.high k a ∙ c.high k a;
      zero = λ k z. w.zero k (c.zero k z);
      gone = eq_or_lt (λ (j : ℕ). mark zs (queued span xs j) ≡ 0) i (rw (← f) w.gone) (λ j s. w.zero (queued span xs j) (c.gone j s));
      first = eq_or_lt (λ (j : ℕ). (k : ℕ) → first_word span zs (cell 4 cells (queued span xs j) k) ≡ 0) i (rw (← f) w.first) (λ j s k. w.zero (2 * span + cell 4 cells (queued span xs j) k) (c.first j s k));
      second = eq_or_lt (λ (j : ℕ). (k : ℕ) → second_word span zs (cell 4 cells (queued span xs j) k) ≡ 0) i (rw (← f) w.second) (λ j s k. w.zero (3 * span + cell 4 cells (queued span xs j) k) (c.second j s k));
    }

-- where the queue's quads have no marks and their corners no words, none has
module _ {span : ℕ} {cells : List ℕ} {n : ℕ} {xs : List ℕ} {tail : ℕ} (ys : List ℕ) (v : Cover span cells n xs tail) where
  pub marks_gone : ((q : ℕ) → q < n → mark xs q ≡ 0 → mark ys q ≡ 0) → ((j : ℕ) → j < tail → mark ys (queued span xs j) ≡ 0) → (q : ℕ) → q < n → mark ys q ≡ 0
  marks_gone zero gone q l = go (ℕ_discrete (mark xs q) 0)
    where
      go : Dec (mark xs q ≡ 0) → mark ys q ≡ 0
      go (yes z) = zero q l z
      go (no m) = let o = v.waits q l m in ap (mark ys) (sym o.is) ∙ gone o.at o.small

  pub firsts_gone : ((c : ℕ) → c < span → first_word span xs c ≡ 0 → first_word span ys c ≡ 0) → ((j : ℕ) → j < tail → (k : ℕ) → first_word span ys (cell 4 cells (queued span xs j) k) ≡ 0)
      → (c : ℕ) → c < span → first_word span ys c ≡ 0
  firsts_gone zero gone c l = go (ℕ_discrete (first_word span xs c) 0)
    where
      go : Dec (first_word span xs c ≡ 0) → first_word span ys c ≡ 0
      go (yes z) = zero c l z
      go (no m) = let o = v.first c l m in ap (first_word span ys) (sym o.is) ∙ gone o.at o.small o.place

pub cleared : {span : ℕ} {cells : List ℕ} {n : ℕ} {xs ys : List ℕ} {tail i : ℕ} → Cover span cells n xs tail → Clearing span cells n xs ys i → tail ≤ i → Cleared span n xs ys
cleared {span} {cells} {n} {xs} {ys} {tail} {i} v c h = record {
  len = c.len;
  middle = c.middle;
  high = c.high;
  blank = record {
    marks = marks_gone ys v (λ q l z. c.zero q z) (λ j l. c.gone j (omega arith));
    first = firsts_gone ys v (λ k l z. c.zero (2 * span + k) z) (λ j l. c.first j (omega arith));
    second = λ k l. seconds k l (ℕ_discrete (second_word span xs k) 0);
  };
}
  where
    seconds : (k : ℕ) → k < span → Dec (second_word span xs k ≡ 0) → second_word span ys k ≡ 0
    seconds k l (yes z) = c.zero (3 * span + k) z
    seconds k l (no m) =
        let o = v.second k l m in
        ap (λ (t : ℕ). second_word span ys t) (sym o.is) ∙ c.second o.at (omega (arith, o.small)) o.place
