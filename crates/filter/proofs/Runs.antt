-- Runs of one group where groups ascend: the medians of the first s records become those of the first e when the middle one of the
-- lengths of the run from s up to e is stored at its group. Assumes nothing.
use mathlib.Core.Path.{◌≡◌, sym, ap, ◌∙◌}
use mathlib.Core.List.{List}
use Prim.Native.Nat.{ℕ, ◌+◌, ◌*◌, ◌-◌, ◌≤◌, ◌<◌}
use native.Mathlib.Decide.{dec_lt}
use native.Mathlib.Omega.{arith}
use lib.ListN.{length, get_or, set, length-set}
use lib.Seq.{get_or-set_same, get_or-set_other}
use borrow.Rule.Slice.PartMut.{mid_of, put_mid, mid_len}
use Rattle.words.specs.inner.Order.{word_of}
use Rattle.words.specs.inner.Regions.{Outside, Kept}
use Rattle.words.specs.inner.Middle.{Middle, word_in}
use Rattle.words.proofs.Regions.{part_at, part_kept}
use Rattle.words.proofs.Counting.{middle_same}
use Rattle.filter.specs.inner.Layout.{records_at, gathered_at, medians_at}
use Rattle.filter.specs.inner.Steps.{Run, MedianAt, Rising, Centred}

-- the place after a run has a higher group than all before it
run_next : {group : ℕ → ℕ} {m s e : ℕ} → Run group m s e → (k : ℕ) → k < e → e < m → group k < group e
run_next {group} {m} {s} {e} r k h l = go (dec_lt k s)
  where
    go : Dec (k < s) → group k < group e
    go (yes y) = omega (arith, r.before k y, r.after e (omega arith) l)
    go (no y) = omega (arith, r.alike k (omega arith) h, r.after e (omega arith) l)

run_same : {f g : ℕ → ℕ} {m s e : ℕ} → ((k : ℕ) → k < m → f k ≡ g k) → Run f m s e → Run g m s e
run_same {f} {g} {m} {s} {e} same r = record {
  some = r.some;
  within = r.within;
  alike = λ k h l. sym (same k (omega (arith, r.within))) ∙ r.alike k h l ∙ at;
  before = λ k h. omega (arith, r.before k h, same k (omega (arith, r.some, r.within)), at);
  after = λ k h l. omega (arith, r.after k h l, same k l, at);
}
  where
    at : f s ≡ g s
    at = same s (omega (arith, r.some, r.within))

-- ---- the medians

-- no record has moved
records_kept : {n m : ℕ} {xs ys : List ℕ} → Centred n m xs ys → (c k : ℕ) → c < 2 → k < n → word_of ys (records_at n) c k ≡ word_of xs (records_at n) c k
records_kept {n} q c k h l = q.rest (records_at n + 2 * k + c) (λ j b e. omega arith) (λ j b e. omega arith)

-- a group before the run keeps its median, since it is lower
median_earlier : {n : ℕ} {xs ys zs : List ℕ} {k : ℕ} → get_or zs (medians_at n + word_of xs (records_at n) 1 k) 0 ≡ get_or ys (medians_at n + word_of xs (records_at n) 1 k) 0 → MedianAt n xs ys k → MedianAt n xs zs k
median_earlier {n} {xs} e m = record { s = m.s; e = m.e; run = m.run; from = m.from; to = m.to; is = rw e m.is }

-- ---- the loop: the medians of the first s records are written, the lengths from there on have not moved, and a run begins at s

pub record RunsTo (n s : ℕ) (xs ys : List ℕ) : Type 0 where
  pub within : s ≤ n
  pub centred : Centred n s xs ys
  pub ahead : (j : ℕ) → 4 * s ≤ j → j < 4 * n → get_or ys (gathered_at n + j) 0 ≡ get_or xs (gathered_at n + j) 0
  pub begins : (k : ℕ) → k < s → s < n → word_of xs (records_at n) 1 k < word_of xs (records_at n) 1 s

group_small : {n s : ℕ} {xs ys : List ℕ} → Rising n xs → RunsTo n s xs ys → s < n → word_of ys (records_at n) 1 s < n
group_small {n} {s} rising t l = omega (arith, rising.small s l, records_kept t.centred 1 s (omega arith) l)

-- where a run's lengths stand
abbrev run_at : ℕ → ℕ → ℕ
run_at n s = gathered_at n + 4 * s

-- the run from s up to e, whose lengths were lent and came back as part, and the median b that was found of them
module _ {n s e : ℕ} {xs ys : List ℕ} (part : List ℕ) (g b : ℕ) (rising : Rising n xs) (t : RunsTo n s xs ys) (room : medians_at n + n ≤ length xs) (run : Run (word_of ys (records_at n) 1) n s e) (group : g ≡ word_of ys (records_at n) 1 s)
    (lent : length part ≡ length (mid_of (run_at n s) (run_at n e - run_at n s) ys)) (found : Middle (word_in (mid_of (run_at n s) (run_at n e - run_at n s) ys)) (length (mid_of (run_at n s) (run_at n e - run_at n s) ys)) b) where
  abbrev back : List ℕ
  back = put_mid (run_at n s) (run_at n e - run_at n s) ys part

  abbrev after : List ℕ
  after = set back (medians_at n + g) b

  at : s < n
  at = omega (arith, run.some, run.within)

  ordered : run_at n s ≤ run_at n e
  ordered = omega (arith, run.some)

  inside : run_at n e ≤ length ys
  inside = omega (arith, run.within, t.centred.len)

  size : length (mid_of (run_at n s) (run_at n e - run_at n s) ys) ≡ run_at n e - run_at n s
  size = mid_len (run_at n s) (run_at n e) ys inside

  kept : Kept ys back (run_at n s) (run_at n e - run_at n s)
  kept = part_kept ys part (run_at n s) (run_at n e) ordered inside (lent ∙ size)

  small : g < n
  small = omega (arith, group, group_small rising t at)

  group_is : g ≡ word_of xs (records_at n) 1 s
  group_is = group ∙ records_kept t.centred 1 s (omega arith) at

  r : Run (word_of xs (records_at n) 1) n s e
  r = run_same (λ k h. records_kept t.centred 1 k (omega arith) h) run

  stored_lt : medians_at n + g < length back
  stored_lt = omega (arith, small, kept.len, t.centred.len)

  -- what is neither in the run nor the median's place is as it was
  still : (k : ℕ) → Outside (run_at n s) (run_at n e - run_at n s) k → (k ≡ medians_at n + g → ⊥) → get_or after k 0 ≡ get_or ys k 0
  still k o m = get_or-set_other back (medians_at n + g) k b 0 m ∙ kept.rest k o

  found_here : Middle (λ (j : ℕ). get_or xs (gathered_at n + (4 * s + j)) 0) (4 * (e - s)) b
  found_here = let len : 4 * (e - s) ≡ length (mid_of (run_at n s) (run_at n e - run_at n s) ys) = omega (arith, size, run.some) in rw len (middle_same (λ j h. sym (was j (omega (arith, len)))) found)
    where
      was : (j : ℕ) → j < 4 * (e - s) → get_or (mid_of (run_at n s) (run_at n e - run_at n s) ys) j 0 ≡ get_or xs (gathered_at n + (4 * s + j)) 0
      was j h =
          part_at ys (run_at n s) (run_at n e) j (omega arith)
          ∙ ap (λ (i : ℕ). get_or ys i 0) (omega arith) ∙ t.ahead (4 * s + j) (omega arith) (omega (arith, run.within))

  median_here : (k : ℕ) → s ≤ k → k < e → MedianAt n xs after k
  median_here k from to =
      let same : word_of xs (records_at n) 1 k ≡ g = r.alike k from to ∙ sym group_is in
      record { s = s; e = e; run = r; from = from; to = to; is = rw (same, get_or-set_same back (medians_at n + g) b 0 stored_lt) found_here }

  median_all : (k : ℕ) → k < e → Dec (k < s) → MedianAt n xs after k
  median_all k h (yes l) = median_earlier (still _ (λ j m i. omega (arith, run.within)) (λ i. omega (arith, group_is, r.before k l))) (t.centred.medians k l)
  median_all k h (no l) = median_here k (omega arith) h

  pub runs_more : RunsTo n e xs after
  runs_more = record {
    within = run.within;
    centred = record {
      len = length-set back (medians_at n + g) b ∙ kept.len ∙ t.centred.len;
      rest = λ k o u. still k (λ j l i. o (4 * s + j) (omega (arith, run.within)) (omega arith)) (λ i. u g small i) ∙ t.centred.rest k o u;
      medians = λ k h. median_all k h (dec_lt k s);
    };
    ahead = λ j h l. still (gathered_at n + j) (λ i m k. omega arith) (λ i. omega arith) ∙ t.ahead j (omega (arith, run.some)) l;
    begins = run_next r;
  }
