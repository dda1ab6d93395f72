-- Quad by quad: where the quads below s are judged, and quad s is then settled by its two runs, those below s + 1 are judged. Assumes
-- nothing.
use mathlib.Core.Path.{◌≡◌, sym, ◌∙◌}
use mathlib.Core.List.{List}
use Prim.Native.Nat.{ℕ, ◌+◌, ◌*◌, ◌-◌, ◌≤◌, ◌<◌}
use native.Mathlib.Decide.{ℕ_discrete}
use native.Mathlib.Omega.{arith}
use lib.ListN.{get_or}
use Rattle.words.specs.inner.Order.{word_of}
use Rattle.words.specs.inner.Regions.{Outside}
use Rattle.cells.specs.Counted.{Exactly}
use Rattle.cells.proofs.Counted.{exactly_same}
use Rattle.fates.specs.declared.LabelParams.{LabelParams}
use Rattle.fates.specs.declared.Runs.{Runs}
use Rattle.fates.specs.inner.Fates.{fates_at, records_at, walked_at, lone_at, fate_of, walked_of}
use Rattle.fates.specs.inner.Index.{Stretch, index_at}
use Rattle.fates.specs.inner.Judging.{Begins, Spacious, Verdict, Settled, Ruled, Judges, Tabled}
use Rattle.fates.proofs.Claims.{word_from_lem}
use Rattle.fates.proofs.Stretches.{same_stretch, same_begins}
use Rattle.fates.proofs.Stored.{stored_len, elsewhere, fate_there, lone_at_lem, lone_count, all_at, all_count}

module _ (span n : ℕ) (params : LabelParams) (all m : ℕ) (xs : List ℕ) (T : Tabled span n all m xs) where
  module _ (s : ℕ) (ys : List ℕ) (J : Judges span n params all m s xs ys) where
    -- the records are no words of the quads
    pub same_all : s ≤ n → (k i : ℕ) → k < all → i < 2 → word_of ys (records_at span n) i k ≡ word_of xs (records_at span n) i k
    same_all l k i h b = J.rest (records_at span n + 2 * k + i) (λ j p e. omega arith) (λ j p e. omega arith) (λ j p e. omega (arith, T.few_all))

    pub same_lone : s ≤ n → (k i : ℕ) → k < m → i < 2 → word_of ys (lone_at span) i k ≡ word_of xs (lone_at span) i k
    same_lone l k i h b = J.rest (lone_at span + 2 * k + i) (λ j p e. omega (arith, T.few_lone)) (λ j p e. omega (arith, T.few_lone)) (λ j p e. omega (arith, T.few_lone))

    pub spacious : s < n → Spacious span n s ys
    spacious h = record { room = omega (arith, J.len, T.room); few = T.few; most = T.most; small = h }

    pub all_back : s ≤ n → {from to : ℕ} → Stretch ys (records_at span n) all s from to → Stretch xs (records_at span n) all s from to
    all_back l r = same_stretch ys xs (records_at span n) all (λ k i h b. sym (same_all l k i h b)) r

    pub lone_back : s ≤ n → {from to : ℕ} → Stretch ys (lone_at span) m s from to → Stretch xs (lone_at span) m s from to
    lone_back l r = same_stretch ys xs (lone_at span) m (λ k i h b. sym (same_lone l k i h b)) r

  -- two runs, as numbers
  abbrev pub runs_of : (i after j lone_after : ℕ) → Runs
  runs_of i after j lone_after = record { lone = record { at = lone_at span + 2 * j; count = lone_after - j }; all = record { at = records_at span n + 2 * i; count = after - i } }

  module _ (s : ℕ) (ys : List ℕ) (J : Judges span n params all m s xs ys) (h : s < n) (i after j lone_after : ℕ) (A : Stretch ys (records_at span n) all s i after) (B : Stretch ys (lone_at span) m s j lone_after) where
    module _ (zs : List ℕ) (S : Settled span n params s (runs_of i after j lone_after) ys zs) where
      abbrev runs : Runs
      runs = runs_of i after j lone_after

      R : Spacious span n s ys
      R = spacious s ys J h

      -- the words of the run are the same in both lists
      same_run : (k c : ℕ) → k < after - i → c < 2 → word_of xs runs.all.at c k ≡ word_of ys runs.all.at c k
      same_run k c l b = word_from_lem xs (records_at span n) c i k ∙ sym (same_all s ys J (omega arith) (i + k) c (omega (arith, A.up, A.most)) b) ∙ sym (word_from_lem ys (records_at span n) c i k)

      counted : Exactly (Begins xs runs.all.at runs.all.count) S.verdict.claims
      counted = exactly_same (Begins ys runs.all.at runs.all.count) (Begins xs runs.all.at runs.all.count) (λ k b. same_begins ys xs runs.all.at runs.all.count same_run k b) (λ k b. same_begins xs ys runs.all.at runs.all.count (λ j c l d. sym (same_run j c l d)) k b) S.verdict.counted

      same_size : fate_of span n ys s ≡ fate_of span n xs s
      same_size = J.rest (fates_at span n + s) (λ t l e. omega arith) (λ t l e. omega arith) (λ t l e. omega arith)

      same_reach : walked_of span n ys s ≡ walked_of span n xs s
      same_reach = J.rest (walked_at span n + s) (λ t l e. omega arith) (λ t l e. omega arith) (λ t l e. omega arith)

      verdict : Verdict span n params s runs xs S.fate
      verdict = record { claims = S.verdict.claims; counted = counted; falls = rw (same_size, same_reach) at S.verdict.falls }

      word : (k : ℕ) → (k ≡ fates_at span n + s → ⊥) → (k ≡ walked_at span n + s → ⊥) → Outside (index_at span n s) 4 k → get_or zs k 0 ≡ get_or ys k 0
      word k f w o = rw S.is (elsewhere span n s S.fate runs ys R k f w o)

      own : Ruled span n params all m xs zs s
      own = rw S.is (record {
        lone = record { from = j; to = lone_after; stretch = lone_back s ys J (omega arith) B; at = lone_at_lem span n s S.fate runs ys R; count = lone_count span n s S.fate runs ys R };
        all_run = record { from = i; to = after; stretch = all_back s ys J (omega arith) A; at = all_at span n s S.fate runs ys R; count = all_count span n s S.fate runs ys R };
        verdict = rw (lone_at_lem span n s S.fate runs ys R, lone_count span n s S.fate runs ys R, all_at span n s S.fate runs ys R, all_count span n s S.fate runs ys R, fate_there span n s S.fate runs ys R) verdict;
      })

      before : (q : ℕ) → q < s → Ruled span n params all m xs zs q
      before q l =
          let f : fate_of span n zs q ≡ fate_of span n ys q = word (fates_at span n + q) (λ e. omega arith) (λ e. omega arith) (λ t b e. omega arith) in
          let w : walked_of span n zs q ≡ walked_of span n ys q = word (walked_at span n + q) (λ e. omega arith) (λ e. omega arith) (λ t b e. omega arith) in
          let a : get_or zs (index_at span n q) 0 ≡ get_or ys (index_at span n q) 0 = word (index_at span n q) (λ e. omega arith) (λ e. omega arith) (λ t b e. omega arith) in
          let b : get_or zs (index_at span n q + 1) 0 ≡ get_or ys (index_at span n q + 1) 0 = word (index_at span n q + 1) (λ e. omega arith) (λ e. omega arith) (λ t b e. omega arith) in
          let c : get_or zs (index_at span n q + 2) 0 ≡ get_or ys (index_at span n q + 2) 0 = word (index_at span n q + 2) (λ e. omega arith) (λ e. omega arith) (λ t b e. omega arith) in
          let d : get_or zs (index_at span n q + 3) 0 ≡ get_or ys (index_at span n q + 3) 0 = word (index_at span n q + 3) (λ e. omega arith) (λ e. omega arith) (λ t b e. omega arith) in
          let r = J.ruled q l in
          record { lone = rw (a, b) r.lone; all_run = rw (c, d) r.all_run; verdict = rw (a, b, c, d, f, w) r.verdict }

      pub judges_more : Judges span n params all m (s + 1) xs zs
      judges_more = record {
        len = rw S.is (stored_len span n s S.fate runs ys R) ∙ J.len;
        rest = λ k o f w. word k (f s (omega arith)) (w s (omega arith)) (λ t l e. o (4 * s + t) (omega arith) (omega arith)) ∙ J.rest k (λ t l. o t (omega arith)) (λ t l. f t (omega arith)) (λ t l. w t (omega arith));
        ruled = λ q l. by q l (ℕ_discrete q s);
      }
        where
          by : (q : ℕ) → q < s + 1 → Dec (q ≡ s) → Ruled span n params all m xs zs q
          by q l (yes e) = rw e own
          by q l (no e) = before q (omega (arith, e))
