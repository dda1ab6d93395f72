-- The queue is drained: corner by corner of a quad, and quad by quad, words become records, until marks and words are blank. What a
-- labelling left is then one record for each reached corner. Assumes nothing.
use mathlib.Core.Path.{◌≡◌, refl, ap, ◌∙◌}
use mathlib.Core.Logic.{◌≢◌}
use mathlib.Core.List.{List}
use Prim.Native.Nat.{ℕ, ◌+◌, ◌*◌, ◌%◌, ◌≤◌, ◌<◌}
use native.Mathlib.Decide.{ℕ_discrete, dec_lt}
use native.Mathlib.Omega.{arith}
use lib.ListN.{length, set}
use lib.Seq.{get_or-set_same}
use Rattle.cells.specs.Cells.{cell}
use Rattle.cells.specs.Kind.{ReachedCorner}
use Rattle.cells.specs.Quads.{quads}
use Rattle.mesh.specs.Lists.{most_quads}
use Rattle.laying.specs.inner.Layout.{Near, mark, queued, first_word, second_word, pair_of, Given}
use Rattle.laying.specs.inner.Invariant.{Cover}
use Rattle.laying.specs.inner.Answers.{Fitted}
use Rattle.fates.specs.inner.Fates.{records_at, seed_in, corner_in, Holding}
use Rattle.fates.specs.inner.Gathering.{Worded, Copied, Recorded, Drawn, Emptied, Taken}
use Rattle.laying.proofs.Around.{same_corner}
use Rattle.laying.proofs.Counts.{eq_or_lt}
use Rattle.laying.proofs.Facing.{corner_below, reached_below}
use Rattle.laying.proofs.Wiping.{marks_gone, firsts_gone}
use Rattle.fates.proofs.Drawing.{drawn_mark, drawn_on}

-- ---- a quad

-- the first k corners of q have no words
pub record Stripped (span : ℕ) (cells : List ℕ) (n seed : ℕ) (xs ys : List ℕ) (m r q k : ℕ) : Type 0 where
  pub drawn : Drawn span n seed xs ys m r
  pub few : r ≤ m + k
  pub words : (j : ℕ) → j < k → first_word span ys (cell 4 cells q j) ≡ 0

pub stripped_more : {span : ℕ} {cells : List ℕ} {n seed : ℕ} {xs ys zs : List ℕ} {m r s q k : ℕ} (c : ℕ) → Given span cells n → q < n → Stripped span cells n seed xs ys m r q k → Drawn span n seed ys zs r s → s ≤ r + 1 → c ≡ cell 4 cells q k → first_word span zs c ≡ 0
    → Stripped span cells n seed xs zs m s q (k + 1)
stripped_more {span} {cells} {zs = zs} {q = q} {k} c given hq t d few e z = record {
  drawn = drawn_on t.drawn d;
  few = omega (arith, t.few);
  words = eq_or_lt (λ (j : ℕ). first_word span zs (cell 4 cells q j) ≡ 0) k (rw (← e) z) (λ j h. d.zero (2 * span + cell 4 cells q j) (omega (arith, corner_below given q j hq)) (t.words j h));
}

pub emptied : {span : ℕ} {cells : List ℕ} {n seed : ℕ} {xs ys : List ℕ} {m r q : ℕ} → Given span cells n → q < n → 4 * span ≤ length xs → Stripped span cells n seed (set xs q 0) ys m r q 4 → Emptied span cells n seed xs ys m r q
emptied {span} {cells} {n} {seed} {xs} {ys} {m} {r} {q} given hq room t = record {
  drawn = drawn_on (drawn_mark q hq given.few room) t.drawn;
  few = t.few;
  mark = t.drawn.zero q (omega (arith, given.few)) (get_or-set_same xs q 0 0 (omega (arith, given.few)));
  words = λ k. ap (first_word span ys) (same_corner cells q k (k % 4) (omega arith)) ∙ t.words (k % 4) (omega arith);
}

-- ---- the queue

-- the first i quads of the queue have no marks, and their corners no words
pub record Drained (span : ℕ) (cells : List ℕ) (n seed : ℕ) (xs ys : List ℕ) (m r i : ℕ) : Type 0 where
  pub drawn : Drawn span n seed xs ys m r
  pub few : r ≤ m + 4 * i
  pub marks : (j : ℕ) → j < i → mark ys (queued span xs j) ≡ 0
  pub words : (j : ℕ) → j < i → (k : ℕ) → first_word span ys (cell 4 cells (queued span xs j) k) ≡ 0

-- the queue itself stays
pub queue_kept : {span n seed : ℕ} {xs ys : List ℕ} {m r : ℕ} (i : ℕ) → Drawn span n seed xs ys m r → n ≤ span → i < span → queued span ys i ≡ queued span xs i
queue_kept {span} i d few h = d.middle (span + i) (omega arith) (omega arith)

module _ {span : ℕ} {cells : List ℕ} {n seed : ℕ} {xs ys : List ℕ} {m r tail i : ℕ} (given : Given span cells n) (cover : Cover span cells n xs tail) (t : Drained span cells n seed xs ys m r i) (small : tail ≤ n) where
  pub drained_more : {zs : List ℕ} {s : ℕ} (q : ℕ) → i < tail → q ≡ queued span ys i → Emptied span cells n seed ys zs r s q → Drained span cells n seed xs zs m s (i + 1)
  drained_more {zs} {s} q h e u = record {
    drawn = drawn_on t.drawn u.drawn;
    few = omega (arith, t.few, u.few);
    marks = eq_or_lt (λ (j : ℕ). mark zs (queued span xs j) ≡ 0) i (rw (← is) u.mark) (λ j l. u.drawn.zero (queued span xs j) (omega (arith, cover.within j (omega arith), given.few)) (t.marks j l));
    words = eq_or_lt (λ (j : ℕ). (k : ℕ) → first_word span zs (cell 4 cells (queued span xs j) k) ≡ 0) i (rw (← is) u.words)
        (λ j l k. u.drawn.zero (2 * span + cell 4 cells (queued span xs j) k) (omega (arith, corner_below given (queued span xs j) k (cover.within j (omega arith)))) (t.words j l k));
  }
    where
      is : q ≡ queued span xs i
      is = e ∙ queue_kept i t.drawn given.few (omega (arith, given.few))

  pub taken : tail ≤ i → i ≤ tail → Worded span xs → Taken span n seed xs ys m r tail
  taken h l worded = record {
    drawn = t.drawn;
    few = omega (arith, t.few);
    blank = record { marks = marks_gone ys cover (λ q u z. t.drawn.zero q (omega (arith, given.few)) z) (λ j u. t.marks j (omega arith)); first = first; second = λ c u. second c u (ℕ_discrete (first_word span xs c) 0) };
  }
    where
      first : (c : ℕ) → c < span → first_word span ys c ≡ 0
      first = firsts_gone ys cover (λ c u z. t.drawn.zero (2 * span + c) (omega arith) z) (λ j u. t.words j (omega arith))

      second : (c : ℕ) → c < span → Dec (first_word span xs c ≡ 0) → second_word span ys c ≡ 0
      second c u (yes z) = t.drawn.zero (3 * span + c) (omega arith) (worded.none c u z)
      second c u (no z) = t.drawn.both c u z (first c u)

-- ---- the records of a labelling

module _ {span : ℕ} {cells : List ℕ} {n seed : ℕ} {xs : List ℕ} {t : ℕ} (given : Given span cells n) (f : Fitted span cells n seed xs t) (small : t ≤ n) where
  -- no more are reached than there may be quads
  near_most : {word : ℕ} → Near t word → Near most_quads word
  near_most h = record { low = omega (arith, h.low, small, given.few, given.most); high = omega (arith, h.high, small, given.few, given.most) }

  -- a reached corner is one of the list's
  reached_small : {c : ℕ} → seed < n → ReachedCorner quads cells seed c → c < span
  reached_small hs r = rw (← r.is) (corner_below given r.of r.place (reached_below given hs r.reached))

  -- where no record before m is the seed's
  pub holding : {ys : List ℕ} {m r : ℕ} → seed < n → Taken span n seed xs ys m r t → ((k : ℕ) → k < m → seed_in ys (records_at span n) k ≢ seed) → Holding (ReachedCorner quads cells seed) (pair_of span xs) seed ys (records_at span n) r
  holding {ys} {m} {r} hs u others = record {
    sound = λ k h e. let o = of k h e in f.only_first (corner_in ys (records_at span n) k) o.small o.had;
    keyed = λ k h e.
        let o = of k h e in
        record {
          x = first_word span xs (corner_in ys (records_at span n) k);
          y = second_word span xs (corner_in ys (records_at span n) k);
          x_near = near_most (f.near _ (f.only_first _ o.small o.had)).0;
          y_near = near_most (f.near _ (f.only_first _ o.small o.had)).1;
          is = o.key;
          pair = refl;
        };
    place = λ c p. (at c p).at;
    placed = λ c p. (at c p).small;
    of = λ c p. (u.drawn.copied (at c p).at (at c p).from (at c p).small).of;
    is = λ c p. (at c p).is;
    once = λ j k hj hk ej ek e. u.drawn.once j k (later j hj ej) hj (later k hk ek) hk e;
  }
    where
      later : (k : ℕ) → k < r → seed_in ys (records_at span n) k ≡ seed → m ≤ k
      later k h e = go (dec_lt k m)
        where
          go : Dec (k < m) → m ≤ k
          go (yes l) = absurd (others k l e)
          go (no l) = omega arith

      of : (k : ℕ) → k < r → seed_in ys (records_at span n) k ≡ seed → Copied span seed xs ys (records_at span n) k
      of k h e = u.drawn.copied k (later k h e) h

      at : (c : ℕ) → ReachedCorner quads cells seed c → Recorded ys (records_at span n) m r c
      at c p = u.drawn.every c (reached_small hs p) (f.words c p).0 (u.blank.first c (reached_small hs p))
