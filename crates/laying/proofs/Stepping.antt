-- One step of the walk, from a marked quad across side e to the unmarked quad of side g: the words that its ends force go round, and are
-- those of every assignment that fits, so that a corner with other words refutes them all. Assumes nothing.
use mathlib.Core.Path.{◌≡◌, sym, ap, ◌∙◌}
use mathlib.Core.Logic.{◌≢◌, ⊎_elim}
use mathlib.Core.Bool.{Bool, true, false}
use mathlib.Core.List.{List}
use Prim.Native.Nat.{ℕ, ◌+◌, ◌*◌, ◌/◌, ◌≤◌, ◌<◌}
use native.Mathlib.Decide.{ℕ_discrete}
use native.Mathlib.Omega.{arith}
use lib.ListN.{length, get_or, set, length-set}
use Rattle.std.specs.Prelude.{Ok, Err}
use Rattle.cells.specs.Cells.{cell}
use Rattle.cells.specs.Kind.{Pair, ◌⊖◌, Reached, Fits}
use Rattle.cells.specs.Kind.Chain.{on}
use Rattle.cells.specs.Quads.{OneStep, Square, Round, quads}
use Rattle.cells.proofs.Squares.{step_back, square_forced}
use Rattle.laying.specs.inner.Layout.{Near, mark, queued, first_word, second_word, pair_of, side_start, side_end, Across, Given}
use Rattle.laying.specs.inner.Invariant.{Waits, Cornered, Cover, Meets, State}
use Rattle.laying.specs.inner.Settling.{Bears, Differs, Good, Placed, EndsAt, SpreadAt}
use Rattle.laying.specs.inner.Moves.{Grows, Rest, Went}
use Rattle.laying.proofs.Reading.{same_word}
use Rattle.laying.proofs.Around.{each, SquareFrom, square_from}
use Rattle.laying.proofs.Facing.{corner_below, across_next}
use Rattle.laying.proofs.Turning.{pair_at, forced_square, far_near}
use Rattle.laying.proofs.Counts.{count_le, count_lt, count_more, eq_or_lt}
use Rattle.laying.proofs.Settling.{skip, put}
use Rattle.laying.proofs.Flagged.{flags_still}

wider : {x t : ℕ} → Near t x → (s : ℕ) → t ≤ s → Near s x
wider a s h = record { low = omega (arith, a.low); high = omega (arith, a.high) }

pub tail_le : {span : ℕ} {cells : List ℕ} {n : ℕ} {w : List ℕ} {t : ℕ} → Cover span cells n w t → t ≤ n
tail_le {n = n} {w} c = omega (arith, c.counted, count_le w n)

-- there is room in the queue
pub room_for : {span : ℕ} {cells : List ℕ} {n : ℕ} {w : List ℕ} {t : ℕ} → Cover span cells n w t → (q : ℕ) → q < n → mark w q ≡ 0 → t < n
room_for {n = n} {w} c q l z = omega (arith, count_lt w n q l z, c.counted)

-- a marked quad is reached
pub reached_at : {span : ℕ} {cells : List ℕ} {n seed : ℕ} {w : List ℕ} {t q : ℕ} → State span cells n seed w t → q < n → mark w q ≢ 0 → Reached quads cells seed q
reached_at {q = q} s l m =
    let o = s.cover.waits q l m in
    rw o.is at (s.sound o.at o.small)

-- the side that is shared
module _ (span : ℕ) (cells : List ℕ) (n seed : ℕ) (xs : List ℕ) (tail e g : ℕ) (given : Given span cells n) (st : State span cells n seed xs tail) (el : e < 4 * n) (gl : g < 4 * n)
    (me : mark xs (e / 4) ≢ 0) (ac : Across cells e g) where
  ql : e / 4 < n
  ql = omega arith

  pl : g / 4 < n
  pl = omega arith

  few : tail ≤ span
  few = omega (arith, tail_le st.cover, given.few)

  corner_lt : (k : ℕ) → cell 4 cells (g / 4) k < span
  corner_lt k = corner_below given (g / 4) k pl

  has_a : first_word span xs (side_start cells g) ≢ 0
  has_a = rw (← ac.end) (st.full (e / 4) ql me (e + 1))

  has_b : first_word span xs (side_end cells g) ≢ 0
  has_b = rw (← ac.start) (st.full (e / 4) ql me e)

  near_a : Near tail (first_word span xs (side_start cells g)) × Near tail (second_word span xs (side_start cells g))
  near_a = st.near (side_start cells g) (corner_lt g) has_a

  near_b : Near tail (first_word span xs (side_end cells g)) × Near tail (second_word span xs (side_end cells g))
  near_b = st.near (side_end cells g) (corner_lt (g + 1)) has_b

  unit : OneStep (pair_of span xs (side_end cells g) ⊖ pair_of span xs (side_start cells g))
  unit = rw (← ac.end, ← ac.start) (step_back (pair_of span xs (side_start cells e)) (pair_of span xs (side_end cells e)) (square_from (pair_of span xs) cells (e / 4) 0 e (st.round (e / 4) ql me)).side)

  pub step_ends : EndsAt span cells xs g
  step_ends =
      let f : tail ≤ 4096 = omega (arith, few, given.most) in
      record { xa_near = wider near_a.0 4096 f; ya_near = wider near_a.1 4096 f; xb_near = wider near_b.0 4096 f; yb_near = wider near_b.1 4096 f }

  step_reached : Reached quads cells seed (g / 4)
  step_reached = on (reached_at st ql me) (across_next given el gl ac)

  -- what the far corners are given, and what became of the workspace
  module _ (ys : List ℕ) (r : Bool) (xc yc xd yd : ℕ) (sq : Square (pair_of span xs (side_start cells g)) (pair_of span xs (side_end cells g)) (pair_at xc yc) (pair_at xd yd))
      (nears : (Near (tail + 1) xc × Near (tail + 1) yc) × (Near (tail + 1) xd × Near (tail + 1) yd))
      (placed : Placed span xs ys (cell 4 cells (g / 4) (g + 2)) (cell 4 cells (g / 4) (g + 3)) xc yc xd yd r) (free : mark xs (g / 4) ≡ 0) (room_w : 4 * span ≤ length xs) where
    force : (L : ℕ → Pair) → Fits quads cells seed L → (L (cell 4 cells (g / 4) (g + 2)) ≡ pair_at xc yc) × (L (cell 4 cells (g / 4) (g + 3)) ≡ pair_at xd yd)
    force L fit =
        let t : SquareFrom L (cell 4 cells (g / 4)) g = square_from L cells (g / 4) 0 g (fit.holds (e / 4) (g / 4) (reached_at st ql me) (across_next given el gl ac)) in
        square_forced t sq (st.agrees L fit (side_start cells g) (corner_lt g) has_a) (st.agrees L fit (side_end cells g) (corner_lt (g + 1)) has_b)

    -- other words at a far corner refute every assignment
    refuted : (k x y : ℕ) → Differs span xs (cell 4 cells (g / 4) k) x y → (L : ℕ → Pair) → Fits quads cells seed L → L (cell 4 cells (g / 4) k) ≡ pair_at x y → ⊥
    refuted k x y d L fit h =
        let a : pair_of span xs (cell 4 cells (g / 4) k) ≡ pair_at x y = sym (st.agrees L fit (cell 4 cells (g / 4) k) (corner_lt k) d.has) ∙ h in
        d.apart (record { first = same_word _ x (ap (λ (p : Pair). p.0) a); second = same_word _ y (ap (λ (p : Pair). p.1) a) })

    refute : r ≡ false → (L : ℕ → Pair) → Fits quads cells seed L → ⊥
    refute z L fit = ⊎_elim
        (λ (d : Differs span xs (cell 4 cells (g / 4) (g + 2)) xc yc). refuted (g + 2) xc yc d L fit (force L fit).0)
        (λ (d : Differs span xs (cell 4 cells (g / 4) (g + 3)) xd yd). refuted (g + 3) xd yd d L fit (force L fit).1) (placed.bad z)

    zs : List ℕ
    zs = set (set ys (g / 4) 1) (span + tail) (g / 4)

    room : tail < n
    room = room_for st.cover (g / 4) pl free

    one : mark zs (g / 4) ≡ 1
    unfolding zs
    one = skip (set ys (g / 4) 1) (span + tail) (g / 4) (g / 4) (omega (arith, given.few, pl)) ∙ put ys (g / 4) 1 (omega (arith, given.few, pl, placed.len))

    last : queued span zs tail ≡ g / 4
    unfolding zs
    last = put (set ys (g / 4) 1) (span + tail) (g / 4) (simp length-set (omega (arith, room, given.few, placed.len)))

    -- where neither the mark nor the queue's place is
    apart : (k : ℕ) → k ≢ g / 4 → k ≢ span + tail → get_or zs k 0 ≡ get_or ys k 0
    unfolding zs
    apart k a b = skip (set ys (g / 4) 1) (span + tail) (g / 4) k b ∙ skip ys (g / 4) 1 k a

    others : (i : ℕ) → i < span → i ≢ g / 4 → mark zs i ≡ mark xs i
    others i l d = apart i d (omega arith) ∙ placed.low i (omega arith)

    kept : (i : ℕ) → i < tail → queued span zs i ≡ queued span xs i
    kept i l = apart (span + i) (omega (arith, pl, given.few)) (omega arith) ∙ placed.low (span + i) (omega (arith, few))

    high : (k : ℕ) → 4 * span ≤ k → get_or zs k 0 ≡ get_or xs k 0
    high k l = apart k (omega (arith, pl, given.few)) (omega (arith, room, given.few)) ∙ placed.high k l

    same_words : (c x y : ℕ) → c < span → Bears span ys c x y → Bears span zs c x y
    same_words c x y l b = record {
      first = apart (2 * span + c) (omega (arith, pl, given.few)) (omega (arith, room, given.few)) ∙ b.first;
      second = apart (3 * span + c) (omega (arith, pl, given.few)) (omega (arith, room, given.few)) ∙ b.second;
    }

    step_rest : Rest span cells n seed xs zs
    unfolding zs
    step_rest = record { len = simp length-set placed.len; rest = λ k l f. high k l }

    still : (q : ℕ) → q < span → mark xs q ≢ 0 → mark zs q ≢ 0
    still q l m z = go (ℕ_discrete q (g / 4))
      where
        go : Dec (q ≡ g / 4) → ⊥
        go (yes d) = m (ap (λ (i : ℕ). mark xs i) d ∙ free)
        go (no d) = m (sym (others q l d) ∙ z)

    -- ---- the cover, whether or not the words were taken

    queue : (q : ℕ) → q < n → mark zs q ≢ 0 → Dec (q ≡ g / 4) → Waits span zs (tail + 1) q
    queue q l m (yes d) = record { at = tail; small = omega arith; is = last ∙ sym d }
    queue q l m (no d) =
        let o = st.cover.waits q l (λ z. m (others q (omega (arith, given.few)) d ∙ z)) in
        let s : o.at < tail + 1 = omega (arith, o.small) in
        record { at = o.at; small = s; is = kept o.at o.small ∙ o.is }

    cornered : (c : ℕ) → (c ≢ cell 4 cells (g / 4) (g + 2) → c ≢ cell 4 cells (g / 4) (g + 3) → Cornered span cells xs tail c) → Dec (c ≡ cell 4 cells (g / 4) (g + 2)) → Dec (c ≡ cell 4 cells (g / 4) (g + 3)) → Cornered span cells zs (tail + 1) c
    cornered c h (yes a) b = record { at = tail; place = g + 2; small = omega arith; is = ap (λ (q : ℕ). cell 4 cells q (g + 2)) last ∙ sym a }
    cornered c h (no a) (yes b) = record { at = tail; place = g + 3; small = omega arith; is = ap (λ (q : ℕ). cell 4 cells q (g + 3)) last ∙ sym b }
    cornered c h (no a) (no b) =
        let o = h a b in
        let s : o.at < tail + 1 = omega (arith, o.small) in
        record { at = o.at; place = o.place; small = s; is = ap (λ (q : ℕ). cell 4 cells q o.place) (kept o.at o.small) ∙ o.is }

    old : (c : ℕ) → c < span → c ≢ cell 4 cells (g / 4) (g + 2) → c ≢ cell 4 cells (g / 4) (g + 3) → Bears span zs c (first_word span xs c) (second_word span xs c)
    old c l a b = same_words c (first_word span xs c) (second_word span xs c) l (placed.others c l a b)

    step_cover : Cover span cells n zs (tail + 1)
    step_cover = record {
      counted = count_more xs zs n (g / 4) pl free one (λ i l d. others i (omega (arith, given.few)) d) ∙ ap (λ (m : ℕ). m + 1) st.cover.counted;
      within = eq_or_lt (λ (i : ℕ). queued span zs i < n) tail (rw last pl) (λ i l. rw (kept i l) (st.cover.within i l));
      waits = λ q l m. queue q l m (ℕ_discrete q (g / 4));
      first = λ c l m. cornered c (λ a b. st.cover.first c l (λ z. m ((old c l a b).first ∙ z))) (ℕ_discrete c (cell 4 cells (g / 4) (g + 2))) (ℕ_discrete c (cell 4 cells (g / 4) (g + 3)));
      second = λ c l m. cornered c (λ a b. st.cover.second c l (λ z. m ((old c l a b).second ∙ z))) (ℕ_discrete c (cell 4 cells (g / 4) (g + 2))) (ℕ_discrete c (cell 4 cells (g / 4) (g + 3)));
    }

    -- ---- the state, where both far corners have their words

    module _ (ok : Good span xs ys (cell 4 cells (g / 4) (g + 2)) (cell 4 cells (g / 4) (g + 3)) xc yc xd yd) where
      keep : (c : ℕ) → c < span → first_word span xs c ≢ 0 → Bears span zs c (first_word span xs c) (second_word span xs c)
      keep c l m = same_words c (first_word span xs c) (second_word span xs c) l (ok.keeps c l m)

      step_grows : Grows span xs zs tail (tail + 1)
      step_grows = record { more = omega arith; kept = kept; still = still; words = keep }

      at_a : Bears span zs (side_start cells g) (first_word span xs (side_start cells g)) (second_word span xs (side_start cells g))
      at_a = keep (side_start cells g) (corner_lt g) has_a

      at_b : Bears span zs (side_end cells g) (first_word span xs (side_end cells g)) (second_word span xs (side_end cells g))
      at_b = keep (side_end cells g) (corner_lt (g + 1)) has_b

      at_c : Bears span zs (cell 4 cells (g / 4) (g + 2)) xc yc
      at_c = same_words (cell 4 cells (g / 4) (g + 2)) xc yc (corner_lt (g + 2)) ok.at_c

      at_d : Bears span zs (cell 4 cells (g / 4) (g + 3)) xd yd
      at_d = same_words (cell 4 cells (g / 4) (g + 3)) xd yd (corner_lt (g + 3)) ok.at_d

      new_square : SquareFrom (pair_of span zs) (cell 4 cells (g / 4)) g
      new_square = rw (at_a.first, at_a.second, at_b.first, at_b.second, at_c.first, at_c.second, at_d.first, at_d.second) sq

      old_words : (q : ℕ) → q < n → mark xs q ≢ 0 → (k : ℕ) → Bears span zs (cell 4 cells q k) (first_word span xs (cell 4 cells q k)) (second_word span xs (cell 4 cells q k))
      old_words q l m k = keep (cell 4 cells q k) (corner_below given q k l) (st.full q l m k)

      old_mark : (q : ℕ) → q < n → mark zs q ≢ 0 → q ≢ g / 4 → mark xs q ≢ 0
      old_mark q l m d z = m (others q (omega (arith, given.few)) d ∙ z)

      rounds : (q : ℕ) → q < n → mark zs q ≢ 0 → Dec (q ≡ g / 4) → Round (pair_of span zs) (cell 4 cells q)
      rounds q l m (yes d) = rw d (square_from (pair_of span zs) cells (g / 4) g 0 new_square)
      rounds q l m (no d) =
          let w = old_words q l (old_mark q l m d) in
          rw ((w 0).first, (w 0).second, (w 1).first, (w 1).second, (w 2).first, (w 2).second, (w 3).first, (w 3).second) (st.round q l (old_mark q l m d))

      full : (q : ℕ) → q < n → mark zs q ≢ 0 → Dec (q ≡ g / 4) → (k : ℕ) → first_word span zs (cell 4 cells q k) ≢ 0
      full q l m (yes d) k = rw d (each cells (g / 4) g (λ (c : ℕ). first_word span zs c ≢ 0)
          (rw at_a.first has_a) (rw at_b.first has_b)
          (λ z. omega (arith, at_c.first, nears.0.0.low, few, given.most)) (λ z. omega (arith, at_d.first, nears.1.0.low, few, given.most)) k)
      full q l m (no d) k = λ z. st.full q l (old_mark q l m d) k (sym (old_words q l (old_mark q l m d) k).first ∙ z)

      -- what holds of a corner's words holds after, where it holds of the new words and of the old ones
      words : (P : ℕ → ℕ → ℕ → Type 0) → P (cell 4 cells (g / 4) (g + 2)) xc yc → P (cell 4 cells (g / 4) (g + 3)) xd yd → ((c : ℕ) → c < span → first_word span xs c ≢ 0 → P c (first_word span xs c) (second_word span xs c))
          → (c : ℕ) → c < span → first_word span zs c ≢ 0 → P c (first_word span zs c) (second_word span zs c)
      words P pc pd was c l m = go (ℕ_discrete c (cell 4 cells (g / 4) (g + 2))) (ℕ_discrete c (cell 4 cells (g / 4) (g + 3)))
        where
          go : Dec (c ≡ cell 4 cells (g / 4) (g + 2)) → Dec (c ≡ cell 4 cells (g / 4) (g + 3)) → P c (first_word span zs c) (second_word span zs c)
          go (yes a) b = rw (a, at_c.first, at_c.second) pc
          go (no a) (yes b) = rw (b, at_d.first, at_d.second) pd
          go (no a) (no b) =
              let o = old c l a b in
              rw (o.first, o.second) (was c l (λ z. m (o.first ∙ z)))

      step_state : State span cells n seed zs (tail + 1)
      step_state = record {
        cover = step_cover;
        sound = eq_or_lt (λ (i : ℕ). Reached quads cells seed (queued span zs i)) tail (rw last step_reached) (λ i l. rw (kept i l) (st.sound i l));
        marked = eq_or_lt (λ (i : ℕ). mark zs (queued span zs i) ≢ 0) tail (rw (last, one) (λ z. omega arith)) (λ i l. rw (kept i l) (still (queued span xs i) (omega (arith, given.few, st.cover.within i l)) (st.marked i l)));
        round = λ q l m. rounds q l m (ℕ_discrete q (g / 4));
        full = λ q l m. full q l m (ℕ_discrete q (g / 4));
        agrees = λ L fit. words (λ (c x y : ℕ). L c ≡ pair_at x y) (force L fit).0 (force L fit).1 (st.agrees L fit);
        near = words (λ (c x y : ℕ). Near (tail + 1) x × Near (tail + 1) y) nears.0 nears.1 (λ c l m. (wider (st.near c l m).0 (tail + 1) (omega arith), wider (st.near c l m).1 (tail + 1) (omega arith)));
        flags = flags_still given xs zs high still st.flags;
      }

    fine : r ≡ true → Went span cells n seed xs zs tail (Ok (tail + 1)) (λ _. Meets cells e g)
    fine t = record { rest = step_rest; ended = record { state = step_state (placed.good t); grows = step_grows (placed.good t); done = λ o z. omega (arith, one, z) } }

    refused : r ≡ false → Went span cells n seed xs zs tail (Err (record { queued = tail + 1 })) (λ _. Meets cells e g)
    refused z = record { rest = step_rest; ended = record { cover = step_cover; none = refute z } }

  -- the walk goes on, or is stuck
  module _ (ys : List ℕ) (r : Bool) (p : SpreadAt span cells g xs ys r) (h : mark xs (g / 4) ≡ 0) (l : 4 * span ≤ length xs) where
    pub went_on : r ≡ true → Went span cells n seed xs (set (set ys (g / 4) 1) (span + tail) (g / 4)) tail (Ok (tail + 1)) (λ _. Meets cells e g)
    unfolding zs
    went_on t = fine ys r _ _ _ _ (forced_square _ _ _ _ step_ends unit) (far_near _ _ _ _ step_ends unit tail near_a.0 near_a.1 near_b.0 near_b.1) p h l t

    pub went_wrong : r ≡ false → Went span cells n seed xs (set (set ys (g / 4) 1) (span + tail) (g / 4)) tail (Err (record { queued = tail + 1 })) (λ _. Meets cells e g)
    unfolding zs
    went_wrong z = refused ys r _ _ _ _ (forced_square _ _ _ _ step_ends unit) (far_near _ _ _ _ step_ends unit tail near_a.0 near_a.1 near_b.0 near_b.1) p h l z
