-- A run that was scanned from a side gets its flag: the state stays, since the flag tells what the scan has met. Assumes nothing.
use mathlib.Core.Path.{◌≡◌, sym, ap, ◌∙◌}
use mathlib.Core.Logic.{◌≢◌}
use mathlib.Core.List.{List}
use Prim.Native.Nat.{ℕ, ◌+◌, ◌*◌, ◌/◌, ◌≤◌, ◌<◌}
use native.Mathlib.Decide.{ℕ_discrete}
use native.Mathlib.Omega.{arith}
use lib.ListN.{length, get_or, set, length-set}
use Rattle.std.specs.Prelude.{Ok}
use Rattle.cells.specs.Cells.{cell}
use Rattle.cells.specs.Kind.{Reached}
use Rattle.cells.specs.Quads.{quads}
use Rattle.laying.specs.inner.Layout.{mark, queued, first_word, second_word, run_of, flags_at, flag_of, side_start, side_end, sense, Scanned, Given, Table}
use Rattle.laying.specs.inner.Invariant.{Cornered, Met, Flags, State}
use Rattle.laying.specs.inner.Settling.{Bears}
use Rattle.laying.specs.inner.Moves.{Grows, Went}
use Rattle.laying.proofs.Facing.{corner_below}
use Rattle.laying.proofs.Counts.{count_same}
use Rattle.laying.proofs.Settling.{skip, put}
use Rattle.laying.proofs.Resting.{same_run}
use Rattle.laying.proofs.Flagged.{is_sense, set_small, set_other, met_run, met_still}
use Rattle.laying.proofs.Stepping.{tail_le}

-- the walk's own regions are as they were
module _ {span : ℕ} {cells : List ℕ} {n : ℕ} (given : Given span cells n) (xs ys : List ℕ) (low : (k : ℕ) → k < 4 * span → get_or ys k 0 ≡ get_or xs k 0) where
  bears : (c : ℕ) → c < span → Bears span ys c (first_word span xs c) (second_word span xs c)
  bears c l = record { first = low (2 * span + c) (omega arith); second = low (3 * span + c) (omega arith) }

  same_grows : {ws : List ℕ} {t r : ℕ} → r ≤ n → Grows span ws xs t r → Grows span ws ys t r
  same_grows l g = record {
    more = g.more;
    kept = λ i h. low (span + i) (omega (arith, g.more, given.few)) ∙ g.kept i h;
    still = λ q h m z. g.still q h m (sym (low q (omega arith)) ∙ z);
    words = λ c h m.
        let o = g.words c h m in
        record { first = (bears c h).first ∙ o.first; second = (bears c h).second ∙ o.second };
  }

  module _ {seed t : ℕ} (s : State span cells n seed xs t) where
    unmarked : (q : ℕ) → q < n → mark ys q ≢ 0 → mark xs q ≢ 0
    unmarked q l m z = m (low q (omega (arith, given.few)) ∙ z)

    same_queue : (i : ℕ) → i < t → queued span ys i ≡ queued span xs i
    same_queue i l = low (span + i) (omega (arith, tail_le s.cover, given.few))

    cornered : {c : ℕ} → Cornered span cells xs t c → Cornered span cells ys t c
    cornered o = record { at = o.at; place = o.place; small = o.small; is = ap (λ (q : ℕ). cell 4 cells q o.place) (same_queue o.at o.small) ∙ o.is }

    same_state : Flags span cells n seed ys → State span cells n seed ys t
    same_state f = record {
      cover = record {
        counted = count_same xs ys n (λ q l. low q (omega (arith, given.few))) ∙ s.cover.counted;
        within = λ i l. rw (same_queue i l) (s.cover.within i l);
        waits = λ q l m.
            let o = s.cover.waits q l (unmarked q l m) in
            record { at = o.at; small = o.small; is = same_queue o.at o.small ∙ o.is };
        first = λ c l m. cornered (s.cover.first c l (λ z. m ((bears c l).first ∙ z)));
        second = λ c l m. cornered (s.cover.second c l (λ z. m ((bears c l).second ∙ z)));
      };
      sound = λ i l. rw (same_queue i l) (s.sound i l);
      marked = λ i l z. s.marked i l (sym (low (queued span xs i) (omega (arith, s.cover.within i l, given.few))) ∙ ap (λ (q : ℕ). mark ys q) (sym (same_queue i l)) ∙ z);
      round = λ q l m.
          let b : (k : ℕ) → Bears span ys (cell 4 cells q k) (first_word span xs (cell 4 cells q k)) (second_word span xs (cell 4 cells q k)) = λ k. bears (cell 4 cells q k) (corner_below given q k l) in
          rw ((b 0).first, (b 0).second, (b 1).first, (b 1).second, (b 2).first, (b 2).second, (b 3).first, (b 3).second) (s.round q l (unmarked q l m));
      full = λ q l m k z. s.full q l (unmarked q l m) k (sym (bears (cell 4 cells q k) (corner_below given q k l)).first ∙ z);
      agrees = λ L fit c l m. rw ((bears c l).first, (bears c l).second) (s.agrees L fit c l (λ z. m ((bears c l).first ∙ z)));
      near = λ c l m. rw ((bears c l).first, (bears c l).second) (s.near c l (λ z. m ((bears c l).first ∙ z)));
      flags = f;
    }

-- the flag of the run of e is set, after the scan from e
module _ (span : ℕ) (cells : List ℕ) (n seed : ℕ) (xs ys : List ℕ) (tail r e : ℕ) (given : Given span cells n) (table : Table span cells n xs) (el : e < 4 * n) (before : Flags span cells n seed xs)
    (reached : Reached quads cells seed (e / 4)) (unset : Scanned (flag_of span n xs e) (sense cells e) → ⊥) (went : Went span cells n seed xs ys tail (Ok r) (λ _. Met cells n e)) where
  zs : List ℕ
  zs = set ys (flags_at span n + run_of span n xs e) (flag_of span n xs e + sense cells e)

  room : flags_at span n + run_of span n xs e < length ys
  room = omega (arith, table.runs e el, table.room, went.rest.len)

  other : (k : ℕ) → k ≢ flags_at span n + run_of span n xs e → get_or zs k 0 ≡ get_or ys k 0
  unfolding zs
  other k h = skip ys (flags_at span n + run_of span n xs e) (flag_of span n xs e + sense cells e) k h

  own : get_or zs (flags_at span n + run_of span n xs e) 0 ≡ flag_of span n xs e + sense cells e
  unfolding zs
  own = put ys (flags_at span n + run_of span n xs e) (flag_of span n xs e + sense cells e) room

  low : (k : ℕ) → k < 4 * span → get_or zs k 0 ≡ get_or ys k 0
  low k h = other k (omega arith)

  run_of_lem : (g : ℕ) → g < 4 * n → run_of span n zs g ≡ run_of span n xs g
  run_of_lem g gl = other (4 * span + 8 * n + g) (omega arith) ∙ same_run went.rest g gl

  still : (q : ℕ) → q < span → mark ys q ≢ 0 → mark zs q ≢ 0
  still q l m z = m (sym (low q (omega arith)) ∙ z)

  -- a side of the same run
  own_flag : (g : ℕ) → g < 4 * n → run_of span n xs g ≡ run_of span n xs e → flag_of span n zs g ≡ flag_of span n xs e + sense cells e
  own_flag g gl d = ap (λ (m : ℕ). get_or zs (flags_at span n + m) 0) (run_of_lem g gl ∙ d) ∙ own

  -- a side of another
  other_flag : (g : ℕ) → g < 4 * n → run_of span n xs g ≢ run_of span n xs e → flag_of span n zs g ≡ flag_of span n ys g
  other_flag g gl d = ap (λ (m : ℕ). get_or zs (flags_at span n + m) 0) (run_of_lem g gl) ∙ other (flags_at span n + run_of span n xs g) (omega arith) ∙ ap (λ (m : ℕ). get_or ys (flags_at span n + m) 0) (sym (same_run went.rest g gl))

  small : (g : ℕ) → g < 4 * n → Reached quads cells seed (g / 4) → Dec (run_of span n xs g ≡ run_of span n xs e) → flag_of span n zs g < 4
  small g gl q (yes d) = rw (own_flag g gl d) (set_small (flag_of span n xs e) (is_sense (side_start cells e) (side_end cells e)) (before.small e el reached) unset)
  small g gl q (no d) = rw (other_flag g gl d) (went.ended.state.flags.small g gl q)

  same_sense : (g : ℕ) → g < 4 * n → Reached quads cells seed (g / 4) → run_of span n xs g ≡ run_of span n xs e → Scanned (flag_of span n xs e + sense cells e) (sense cells g) → Dec (sense cells g ≡ sense cells e) → Met cells n g ys
  same_sense g gl q d h (yes s) = met_run given e g ys table el gl (sym d) (sym s) went.ended.done
  same_sense g gl q d h (no s) =
      let f : flag_of span n xs e ≡ flag_of span n xs g = ap (λ (m : ℕ). get_or xs (flags_at span n + m) 0) (sym d) in
      let o : Scanned (flag_of span n xs e) (sense cells g) = set_other (flag_of span n xs e) (is_sense (side_start cells e) (side_end cells e)) (is_sense (side_start cells g) (side_end cells g)) unset s h in
      met_still given xs ys g went.ended.grows.still (before.met g gl q (rw f at o))

  met : (g : ℕ) → g < 4 * n → Reached quads cells seed (g / 4) → Scanned (flag_of span n zs g) (sense cells g) → Dec (run_of span n xs g ≡ run_of span n xs e) → Met cells n g ys
  met g gl q h (yes d) = same_sense g gl q d (rw (own_flag g gl d) at h) (ℕ_discrete (sense cells g) (sense cells e))
  met g gl q h (no d) = went.ended.state.flags.met g gl q (rw (other_flag g gl d) at h)

  set_flags : Flags span cells n seed zs
  set_flags = record {
    small = λ g gl q. small g gl q (ℕ_discrete (run_of span n xs g) (run_of span n xs e));
    met = λ g gl q h. met_still given ys zs g still (met g gl q h (ℕ_discrete (run_of span n xs g) (run_of span n xs e)));
  }

  scanned : Went span cells n seed xs (set ys (flags_at span n + run_of span n xs e) (flag_of span n xs e + sense cells e)) tail (Ok r) (λ _. Met cells n e)
  unfolding zs
  scanned = record {
    rest = record { len = length-set ys (flags_at span n + run_of span n xs e) (flag_of span n xs e + sense cells e) ∙ went.rest.len; rest = λ k h f. other k (f e el reached) ∙ went.rest.rest k h f };
    ended = record {
      state = same_state given ys zs low went.ended.state set_flags;
      grows = same_grows given ys zs low (tail_le went.ended.state.cover) went.ended.grows;
      done = met_still given ys zs e still went.ended.done;
    };
  }

  -- the same, of the run and the sense by other names
  pub scanned_at : (f s : ℕ) → f ≡ run_of span n xs e → s ≡ sense cells e → Went span cells n seed xs (set ys (flags_at span n + f) (get_or xs (flags_at span n + f) 0 + s)) tail (Ok r) (λ _. Met cells n e)
  scanned_at f s ef es = rw (ef, es) scanned
