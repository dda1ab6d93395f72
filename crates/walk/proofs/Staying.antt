-- Emission changes words at the front of the workspace alone: what stands past them, the fates, the runs and the entries of a run, stays as
-- it was. Assumes nothing.
use mathlib.Core.Path.{◌≡◌, refl, sym, ap, ap₂, ◌∙◌}
use mathlib.Core.Bool.{Bool, true, false, cond}
use mathlib.Core.List.{List, [], ◌∷◌, ◌++◌}
use Prim.Native.Nat.{ℕ, zero, suc, ◌+◌, ◌*◌, ◌/◌, ◌%◌, ◌≤◌, ◌<◌}
use native.Mathlib.Omega.{arith}
use lib.ListN.{get_or}
use Rattle.words.specs.inner.Regions.{Kept}
use Rattle.words.proofs.Regions.{kept_trans, kept_wider, kept_past}
use Rattle.cells.specs.Listed.{Entry}
use Rattle.cells.specs.Holes.{height}
use Rattle.fates.specs.declared.Run.{Run}
use Rattle.fates.specs.declared.Runs.{Runs}
use Rattle.fates.specs.inner.Fates.{fates_at, walked_at, key_in, corner_in}
use Rattle.fates.specs.inner.FateWords.{fate_from, fate_at}
use Rattle.fates.specs.Judged.{is_kept}
use Rattle.fates.specs.inner.Index.{index_at, runs_at}
use Rattle.walk.specs.inner.Emitted.{x_in, y_in, least_x, least_y, entries_to, entries_of}
use Rattle.walk.specs.inner.Emitting.{Ascending, Writable}
use Rattle.walk.proofs.Shifted.{least_same}

module _ {xs ys : List ℕ} {free : ℕ} (k : Kept xs ys 0 free) where
  stays : (p : ℕ) → free ≤ p → get_or ys p 0 ≡ get_or xs p 0
  stays p h = kept_past k p (omega arith)

  -- ---- fates and runs

  module _ (span n s : ℕ) (h : free ≤ 4 * span) where
    pub fate_stays : fate_at span n ys s ≡ fate_at span n xs s
    fate_stays = ap₂ fate_from (stays (fates_at span n + s) (omega arith)) (stays (walked_at span n + s) (omega arith))

    word_stays : (c : ℕ) → get_or ys (index_at span n s + c) 0 ≡ get_or xs (index_at span n s + c) 0
    word_stays c = stays (index_at span n s + c) (omega arith)

    runs_stay : runs_at span n ys s ≡ runs_at span n xs s
    runs_stay = rw (stays (index_at span n s) (omega arith), word_stays 1, word_stays 2, word_stays 3)

  -- ---- a run

  module _ (run : Run) (h : free ≤ run.at) where
    abbrev a : ℕ
    a = run.at

    key_stays : (j : ℕ) → key_in ys a j ≡ key_in xs a j
    key_stays j = stays (a + 2 * j + 0) (omega arith)

    pub x_stays : (j : ℕ) → x_in ys a j ≡ x_in xs a j
    x_stays j = ap (λ (key : ℕ). key / 32768) (key_stays j)

    pub y_stays : (j : ℕ) → y_in ys a j ≡ y_in xs a j
    y_stays j = ap (λ (key : ℕ). key % 32768) (key_stays j)

    corner_stays : (j : ℕ) → corner_in ys a j ≡ corner_in xs a j
    corner_stays j = ap (λ (word : ℕ). word / 4096) (stays (a + 2 * j + 1) (omega arith))

    entries_to_lem : (x y m : ℕ) → entries_to ys a x y m ≡ entries_to xs a x y m
    unfolding entries_to
    entries_to_lem x y zero = refl
    entries_to_lem x y (suc m) = ap₂ (λ (es : List Entry) (e : Entry). es ++ (e ∷ [])) (entries_to_lem x y m) (rw (key_stays m, corner_stays m))

    pub least_x_stays : least_x ys run ≡ least_x xs run
    least_x_stays = least_same (x_in xs a) (x_in ys a) run.count x_stays

    pub least_y_stays : least_y ys run ≡ least_y xs run
    least_y_stays = least_same (y_in xs a) (y_in ys a) run.count y_stays

    pub entries_stay : entries_of ys run ≡ entries_of xs run
    entries_stay = ap₂ (λ (x y : ℕ). entries_to ys a x y run.count) least_x_stays least_y_stays ∙ entries_to_lem (least_x xs run) (least_y xs run) run.count

    pub ascending_stays : Ascending xs run → Ascending ys run
    ascending_stays o = record {
      room = omega (arith, o.room, k.len);
      few = o.few;
      x_not_0 = λ j l. rw (key_stays j) (o.x_not_0 j l);
      keys = λ j l. rw (key_stays j) (o.keys j l);
      rises = λ i j l m. rw (key_stays i, key_stays j) (o.rises i j l m);
    }

-- ---- a quad's lone records, read while emission goes on

module _ {w now : List ℕ} {span n : ℕ} (o : Writable w span n) (k : Kept w now 0 (4 * span)) {s : ℕ} (h : s < n) {runs : Runs} (is : runs ≡ runs_at span n now s) where
  pub runs_are : runs ≡ runs_at span n w s
  runs_are = is ∙ runs_stay k span n s (omega arith)

  past : 4 * span ≤ runs.lone.at
  past = rw runs_are (o.past s h)

  pub entries_are : entries_of now runs.lone ≡ entries_of w runs.lone
  entries_are = entries_stay k runs.lone past

  -- where it is kept, its rows fit at the front, and stand before its run
  rows_fit : is_kept (fate_at span n w s) ≡ true → height (entries_of now runs.lone) ≤ 4 * span
  rows_fit t = rw (entries_are, runs_are) (o.rows s h t)

  pub may_write_component : is_kept (fate_at span n w s) ≡ true → Ascending now runs.lone × (height (entries_of now runs.lone) ≤ runs.lone.at)
  may_write_component t = (ascending_stays k runs.lone past (rw runs_are (o.kept s h t)), omega (arith, rows_fit t, past))

  -- so no word is changed but at the front
  pub still_kept : {after : List ℕ} (kept : Bool) → kept ≡ is_kept (fate_at span n w s) → Kept now after 0 (cond kept (height (entries_of now runs.lone)) 0) → Kept w after 0 (4 * span)
  still_kept true e q = kept_trans k (kept_wider (rows_fit (sym e)) q)
  still_kept false e q = kept_trans k (kept_wider (omega arith) q)
