-- The components that the workspace says are those of the definitions: the run of a labelled group lists its lone corners, so it yields its
-- entries where it is kept and has too few where it is not, and a group of another fate is dropped. Assumes nothing.
use mathlib.Core.Path.{◌≡◌, refl, sym, ap, ◌∙◌, subst}
use mathlib.Core.Bool.{true, false≢true}
use mathlib.Core.List.{List}
use Prim.Native.Nat.{ℕ, zero, suc, ◌+◌, ◌*◌, ◌-◌, ◌≤◌, ◌<◌}
use native.Mathlib.Omega.{arith}
use lib.IntN.{pos}
use lib.ListN.{length}
use Rattle.mesh.specs.Lists.{most_quads}
use Rattle.cells.specs.Kind.{Pair, ◌⊕◌, Fits, Lone}
use Rattle.cells.specs.Quads.{quads}
use Rattle.cells.specs.Listed.{Entry, Some, Listed, Grouping, grouping_by, Components}
use Rattle.cells.specs.Listed.Dropped.{few_cells, no_labelling, few_corners}
use Rattle.cells.specs.Listed.Components.{start, within, dropped, kept}
use Rattle.cells.specs.Holes.{height}
use Rattle.cells.proofs.Whole.{pair}
use Rattle.cells.proofs.Reach.{labels_near}
use Rattle.laying.specs.inner.Layout.{centre, label}
use Rattle.laying.proofs.Reading.{word_sum}
use Rattle.fates.specs.declared.LabelParams.{LabelParams}
use Rattle.fates.specs.declared.Run.{Run}
use Rattle.fates.specs.declared.Fate.{Fate}
use Rattle.fates.specs.declared.Fate.TheVariants.{NotLowest, TooFewQuads, NoLabelling, TooFewLone, Kept}
use Rattle.fates.specs.inner.Fates.{lone_at, corner_in, Laid, IsLoneFrom}
use Rattle.fates.specs.Judged.{Labels, Becomes, is_kept}
use Rattle.fates.specs.inner.FateWords.{fate_at, is_labelled}
use Rattle.fates.specs.inner.Index.{runs_at}
use Rattle.fates.specs.inner.Computed.{Computed}
use Rattle.walk.specs.inner.Emitted.{x_in, y_in, least_x, least_y, entry_in, entries_of, out_to}
use Rattle.walk.specs.inner.Emitting.{Ascending, Writable}
use Rattle.walk.specs.Demanded.{Place}
use Rattle.walk.proofs.Above.{over}
use Rattle.walk.proofs.Shifted.{least_le, least_met, entry_of, entry_in_lem, entries_sorted}
use Rattle.walk.proofs.Extent.{height_most}
use Rattle.walk.proofs.Runs.{Held, exactly, held, ascending}
use Rattle.walk.proofs.Counting.{run_length, joined, passed}
use Rattle.walk.proofs.Reasons.{one_lone_count}

-- ---- the lone corners of one group

module _ (cells : List ℕ) (s : ℕ) (L : ℕ → Pair) (w : List ℕ) (run : Run) (h : Held (λ c. Lone quads cells s L c) L w run) where
  abbrev a : ℕ
  a = run.at

  abbrev m : ℕ
  m = run.count

  abbrev x0 : ℕ
  x0 = least_x w run

  abbrev y0 : ℕ
  y0 = least_y w run

  low : (k : ℕ) → k < m → (x0 ≤ x_in w a k) × (y0 ≤ y_in w a k)
  low k l = (least_le (x_in w a) m k l, least_le (y_in w a) m k l)

  -- a key's two parts are the words of its corner's pair
  words_are : (k : ℕ) → k < m → (L (corner_in w a k) ≡ (label (x_in w a k), label (y_in w a k))) × (x_in w a k < 32768) × (y_in w a k < 32768)
  words_are k l =
      let q = h.keyed k l in
      let f : x_in w a k ≡ q.x = omega (arith, q.is, q.y_near.high) in
      let g : y_in w a k ≡ q.y = omega (arith, q.is, q.y_near.high) in
      (rw (f, g) q.pair, omega (arith, q.x_near.high), omega (arith, q.y_near.high))

  shifted : (k : ℕ) → k < m → L (corner_in w a k) ≡ (label x0, label y0) ⊕ (pos (x_in w a k - x0), pos (y_in w a k - y0))
  shifted k l = (words_are k l).0 ∙ pair (over (x_in w a k) x0 (low k l).0) (over (y_in w a k) y0 (low k l).1)

  listed : Ascending w run → Listed quads cells s L (entries_of w run)
  listed r = record {
    least = (label x0, label y0);
    lone = λ e i. let t = entry_of w a x0 y0 m e i in subst (λ (f : Entry). Lone quads cells s L f.corner) (sym t.is) (h.sound t.at t.small);
    pairs = λ e i. let t = entry_of w a x0 y0 m e i in subst (λ (f : Entry). L f.corner ≡ (label x0, label y0) ⊕ (pos f.u, pos f.v)) (sym t.is) (shifted t.at t.small);
    every = λ c l. let p = h.every c l in record { entry = entry_in w a x0 y0 p.at; among = entry_in_lem w a x0 y0 m p.at p.small; is = p.is };
    zero_u = λ e i. let t = entry_of w a x0 y0 m e i in taken_u (least_met (x_in w a) m (omega (arith, (low t.at t.small).0, (words_are t.at t.small).1)));
    zero_v = λ e i. let t = entry_of w a x0 y0 m e i in taken_v (least_met (y_in w a) m (omega (arith, (low t.at t.small).1, (words_are t.at t.small).2)));
    ordered = entries_sorted w a x0 y0 m r.rises low;
  }
    where
      taken_u : Place m (λ k. x_in w a k ≡ x0) → Some (entries_of w run) (λ f. f.u ≡ 0)
      taken_u t = record { entry = entry_in w a x0 y0 t.at; among = entry_in_lem w a x0 y0 m t.at t.small; is = omega (arith, t.is) }

      taken_v : Place m (λ k. y_in w a k ≡ y0) → Some (entries_of w run) (λ f. f.v ≡ 0)
      taken_v t = record { entry = entry_in w a x0 y0 t.at; among = entry_in_lem w a x0 y0 m t.at t.small; is = omega (arith, t.is) }

  -- where L fits, the records' rows are few: their second words are at most n from that of 0
  module _ (n : ℕ) (whole : length cells ≡ 4 * n) (seed : s < n) (fits : Fits quads cells s L) where
    word_near : (k : ℕ) → k < m → (centre ≤ y_in w a k + n) × (y_in w a k ≤ centre + n)
    word_near k l =
        let y : ℕ = y_in w a k in
        let near = labels_near cells n s whole seed fits (h.sound k l).reached in
        let e : (L (corner_in w a k)).1 ≡ label y = ap (λ (p : Pair). p.1) (words_are k l).0 in
        let t = rw e at near in
        (omega (arith, t, word_sum y), omega (arith, t, word_sum y))

    few_rows : height (entries_of w run) ≤ 2 * n + 1
    few_rows = height_most (entries_of w run) (2 * n + 1) (λ e i. let t = entry_of w a x0 y0 m e i in low_row e t.at t.small t.is (least_met (y_in w a) m (omega (arith, (low t.at t.small).1, (words_are t.at t.small).2))))
      where
        low_row : (e : Entry) (k : ℕ) → k < m → e ≡ entry_in w a x0 y0 k → Place m (λ j. y_in w a j ≡ y0) → e.v < 2 * n + 1
        low_row e k l is t = omega (arith, ap (λ (f : Entry). f.v) is, word_near k l, word_near t.at t.small, t.is)

-- ---- the components, quad by quad

kept_labelled : (f : Fate) → is_kept f ≡ true → is_labelled f ≡ true
unfolding is_kept is_labelled
kept_labelled NotLowest e = absurd (false≢true e)
kept_labelled TooFewQuads e = absurd (false≢true e)
kept_labelled NoLabelling e = absurd (false≢true e)
kept_labelled (TooFewLone c) e = refl
kept_labelled (Kept c) e = refl

module _ {span n : ℕ} {cells : List ℕ} {params : LabelParams} {xs w : List ℕ} (o : Computed span cells n params xs w) (few : n ≤ most_quads) (room : 4 * span + 27 * n ≤ length w) where
  abbrev g : Grouping
  g = grouping_by n o.number params.quads params.corners

  abbrev run : ℕ → Run
  run s = (runs_at span n w s).lone

  abbrev To : ℕ → Type 0
  To s = Components quads cells g s (out_to w span n s)

  -- a group with a labelling
  module _ (s : ℕ) (h : s < n) (e : is_labelled (fate_at span n w s) ≡ true) where
    laid : Laid cells g (IsLoneFrom cells g s) s w (lone_at span) o.m
    laid = o.lones s h e

    holds : Held (λ c. Lone quads cells s laid.L c) laid.L w (run s)
    holds = held (o.indexed s h).lone laid.holding

    rising : Ascending w (run s)
    rising = ascending (o.indexed s h).lone o.rises holds (omega (arith, o.few)) (omega (arith, o.few))

    own_listed : Listed quads cells s laid.L (entries_of w (run s))
    own_listed = listed cells s laid.L w (run s) holds rising

    -- has as many entries as lone corners
    own_length : {lone claimed : ℕ} → Labels cells g s lone claimed → length (entries_of w (run s)) ≡ lone
    own_length l = run_length w (run s) ∙ one_lone_count cells s laid.L l.L laid.labelling.fits l.labelling.fits (exactly holds) l.lones

  step : (s : ℕ) (f : Fate) → s < n → fate_at span n w s ≡ f → Becomes cells g s f → To s → To (suc s)
  unfolding is_kept is_labelled
  step s f h e (Becomes.not_lowest l) c = rw (passed w span n s (ap is_kept e)) (within c l)
  step s f h e (Becomes.few_quads l b) c = rw (passed w span n s (ap is_kept e)) (dropped c l (few_cells b))
  step s f h e (Becomes.no_labelling l b r) c = rw (passed w span n s (ap is_kept e)) (dropped c l (no_labelling b r))
  step s f h e (Becomes.few_lone l b) c =
      let t = ap is_labelled e in
      rw (passed w span n s (ap is_kept e)) (dropped c l.lowest (few_corners l.enough (laid s h t).L (laid s h t).labelling (entries_of w (run s)) (own_listed s h t) (omega (arith, own_length s h t l))))
  step s f h e (Becomes.kept l b) c =
      let t = ap is_labelled e in
      rw (joined w span n s (ap is_kept e)) (kept c l.lowest (record { enough = l.enough; L = (laid s h t).L; labelling = (laid s h t).labelling; listed = own_listed s h t; corners = omega (arith, own_length s h t l) }))

  below : (s : ℕ) → s ≤ n → To s
  unfolding out_to
  below zero h = start
  below (suc s) h = step s (fate_at span n w s) (omega arith) refl (o.becomes s (omega arith)) (below s (omega arith))

  pub components_are : Components quads cells g n (out_to w span n n)
  components_are = below n (omega arith)

  -- ---- what emission asks of the workspace

  pub writable : length cells ≡ 4 * n → n ≤ span → Writable w span n
  writable whole narrow = record {
    room = room;
    quads = few;
    few = λ s h. let r = (o.indexed s h).lone in omega (arith, r.count, r.stretch.most, o.few);
    kept = λ s h e. rising s h (kept_labelled (fate_at span n w s) e);
    past = λ s h. omega (arith, (o.indexed s h).lone.at);
    rows = λ s h e.
        let t = kept_labelled (fate_at span n w s) e in
        omega (arith, few_rows cells s (laid s h t).L w (run s) (holds s h t) n whole h (laid s h t).labelling.fits);
  }
