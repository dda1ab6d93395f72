-- The words of a run's rows: they are noted record by record, a place has entries on both sides in its row exactly where its x is between
-- the ends that the row's word tells, and so what they tell of the places between two neighbours are the holes there. Assumes nothing.
use mathlib.Core.Path.{◌≡◌, sym, ap, ◌∙◌, fun_ext, subst}
use mathlib.Core.Bool.{true}
use mathlib.Core.List.{List, ◌++◌}
use Prim.Native.Nat.{ℕ, suc, ◌+◌, ◌-◌, ◌/◌, ◌%◌, ◌≤◌, ◌<◌}
use native.Mathlib.Nat.{zero-add, sub-zero}
use native.Mathlib.Numerals.{add-one}
use native.Mathlib.Decide.{ℕ_discrete}
use native.Mathlib.Omega.{arith}
use borrow.Author.Tests.{eqb-true, ltb-true, eq-eqb, ne_eqb, lt-ltb}
use lib.Dec.{eqb, ltb}
use lib.ListN.{length, get_or, set, replicate, take, drop}
use Rattle.words.specs.inner.Regions.{Kept, Filled}
use Rattle.words.proofs.Regions.{set_cases, kept_refl, kept_trans, kept_set, filled_zero}
use Rattle.cells.specs.Sums.{total, how_many}
use Rattle.cells.specs.Listed.{some_one, Entry}
use Rattle.cells.specs.Holes.{height, lower_u, higher_u, row_around, holes}
use Rattle.cells.proofs.Sums.{how_many_same}
use Rattle.cells.proofs.Tests.{both, passes, same_truth, in_some}
use Rattle.cells.proofs.Gaps.{found, holes_are}
use Rattle.fates.specs.declared.Run.{Run}
use Rattle.walk.specs.inner.Emitted.{x_in, y_in, least_x, least_y, entry_in, entries_of}
use Rattle.walk.specs.inner.Rows.{Row, Noted, noted_of, tells_around, gap_after}
use Rattle.walk.specs.inner.Rows.Row.{none, some}
use Rattle.walk.specs.inner.Emitting.{Ascending}
use Rattle.walk.proofs.Shifted.{entry_in_lem}
use Rattle.walk.proofs.Staying.{x_stays, y_stays, least_y_stays, entries_stay, ascending_stays}
use Rattle.walk.proofs.Extent.{x_low, y_low, x_up, numbered, row_small}

module _ (w : List ℕ) (run : Run) (o : Ascending w run) where
  abbrev a : ℕ
  a = run.at

  abbrev count : ℕ
  count = run.count

  abbrev x0 : ℕ
  x0 = least_x w run

  abbrev y0 : ℕ
  y0 = least_y w run

  abbrev es : List Entry
  es = entries_of w run

  -- what a word tells of row r of the run
  abbrev RowIn : (r m word : ℕ) → Type 0
  RowIn = Row (x_in w a) (y_in w a)

  x_small : (k : ℕ) → k < count → (0 < x_in w a k) × (x_in w a k < 32768)
  x_small k h = (omega (arith, o.x_not_0 k h), omega (arith, o.keys k h))

  -- ---- record by record

  -- a record of another row changes nothing
  module _ {r m : ℕ} (other : y_in w a m ≡ r → ⊥) where
    earlier : (j : ℕ) → j < suc m → y_in w a j ≡ r → j < m
    earlier j h e = go (ℕ_discrete j m)
      where
        go : Dec (j ≡ m) → j < m
        go (yes p) = absurd (other (ap (y_in w a) (sym p) ∙ e))
        go (no p) = omega (arith, p)

    passed : {word : ℕ} → RowIn r m word → RowIn r (suc m) word
    passed (none z f) = none z (λ j h e. f j (earlier j h e) e)
    passed (some e) = some (record {
      low = e.low;
      high = e.high;
      low_small = omega (arith, e.low_small);
      high_small = omega (arith, e.high_small);
      low_row = e.low_row;
      high_row = e.high_row;
      is = e.is;
      least = λ j h i. e.least j (earlier j h i) i;
      greatest = λ j h i. e.greatest j (earlier j h i) i;
    })

  -- and one of this row, which has no lesser x than those before, is the greatest
  module _ {r m : ℕ} (h : m < count) (own : y_in w a m ≡ r) where
    no_less : (j : ℕ) → j < suc m → x_in w a j ≤ x_in w a m
    no_less j l = go (ℕ_discrete j m)
      where
        go : Dec (j ≡ m) → x_in w a j ≤ x_in w a m
        go (yes p) = rw p (omega arith)
        go (no p) = x_up w run o j m (omega (arith, p)) h

    joined : {word : ℕ} → RowIn r m word → RowIn r (suc m) (noted_of word (x_in w a m))
    joined {word} (none z f) = some (record {
      low = m;
      high = m;
      low_small = omega arith;
      high_small = omega arith;
      low_row = own;
      high_row = own;
      is = rw (eq-eqb word 0 z);
      least = λ j l e. only j l e (ℕ_discrete j m);
      greatest = λ j l e. no_less j l;
    })
      where
        only : (j : ℕ) → j < suc m → y_in w a j ≡ r → Dec (j ≡ m) → x_in w a m ≤ x_in w a j
        only j l e (yes p) = rw p (omega arith)
        only j l e (no p) = absurd (f j (omega (arith, p)) e)
    joined {word} (some e) = some (record {
      low = e.low;
      high = m;
      low_small = omega (arith, e.low_small);
      high_small = omega arith;
      low_row = e.low_row;
      high_row = own;
      is = rw (ne_eqb word 0 (λ z. omega (arith, z, e.is, (x_small e.low (omega (arith, e.low_small))).0))) (omega (arith, e.is, (x_small e.high (omega (arith, e.high_small))).1));
      least = λ j l i. first j l i (ℕ_discrete j m);
      greatest = λ j l i. no_less j l;
    })
      where
        first : (j : ℕ) → j < suc m → y_in w a j ≡ r → Dec (j ≡ m) → x_in w a e.low ≤ x_in w a j
        first j l i (yes p) = rw p (no_less e.low (omega (arith, e.low_small)))
        first j l i (no p) = e.least j (omega (arith, p)) i

  -- so the word at the row of record k is stored anew
  pub one_noted : (k : ℕ) → k < count → (ys : List ℕ) → height es ≤ length w → Noted w ys run k → Noted w (set ys (y_in w a k - y0) (noted_of (get_or ys (y_in w a k - y0) 0) (x_in w a k))) run (k + 1)
  one_noted k h ys room n = record { kept = kept_set n.kept row (noted_of (get_or ys row 0) (x_in w a k)) (omega arith) (omega (arith, row_small w run o k h)); tells = λ v l. rw (add-one k) (told v l) }
    where
      row : ℕ
      row = y_in w a k - y0

      at_row : y_in w a k ≡ y0 + row
      at_row = omega (arith, y_low w run o k h)

      told : (v : ℕ) → v < height es → RowIn (y0 + v) (suc k) (get_or (set ys row (noted_of (get_or ys row 0) (x_in w a k))) v 0)
      told v l =
          set_cases (RowIn (y0 + v) (suc k)) ys row (noted_of (get_or ys row 0) (x_in w a k)) v (omega (arith, n.kept.len, row_small w run o k h))
          (λ e. rw e (joined h at_row (n.tells row (row_small w run o k h))))
          (λ d. passed (λ e. d (omega (arith, at_row))) (n.tells v l))

  -- ---- both sides of a place

  abbrev entry : ℕ → Entry
  entry k = entry_in w a x0 y0 k

  module _ (u v word : ℕ) where
    -- an entry of row v is a record of row y0 + v
    of_row : (k : ℕ) → k < count → (entry k).v ≡ v → y_in w a k ≡ y0 + v
    of_row k h e = omega (arith, y_low w run o k h)

    there : RowIn (y0 + v) count word → tells_around word (x0 + u) ≡ true → row_around es u v ≡ true
    there (none z f) t = absurd (omega (arith, z, ltb-true (x0 + u) (word % 32768) (both (ltb (word / 32768) (x0 + u)) (ltb (x0 + u) (word % 32768)) t).1))
    there (some r) t =
        let s = both (ltb (word / 32768) (x0 + u)) (ltb (x0 + u) (word % 32768)) t in
        let b = ltb-true (word / 32768) (x0 + u) s.0 in
        let c = ltb-true (x0 + u) (word % 32768) s.1 in
        let l = x_small r.high r.high_small in
        passes (some_one (lower_u u v) es) (some_one (higher_u u v) es)
        (in_some (lower_u u v) (entry_in_lem w a x0 y0 count r.low r.low_small) (passes (eqb (entry r.low).v v) (ltb (entry r.low).u u) (eq-eqb (entry r.low).v v (omega (arith, r.low_row))) (lt-ltb (entry r.low).u u (omega (arith, r.is, x_low w run o r.low r.low_small)))))
        (in_some (higher_u u v) (entry_in_lem w a x0 y0 count r.high r.high_small) (passes (eqb (entry r.high).v v) (ltb u (entry r.high).u) (eq-eqb (entry r.high).v v (omega (arith, r.high_row))) (lt-ltb u (entry r.high).u (omega (arith, r.is)))))

    back : RowIn (y0 + v) count word → row_around es u v ≡ true → tells_around word (x0 + u) ≡ true
    back r t =
        let s = both (some_one (lower_u u v) es) (some_one (higher_u u v) es) t in
        let f = found es entry count (numbered w run o) (lower_u u v) s.0 in
        let g = found es entry count (numbered w run o) (higher_u u v) s.1 in
        let p = both (eqb (entry f.k).v v) (ltb (entry f.k).u u) f.is in
        let q = both (eqb (entry g.k).v v) (ltb u (entry g.k).u) g.is in
        go r f.k g.k f.small g.small (of_row f.k f.small (eqb-true (entry f.k).v v p.0)) (of_row g.k g.small (eqb-true (entry g.k).v v q.0)) (ltb-true (entry f.k).u u p.1) (ltb-true u (entry g.k).u q.1)
      where
        go : RowIn (y0 + v) count word → (i j : ℕ) → i < count → j < count → y_in w a i ≡ y0 + v → y_in w a j ≡ y0 + v → (entry i).u < u → u < (entry j).u → tells_around word (x0 + u) ≡ true
        go (none z f) i j hi hj ei ej l m = absurd (f i hi ei)
        go (some r) i j hi hj ei ej l m =
            let c = x_small r.high r.high_small in
            passes (ltb (word / 32768) (x0 + u)) (ltb (x0 + u) (word % 32768))
            (lt-ltb (word / 32768) (x0 + u) (omega (arith, r.is, r.least i hi ei, x_low w run o i hi)))
            (lt-ltb (x0 + u) (word % 32768) (omega (arith, r.is, r.greatest j hj ej)))

    around_is : RowIn (y0 + v) count word → tells_around word (x0 + u) ≡ row_around es u v
    around_is r = same_truth (tells_around word (x0 + u)) (row_around es u v) (there r) (back r)

  -- ---- between neighbours

  module _ (n : Noted w w run count) (k : ℕ) (h : k + 1 < count) where
    low : x0 ≤ x_in w a k
    low = x_low w run o k (omega arith)

    next_low : x0 ≤ x_in w a (k + 1)
    next_low = x_low w run o (k + 1) h

    pub no_gap : (x_in w a k ≡ x_in w a (k + 1) → ⊥) → gap_after w run k ≡ 0
    no_gap d = rw (← add-one k, ne_eqb (entry k).u (entry (k + 1)).u (λ e. d (omega (arith, low, next_low, e))))

    -- the rows from the one after record k's up to the next record's
    pub gap_told : x_in w a k ≡ x_in w a (k + 1) → how_many (λ (j : ℕ). tells_around (get_or w ((entry k).v + 1 + j) 0) (x_in w a k)) ((entry (k + 1)).v - ((entry k).v + 1)) ≡ gap_after w run k
    gap_told e =
        rw (← add-one k, eq-eqb (entry k).u (entry (k + 1)).u (ap (λ (x : ℕ). x - x0) e))
        (how_many_same (λ (j : ℕ). row_around es (entry k).u ((entry k).v + 1 + j)) (λ (j : ℕ). tells_around (get_or w ((entry k).v + 1 + j) 0) (x_in w a k)) ((entry (k + 1)).v - ((entry k).v + 1)) told)
      where
        told : (j : ℕ) → j < (entry (k + 1)).v - ((entry k).v + 1) → tells_around (get_or w ((entry k).v + 1 + j) 0) (x_in w a k) ≡ row_around es (entry k).u ((entry k).v + 1 + j)
        told j l =
            let v : ℕ = (entry k).v + 1 + j in
            let x : x_in w a k ≡ x0 + (entry k).u = omega (arith, low) in
            ap (λ (q : ℕ). tells_around (get_or w v 0) q) x ∙ around_is (entry k).u v (get_or w v 0) (n.tells v (omega (arith, row_small w run o (k + 1) h)))

  pub holes_between : holes es ≡ total (gap_after w run) (count - 1)
  holes_between = holes_are (numbered w run o)

-- ---- from a front that is cleared

pub front_cleared : (xs part : List ℕ) (m : ℕ) → m ≤ length xs → part ≡ replicate (length (take m xs)) 0 → Filled xs (part ++ drop m xs) 0 m m (λ (k : ℕ). 0)
front_cleared xs part m h e = rw (zero-add m, sub-zero m) at (filled_zero xs part 0 m (omega arith) (rw (zero-add m, sub-zero m) e))

-- a run's rows are noted of the list itself, since the words stand before its records
noted_still : {xs ys : List ℕ} {run : Run} {m : ℕ} → height (entries_of xs run) ≤ run.at → Noted xs ys run m → Noted ys ys run m
noted_still {xs} {ys} {run} {m} before n = record {
  kept = kept_refl ys 0 (height (entries_of ys run));
  tells = λ v l.
      rw (least_y_stays n.kept run before)
      (subst (λ (x : ℕ → ℕ). Row x (y_in ys run.at) (least_y xs run + v) m (get_or ys v 0)) (sym (fun_ext (x_stays n.kept run before)))
      (subst (λ (y : ℕ → ℕ). Row (x_in xs run.at) y (least_y xs run + v) m (get_or ys v 0)) (sym (fun_ext (y_stays n.kept run before)))
      (n.tells v (omega (arith, l, ap height (entries_stay n.kept run before))))));
}

module _ {w cleared : List ℕ} {run : Run} {y : ℕ} (o : Ascending w run) (least : y ≡ least_y w run) (before : height (entries_of w run) ≤ run.at) (f : Filled w cleared 0 (height (entries_of w run)) (height (entries_of w run)) (λ (k : ℕ). 0)) where
  same_rows : height (entries_of cleared run) ≡ height (entries_of w run)
  same_rows = ap height (entries_stay f.kept run before)

  pub may_note : Ascending cleared run × (((y ≡ least_y cleared run) × (height (entries_of cleared run) ≤ run.at)) × Noted cleared cleared run 0)
  may_note = (ascending_stays f.kept run before o, ((least ∙ sym (least_y_stays f.kept run before), omega (arith, same_rows)), none_noted))
    where
      none_noted : Noted cleared cleared run 0
      none_noted = record {
        kept = kept_refl cleared 0 (height (entries_of cleared run));
        tells = λ v h. none (ap (λ (p : ℕ). get_or cleared p 0) (sym (zero-add v)) ∙ f.holds v (omega (arith, same_rows))) (λ j l e. absurd (omega arith));
      }

  module _ {ys : List ℕ} (g : Noted cleared ys run run.count) where
    pub all_kept : Kept w ys 0 (height (entries_of w run))
    all_kept = kept_trans f.kept (rw same_rows at g.kept)

    pub may_count : Ascending ys run × (((y ≡ least_y ys run) × (height (entries_of ys run) ≤ run.at)) × Noted ys ys run run.count)
    may_count = (ascending_stays all_kept run before o, ((least ∙ sym (least_y_stays all_kept run before), omega (arith, ap height (entries_stay all_kept run before))), noted_still (omega (arith, same_rows)) g))

    pub same_holes : holes (entries_of ys run) ≡ holes (entries_of w run)
    same_holes = ap holes (entries_stay all_kept run before)
