-- What the loop of `line_at` knows: the first fields of a line have been taken and their words stand in front of the list. So one more field
-- taken is one more; where a field is missing no line stands; and after the last a line does. Assumes nothing.
use mathlib.Core.Bool.{true, false}
use mathlib.Core.Path.{◌≡◌, refl, sym, ap, ◌∙◌, subst}
use mathlib.Core.List.{List, [], ◌∷◌, ◌++◌, append-nil, tail}
use Rattle.std.specs.Prelude.{Some, None}
use Prim.Native.Nat.{ℕ, suc, ◌+◌, ◌-◌, ◌≤◌, ◌<◌}
use native.Mathlib.Numerals.{add-one}
use native.Mathlib.Omega.{arith}
use lib.ListN.{length, get_or, take, drop, length-append, length-drop, drop_of_length-le}
use lib.Seq.{drop-cons}
use Rattle.gridtext.specs.declared.inner.row.Few.{Few}
use Rattle.gridtext.specs.declared.inner.row.Kind.{Kind}
use Rattle.gridtext.specs.declared.inner.row.Sort.{Sort}
use Rattle.gridtext.specs.Lines.{Field, Line, line_of}
use Rattle.gridtext.specs.inner.Rows.{letter_of, kinds_of, most_words, end_after, words_of, list_of, PairAt, FieldAt}
use Rattle.gridtext.specs.inner.Read.{line_words, Of, NoLine, LineAt}
use Rattle.gridtext.proofs.Rows.{Fits, row_of, row_words, places_of, total, words_places, total_few, Got, RowAt, row_left, row_first, whole, fields_of, row_fits, line_of_lem, line_row, line_words_lem}

-- the first i fields of a line of the sort at `at` have been taken, and gave n words
pub record Passed (text : List ℕ) (sort : Sort) (at : ℕ) (out : List ℕ) (next n i : ℕ) : Type 0 where
  pub words : List ℕ
  pub begins : drop at text ≡ letter_of sort ∷ 32 ∷ drop (at + 2) text
  pub got : Got text (kinds_of sort) (at + 2) (drop i (kinds_of sort)) next words
  pub number : n ≡ length words
  pub front : take n out ≡ words
  pub room : n + total (drop i (kinds_of sort)) ≤ most_words
  pub within : next ≤ length text
  pub some : i ≤ length (kinds_of sort)

pub passed_none : {text : List ℕ} {sort : Sort} {at : ℕ} (out : List ℕ) → PairAt text at (letter_of sort) 32 true → Passed text sort at out (at + 2) 0 0
passed_none {text} {sort} out (PairAt.there is w) = record {
  words = [];
  begins = is;
  got = Got.start;
  number = refl;
  front = refl;
  room = omega (arith, total_few sort);
  within = w;
  some = omega arith;
}

-- no line without its letter and blank
pub no_letter : {text : List ℕ} {sort : Sort} {at : ℕ} → PairAt text at (letter_of sort) 32 false → NoLine sort text at
no_letter (PairAt.elsewhere n) l rest of is = n _ (is ∙ line_row l rest of)

module _ {text : List ℕ} {sort : Sort} {at : ℕ} {out : List ℕ} {next n i : ℕ} (p : Passed text sort at out next n i) where
  -- where a line stands, its rest stands here
  left : (l : Line) (rest : List ℕ) → Of sort l → drop at text ≡ line_of l ++ (10 ∷ rest) → RowAt text (drop i (kinds_of sort)) next rest
  left l rest of is =
      row_left p.got
      (record {
        fields = fields_of l;
        fits = subst (λ (s : Sort). Fits (kinds_of s) (fields_of l)) of.is (row_fits of.words);
        is = ap (λ (x : List ℕ). tail (tail x)) (sym p.begins ∙ is ∙ line_row l rest of);
      })

  module _ (l : i < length (kinds_of sort)) where
    split : drop i (kinds_of sort) ≡ get_or (kinds_of sort) i Kind.Hex ∷ drop (suc i) (kinds_of sort)
    split = drop-cons (kinds_of sort) i Kind.Hex l

    others : length (kinds_of sort) - 1 - i ≡ length (drop (suc i) (kinds_of sort))
    others = rw length-drop (omega arith)

    more_total : total (drop i (kinds_of sort)) ≡ places_of (get_or (kinds_of sort) i Kind.Hex) + total (drop (suc i) (kinds_of sort))
    unfolding total
    more_total = rw split

    pub field_missing : {e : ℕ} → e ≡ end_after (length (kinds_of sort) - 1 - i) → FieldAt (get_or (kinds_of sort) i Kind.Hex) text next e None → NoLine sort text at
    field_missing {e} q (FieldAt.nothing none) line rest of is =
        let f = row_first (subst (λ (ks : List Kind). RowAt text ks next rest) split (left line rest of is)) in
        let z : end_after (length (drop (suc i) (kinds_of sort))) ≡ e = sym (q ∙ ap end_after others) in
        none f.field f.after f.allowed (rw z at f.is)

    pub room_more : {e after : ℕ} {few : Few} → FieldAt (get_or (kinds_of sort) i Kind.Hex) text next e (Some (few, after)) → n + length (list_of few) ≤ most_words
    room_more {few = few} (FieldAt.words {f} s w) =
        let c : length (list_of few) ≡ places_of (get_or (kinds_of sort) i Kind.Hex) = sym (ap length w) ∙ words_places (get_or (kinds_of sort) i Kind.Hex) f in
        omega (arith, p.room, more_total)

    pub passed_more : {e after m : ℕ} {few : Few} (new : List ℕ) → e ≡ end_after (length (kinds_of sort) - 1 - i) → FieldAt (get_or (kinds_of sort) i Kind.Hex) text next e (Some (few, after)) → m ≡ n + length (list_of few) → take m new ≡ take n out ++ list_of few → Passed text sort at new after m (i + 1)
    passed_more {e} {after} {m} {few} new q (FieldAt.words {f} s w) c t =
        let k = get_or (kinds_of sort) i Kind.Hex in
        let z : e ≡ end_after (length (drop (suc i) (kinds_of sort))) = q ∙ ap end_after others in
        let g : Got text (kinds_of sort) (at + 2) (k ∷ drop (suc i) (kinds_of sort)) next p.words = subst (λ (ks : List Kind). Got text (kinds_of sort) (at + 2) ks next p.words) split p.got in
        let h : Got text (kinds_of sort) (at + 2) (drop (suc i) (kinds_of sort)) after (p.words ++ words_of k f) = Got.more g s.allowed (rw z at s.is) in
        let a : length (list_of few) ≡ places_of k = sym (ap length w) ∙ words_places k f in
        let b : suc i ≡ i + 1 = sym (add-one i) in
        record {
          words = p.words ++ words_of k f;
          begins = p.begins;
          got = rw b at h;
          number = rw (length-append, w) (omega (arith, p.number));
          front = t ∙ rw (p.front, w);
          room = rw (← b) (omega (arith, p.room, more_total));
          within = s.within;
          some = omega arith;
        }

  pub passed_all : length (kinds_of sort) ≤ i → LineAt sort text at out (Some next)
  unfolding row_of row_words
  passed_all h =
      let g : Got text (kinds_of sort) (at + 2) [] next p.words = rw (drop_of_length-le (kinds_of sort) h) at p.got in
      let w = whole g [] Fits.none refl in
      let o = line_of_lem sort w.fields w.fits in
      let e : line_words o.line ≡ p.words = line_words_lem o.line ∙ rw (o.of.is, o.fields) (w.gave ∙ append-nil p.words) in
      LineAt.found o.of
      (record {
        is = p.begins ∙ ap (λ (x : List ℕ). letter_of sort ∷ 32 ∷ x) (w.is ∙ ap (λ (fs : List Field). row_of (kinds_of sort) fs (drop next text)) (sym o.fields)) ∙ sym (line_row o.line (drop next text) o.of);
        within = p.within;
      })
      (rw (e, ← p.number) p.front)
