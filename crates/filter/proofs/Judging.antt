-- The marks that the routines leave, one after the other, are those of the three rules. Assumes nothing.
use mathlib.Core.Path.{◌≡◌, refl, sym, ap, ◌∙◌}
use mathlib.Core.Bool.{Bool, true, false, cond, not, ◌&&◌}
use mathlib.Core.List.{List}
use Prim.Native.Nat.{ℕ, zero, suc, ◌+◌, ◌*◌, ◌/◌, ◌%◌, ◌≤◌, ◌<◌}
use native.Mathlib.Omega.{arith}
use lib.Dec.{eqb}
use lib.Ieee as Ieee
use lib.Ieee.{Float, binary32}
use lib.ListN.{length, get_or}
use Rattle.words.specs.Listing.{listing}
use Rattle.words.specs.inner.Regions.{Filled}
use Rattle.words.specs.Sorting.{one}
use Rattle.words.proofs.Listing.{get_d_listing}
use Rattle.measure.proofs.LengthWords.{word_back}
use Rattle.mesh.specs.Cells.{some}
use Rattle.cells.specs.Cells.{Neighbours}
use Rattle.cells.specs.inner.Table.{unmarked, groups_at}
use Rattle.cells.specs.Groups.Linked.{same, on}
use Rattle.cells.proofs.Groups.{same_groups}
use Rattle.filter.specs.declared.FilterParams.{FilterParams}
use Rattle.filter.specs.Input.{Input, quad_count, side_length}
use Rattle.filter.specs.inner.Layout.{lengths_at, medians_at}
use Rattle.filter.specs.Topology.{crowded}
use Rattle.filter.specs.Opposing.{uneven, skewed}
use Rattle.filter.specs.Median.{Median}
use Rattle.filter.specs.Size.{is_skipped, off_size, sides_to}
use Rattle.filter.specs.Marks.{mark_by, left, Joined}
use Rattle.filter.specs.Marks.Marked.{skipped, sized}
use Rattle.filter.specs.inner.Steps.{Sound, side_word, length_in, skew_mark, median_in, size_mark, lower_in, MiddleWord, Weighed, Sized, Judged}
use Rattle.filter.specs.inner.Steps.Sized.{idle, weighed}
use Rattle.filter.proofs.Ranked.{side_is, median_from_word}

-- ---- the rules read four sides and no more

uneven_same : (limit : Float) (f g : ℕ → Float) → ((k : ℕ) → k < 4 → f k ≡ g k) → uneven limit f ≡ uneven limit g
unfolding uneven
uneven_same limit f g h = rw (h 0 (omega arith), h 1 (omega arith), h 2 (omega arith), h 3 (omega arith))

off_same : (p : FilterParams) (median : Float) (f g : ℕ → Float) → ((k : ℕ) → k < 4 → f k ≡ g k) → off_size p median f ≡ off_size p median g
unfolding off_size some
off_same p median f g h = rw (h 0 (omega arith), h 1 (omega arith), h 2 (omega arith), h 3 (omega arith))

-- ---- one mark, by the answers of the rules

by_skew : (c s : Bool) → cond (eqb (one c) 0) (cond s 2 0) (one c) ≡ mark_by c s false
unfolding mark_by one
by_skew true s = refl
by_skew false true = refl
by_skew false false = refl

by_size : (c s o : Bool) → cond (eqb (mark_by c s false) 0) (cond o 3 0) (mark_by c s false) ≡ mark_by c s o
unfolding mark_by
by_size true s o = refl
by_size false true o = refl
by_size false false true = refl
by_size false false false = refl

by_left : (c s : Bool) → eqb (mark_by c s false) 0 ≡ not c && not s
unfolding mark_by
by_left true s = refl
by_left false true = refl
by_left false false = refl

-- ---- the middle of words that are equal below m

lower_same : (group f g : ℕ → ℕ) (c m b : ℕ) → ((e : ℕ) → e < m → f e ≡ g e) → lower_in group f c m b ≡ lower_in group g c m b
unfolding lower_in
lower_same group f g c zero b h = refl
lower_same group f g c (suc m) b h = rw (lower_same group f g c m b (λ e l. h e (omega arith)), h m (omega arith))

middle_same : (group f g : ℕ → ℕ) (m c b : ℕ) → ((e : ℕ) → e < m → f e ≡ g e) → MiddleWord group f m c b → MiddleWord group g m c b
middle_same group f g m c b h w = record {
  at = w.at;
  at_lt = w.at_lt;
  of = w.of;
  is = sym (h w.at w.at_lt) ∙ w.is;
  before = rw (← lower_same group f g c m b h) w.before;
  after = rw (← lower_same group f g c m (b + 1) h) w.after;
}

-- what a region at the front holds
at_front : (xs ys : List ℕ) (n : ℕ) (f : ℕ → ℕ) → Filled xs ys 0 n n f → (q : ℕ) → q < n → get_or ys q 0 ≡ f q
at_front xs ys n f h q l = let z : q ≡ 0 + q = omega arith in ap (λ (k : ℕ). get_or ys k 0) z ∙ h.holds q l

-- ---- the lists that the routines leave: w1 with the first rule's marks, w2 with the lengths, w3 with two rules' marks

module _ (i : Input) (sound : Sound i) (w0 w1 w2 w3 : List ℕ)
    (len1 : length w1 ≡ length w0)
    (first : (q : ℕ) → q < quad_count i → get_or w1 q 0 ≡ one (crowded i.quads q))
    (lengths : Filled w1 w2 (lengths_at (quad_count i)) (length i.quads) (length i.quads) (side_word i.xs i.ys i.quads))
    (second : Filled w2 w3 0 (quad_count i) (quad_count i) (skew_mark i.params.ratio w2 (quad_count i))) where
  abbrev n : ℕ
  n = quad_count i

  -- the word of a side, in any list that holds the words
  side_in : (w : List ℕ) → ((e : ℕ) → e < 4 * n → get_or w (lengths_at n + e) 0 ≡ side_word i.xs i.ys i.quads e) → (q k : ℕ) → q < n → k < 4 → length_in w n q k ≡ side_length i q k
  unfolding length_in side_word
  side_in w h q k a b =
      let quot : (4 * q + k) / 4 ≡ q = omega arith in
      let rest : (4 * q + k) % 4 ≡ k = omega arith in
      ap (Ieee.of_bits binary32) (h (4 * q + k) (omega arith) ∙ rw (quot, rest)) ∙ word_back (side_length i q k) (side_is i q k)

  words2 : (e : ℕ) → e < 4 * n → get_or w2 (lengths_at n + e) 0 ≡ side_word i.xs i.ys i.quads e
  words2 e h = lengths.holds e (omega (arith, sound.whole))

  words3 : (e : ℕ) → e < 4 * n → get_or w3 (lengths_at n + e) 0 ≡ side_word i.xs i.ys i.quads e
  words3 e h = second.kept.rest (lengths_at n + e) (λ j b s. omega arith) ∙ words2 e h

  marks2 : (q : ℕ) → q < n → get_or w2 q 0 ≡ one (crowded i.quads q)
  marks2 q h = lengths.kept.rest q (λ j b s. omega arith) ∙ first q h

  marks3 : (q : ℕ) → q < n → get_or w3 q 0 ≡ mark_by (crowded i.quads q) (skewed i q) false
  unfolding skew_mark skewed
  marks3 q h =
      at_front w2 w3 n (skew_mark i.params.ratio w2 n) second q h
      ∙ rw (marks2 q h, uneven_same i.params.ratio (length_in w2 n q) (side_length i q) (λ k b. side_in w2 words2 q k h b)) (by_skew (crowded i.quads q) (uneven i.params.ratio (side_length i q)))

  left3 : (q : ℕ) → q < n → unmarked w3 q ≡ left i q
  unfolding left
  left3 q h = ap (λ (m : ℕ). eqb m 0) (marks3 q h) ∙ by_left (crowded i.quads q) (skewed i q)

  among : (q : ℕ) → 4 * q + 4 ≤ length i.quads → q < n
  among q h = omega (arith, sound.whole)

  there : (p q : ℕ) → Neighbours 4 i.quads (unmarked w3) p q → Joined i p q
  there p q r = record { from = r.from; to = r.to; from_among = sym (left3 p (among p r.from)) ∙ r.from_among; to_among = sym (left3 q (among q r.to)) ∙ r.to_among; touch = r.touch }

  back : (p q : ℕ) → Joined i p q → Neighbours 4 i.quads (unmarked w3) p q
  back p q r = record { from = r.from; to = r.to; from_among = left3 p (among p r.from) ∙ r.from_among; to_among = left3 q (among q r.to) ∙ r.to_among; touch = r.touch }

  skip : (w4 : List ℕ) → is_skipped i.params ≡ true → w4 ≡ w3 → Judged i w0 w4
  skip w4 e s = record {
    len = ap length s ∙ second.kept.len ∙ lengths.kept.len ∙ len1;
    marks = listing n (λ (q : ℕ). mark_by (crowded i.quads q) (skewed i q) false);
    marked = skipped e;
    held = λ q h. ap (λ (l : List ℕ). get_or l q 0) s ∙ marks3 q h ∙ sym (get_d_listing n (λ (q : ℕ). mark_by (crowded i.quads q) (skewed i q) false) q 0 h);
  }

  module _ (mid w4 : List ℕ) (weight : Weighed i.quads n w3 mid) (third : Filled mid w4 0 n n (size_mark i.params mid n)) where
    abbrev group : ℕ → ℕ
    group q = get_or mid (groups_at n + q) 0

    abbrev median : ℕ → Float
    median g = Ieee.of_bits binary32 (get_or mid (medians_at n + g) 0)

    words4 : (e : ℕ) → e < 4 * n → get_or mid (lengths_at n + e) 0 ≡ side_word i.xs i.ys i.quads e
    words4 e h = weight.lengths e h ∙ words3 e h

    middle : (q : ℕ) → q < n → Median (sides_to i group (group q) n) (median (group q))
    middle q h = median_from_word i group (group q) n _ (middle_same (λ (e : ℕ). group (e / 4)) (λ (e : ℕ). get_or w3 (lengths_at n + e) 0) (side_word i.xs i.ys i.quads) (4 * n) (group q) _ words3 (weight.medians q h))

    marks4 : (q : ℕ) → q < n → get_or w4 q 0 ≡ mark_by (crowded i.quads q) (skewed i q) (off_size i.params (median (group q)) (side_length i q))
    unfolding size_mark median_in
    marks4 q h =
        at_front mid w4 n (size_mark i.params mid n) third q h
        ∙ rw (weight.marks q h ∙ marks3 q h, off_same i.params (median (group q)) (length_in mid n q) (side_length i q) (λ k b. side_in mid words4 q k h b))
        (by_size (crowded i.quads q) (skewed i q) (off_size i.params (median (group q)) (side_length i q)))

    by_weight : is_skipped i.params ≡ false → Judged i w0 w4
    by_weight e = record {
      len = third.kept.len ∙ weight.len ∙ second.kept.len ∙ lengths.kept.len ∙ len1;
      marks = listing n (λ (q : ℕ). mark_by (crowded i.quads q) (skewed i q) (off_size i.params (median (group q)) (side_length i q)));
      marked = sized e group (same_groups (λ p q r. on same (there p q r)) (λ p q r. on same (back p q r)) weight.groups) median (λ q h l. middle q h);
      held = λ q h. marks4 q h ∙ sym (get_d_listing n (λ (q : ℕ). mark_by (crowded i.quads q) (skewed i q) (off_size i.params (median (group q)) (side_length i q))) q 0 h);
    }

  pub judged : (w4 : List ℕ) → Sized i.params i.quads n w3 w4 → Judged i w0 w4
  judged w4 (idle e s) = skip w4 e s
  judged w4 (weighed {mid} e w f) = by_weight mid w4 w f e
