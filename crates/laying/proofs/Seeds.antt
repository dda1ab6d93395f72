-- The state with the seed alone: its four corners take their words from a blank workspace, and it is marked and queued. Assumes nothing.
use mathlib.Core.Path.{◌≡◌, refl, sym, ap, ◌∙◌, subst}
use mathlib.Core.Logic.{◌≢◌, ⊎_elim}
use mathlib.Core.Bool.{Bool, true, false}
use mathlib.Core.List.{List}
use Prim.Native.Nat.{ℕ, ◌+◌, ◌*◌, ◌%◌, ◌≤◌, ◌<◌}
use native.Mathlib.Decide.{ℕ_discrete}
use native.Mathlib.Omega.{arith}
use lib.Dec.{lit<}
use lib.IntN.{pos}
use lib.ListN.{length, get_or, set, length-set}
use Rattle.cells.specs.Cells.{cell}
use Rattle.cells.specs.Kind.{Reached}
use Rattle.cells.specs.Kind.Chain.{here}
use Rattle.cells.specs.Quads.{Round, quads}
use Rattle.cells.proofs.Squares.{first_square}
use Rattle.laying.specs.inner.Layout.{centre, Word, Near, mark, queued, first_word, second_word, pair_of, Given, Blank, Unscanned}
use Rattle.laying.specs.inner.Invariant.{Cornered, State}
use Rattle.laying.specs.inner.Settling.{Bears, Differs, Good, Placed}
use Rattle.laying.specs.inner.Moves.{Planted}
use Rattle.laying.proofs.Reading.{same_word}
use Rattle.laying.proofs.Around.{each}
use Rattle.laying.proofs.Facing.{corner_below}
use Rattle.laying.proofs.Counts.{count_none, count_more}
use Rattle.laying.proofs.Settling.{skip, put}
use Rattle.laying.proofs.Flagged.{flags_none}

surely : (r : Bool) → (r ≡ false → ⊥) → r ≡ true
surely true h = refl
surely false h = absurd (h refl)

-- corners of a quad whose numbers differ are two
pub two_corners : {span : ℕ} {cells : List ℕ} {n : ℕ} (q i j a b : ℕ) → Given span cells n → q < n → i % 4 ≢ j % 4 → a ≡ cell 4 cells q i → b ≡ cell 4 cells q j → a ≢ b
two_corners q i j a b g l h ea eb e = h (g.distinct q i j l (sym ea ∙ e ∙ eb))

module _ (span : ℕ) (cells : List ℕ) (n seed : ℕ) (xs ys zs : List ℕ) (r s : Bool) (given : Given span cells n) (sl : seed < n) (room : 4 * span ≤ length xs) (blank : Blank span n xs)
    (p1 : Placed span xs ys (cell 4 cells seed 0) (cell 4 cells seed 1) centre centre (centre + 1) centre r)
    (p2 : Placed span ys zs (cell 4 cells seed 2) (cell 4 cells seed 3) (centre + 1) (centre + 1) centre (centre + 1) s) where
  lt : (k : ℕ) → cell 4 cells seed k < span
  lt k = corner_below given seed k sl

  two : (i j : ℕ) → i % 4 ≢ j % 4 → cell 4 cells seed i ≢ cell 4 cells seed j
  two i j h = two_corners seed i j (cell 4 cells seed i) (cell 4 cells seed j) given sl h refl refl

  -- a blank corner has no other words
  good1 : Good span xs ys (cell 4 cells seed 0) (cell 4 cells seed 1) centre centre (centre + 1) centre
  good1 = p1.good (surely r (λ z. ⊎_elim
      (λ (d : Differs span xs (cell 4 cells seed 0) centre centre). d.has (blank.first (cell 4 cells seed 0) (lt 0)))
      (λ (d : Differs span xs (cell 4 cells seed 1) (centre + 1) centre). d.has (blank.first (cell 4 cells seed 1) (lt 1))) (p1.bad z)))

  still_blank : (k : ℕ) → k % 4 ≢ 0 → k % 4 ≢ 1 → first_word span ys (cell 4 cells seed k) ≡ 0
  still_blank k a b = (p1.others (cell 4 cells seed k) (lt k) (two k 0 a) (two k 1 b)).first ∙ blank.first (cell 4 cells seed k) (lt k)

  good2 : Good span ys zs (cell 4 cells seed 2) (cell 4 cells seed 3) (centre + 1) (centre + 1) centre (centre + 1)
  good2 = p2.good (surely s (λ z. ⊎_elim
      (λ (d : Differs span ys (cell 4 cells seed 2) (centre + 1) (centre + 1)). d.has (still_blank 2 (omega arith) (omega arith)))
      (λ (d : Differs span ys (cell 4 cells seed 3) centre (centre + 1)). d.has (still_blank 3 (omega arith) (omega arith))) (p2.bad z)))

  ws : List ℕ
  ws = set (set zs seed 1) span seed

  apart : (k : ℕ) → k ≢ seed → k ≢ span → get_or ws k 0 ≡ get_or zs k 0
  unfolding ws
  apart k a b = skip (set zs seed 1) span seed k b ∙ skip zs seed 1 k a

  one : mark ws seed ≡ 1
  unfolding ws
  one = skip (set zs seed 1) span seed seed (omega (arith, given.few)) ∙ put zs seed 1 (omega (arith, given.few, p1.len, p2.len))

  first_queued : queued span ws 0 ≡ seed
  unfolding ws
  first_queued =
      let e : span + 0 ≡ span = omega arith in
      ap (λ (i : ℕ). get_or (set (set zs seed 1) span seed) i 0) e ∙ put (set zs seed 1) span seed (simp length-set (omega (arith, given.few, p1.len, p2.len)))

  len : length ws ≡ length xs
  unfolding ws
  len = simp length-set (p2.len ∙ p1.len)

  high : (k : ℕ) → 4 * span ≤ k → get_or ws k 0 ≡ get_or xs k 0
  high k l = apart k (omega (arith, given.few)) (omega (arith, given.few)) ∙ p2.high k l ∙ p1.high k l

  others : (i : ℕ) → i < n → i ≢ seed → mark ws i ≡ 0
  others i l d = apart i d (omega (arith, given.few)) ∙ p2.low i (omega (arith, given.few)) ∙ p1.low i (omega (arith, given.few)) ∙ blank.marks i l

  bears : (c x y : ℕ) → c < span → Bears span zs c x y → Bears span ws c x y
  bears c x y l b = record { first = apart (2 * span + c) (omega (arith, given.few)) (omega arith) ∙ b.first; second = apart (3 * span + c) (omega (arith, given.few)) (omega arith) ∙ b.second }

  -- a corner that the second placing passed over
  passed : (c x y : ℕ) → c < span → c ≢ cell 4 cells seed 2 → c ≢ cell 4 cells seed 3 → Bears span ys c x y → Bears span ws c x y
  passed c x y l a b h =
      let o = p2.others c l a b in
      bears c x y l (record { first = o.first ∙ h.first; second = o.second ∙ h.second })

  at0 : Bears span ws (cell 4 cells seed 0) centre centre
  at0 = passed (cell 4 cells seed 0) centre centre (lt 0) (two 0 2 (omega arith)) (two 0 3 (omega arith)) good1.at_c

  at1 : Bears span ws (cell 4 cells seed 1) (centre + 1) centre
  at1 = passed (cell 4 cells seed 1) (centre + 1) centre (lt 1) (two 1 2 (omega arith)) (two 1 3 (omega arith)) good1.at_d

  at2 : Bears span ws (cell 4 cells seed 2) (centre + 1) (centre + 1)
  at2 = bears (cell 4 cells seed 2) (centre + 1) (centre + 1) (lt 2) good2.at_c

  at3 : Bears span ws (cell 4 cells seed 3) centre (centre + 1)
  at3 = bears (cell 4 cells seed 3) centre (centre + 1) (lt 3) good2.at_d

  -- every other corner has none
  none : (c : ℕ) → c < span → c ≢ cell 4 cells seed 0 → c ≢ cell 4 cells seed 1 → c ≢ cell 4 cells seed 2 → c ≢ cell 4 cells seed 3 → Bears span ws c 0 0
  none c l a b d e =
      let o = p1.others c l a b in
      passed c 0 0 l d e (record { first = o.first ∙ blank.first c l; second = o.second ∙ blank.second c l })

  -- so a corner with a word is one of the four
  which : (P : ℕ → Type 0) → P (cell 4 cells seed 0) → P (cell 4 cells seed 1) → P (cell 4 cells seed 2) → P (cell 4 cells seed 3) → (c : ℕ) → c < span → (Bears span ws c 0 0 → ⊥) → P c
  which P h0 h1 h2 h3 c l m = go (ℕ_discrete c (cell 4 cells seed 0)) (ℕ_discrete c (cell 4 cells seed 1)) (ℕ_discrete c (cell 4 cells seed 2)) (ℕ_discrete c (cell 4 cells seed 3))
    where
      go : Dec (c ≡ cell 4 cells seed 0) → Dec (c ≡ cell 4 cells seed 1) → Dec (c ≡ cell 4 cells seed 2) → Dec (c ≡ cell 4 cells seed 3) → P c
      go (yes e) b d g = subst P (sym e) h0
      go (no a) (yes e) d g = subst P (sym e) h1
      go (no a) (no b) (yes e) g = subst P (sym e) h2
      go (no a) (no b) (no d) (yes e) = subst P (sym e) h3
      go (no a) (no b) (no d) (no g) = absurd (m (none c l a b d g))

  own : (q : ℕ) → q < n → mark ws q ≢ 0 → q ≡ seed
  own q l m = go (ℕ_discrete q seed)
    where
      go : Dec (q ≡ seed) → q ≡ seed
      go (yes e) = e
      go (no d) = absurd (m (others q l d))

  only_one : (P : ℕ → Type 0) → P seed → (i : ℕ) → i < 1 → P (queued span ws i)
  only_one P h i l =
      let z : i ≡ 0 = omega arith in
      rw (z, first_queued) h

  cornered : (k : ℕ) → Cornered span cells ws 1 (cell 4 cells seed k)
  cornered k = record { at = 0; place = k; small = omega arith; is = ap (λ (q : ℕ). cell 4 cells q k) first_queued }

  round : Round (pair_of span ws) (cell 4 cells seed)
  round = rw (at0.first, at0.second, at1.first, at1.second, at2.first, at2.second, at3.first, at3.second) first_square

  full : (k : ℕ) → first_word span ws (cell 4 cells seed k) ≢ 0
  full k = each cells seed 0 (λ (c : ℕ). first_word span ws c ≢ 0) (λ z. omega (arith, at0.first)) (λ z. omega (arith, at1.first)) (λ z. omega (arith, at2.first)) (λ z. omega (arith, at3.first)) k

  near : (c x y : ℕ) → Bears span ws c x y → Near 1 x → Near 1 y → Near 1 (first_word span ws c) × Near 1 (second_word span ws c)
  near c x y b h k = rw (b.first, b.second) (h, k)

  seed_state : Unscanned span cells n seed xs → State span cells n seed ws 1
  seed_state u = record {
    cover = record {
      counted = count_more xs ws n seed sl (blank.marks seed sl) one (λ i l d. others i l d ∙ sym (blank.marks i l)) ∙ ap (λ (m : ℕ). m + 1) (count_none xs n blank.marks);
      within = only_one (λ (q : ℕ). q < n) sl;
      waits = λ q l m. record { at = 0; small = omega arith; is = first_queued ∙ sym (own q l m) };
      first = λ c l m. which (λ (d : ℕ). Cornered span cells ws 1 d) (cornered 0) (cornered 1) (cornered 2) (cornered 3) c l (λ b. m b.first);
      second = λ c l m. which (λ (d : ℕ). Cornered span cells ws 1 d) (cornered 0) (cornered 1) (cornered 2) (cornered 3) c l (λ b. m b.second);
    };
    sound = only_one (λ (q : ℕ). Reached quads cells seed q) here;
    marked = only_one (λ (q : ℕ). mark ws q ≢ 0) (λ z. omega (arith, one));
    round = λ q l m. rw (own q l m) round;
    full = λ q l m k. rw (own q l m) (full k);
    agrees = λ L fit c l m. which (λ (d : ℕ). L d ≡ pair_of span ws d)
        (rw (at0.first, at0.second) (fit.reads 0 (lit< tt))) (rw (at1.first, at1.second) (fit.reads 1 (lit< tt)))
        (rw (at2.first, at2.second) (fit.reads 2 (lit< tt))) (rw (at3.first, at3.second) (fit.reads 3 (lit< tt))) c l (λ b. m b.first);
    near = λ c l m.
        let h0 : Near 1 centre = record { low = omega arith; high = omega arith } in
        let h1 : Near 1 (centre + 1) = record { low = omega arith; high = omega arith } in
        which (λ (d : ℕ). Near 1 (first_word span ws d) × Near 1 (second_word span ws d))
        (near (cell 4 cells seed 0) centre centre at0 h0 h0) (near (cell 4 cells seed 1) (centre + 1) centre at1 h1 h0)
        (near (cell 4 cells seed 2) (centre + 1) (centre + 1) at2 h1 h1) (near (cell 4 cells seed 3) centre (centre + 1) at3 h0 h1) c l (λ b. m b.first);
    flags = flags_none given xs ws high u;
  }

  planted : Unscanned span cells n seed xs → Planted span cells n seed xs (set (set zs seed 1) span seed)
  unfolding ws
  planted u = record {
    rest = record { len = len; rest = λ k l f. high k l };
    state = seed_state u;
    first = λ z. omega (arith, one);
    seeded = record { a = at0; b = at1; c = at2; d = at3 };
  }

-- the word of 0 and that of 1
pub word_zero : {w : ℕ} → Word (pos 0) w → w ≡ centre
word_zero {w} h = same_word w centre (sym h.is)

pub word_one : {w : ℕ} → Word (pos 1) w → w ≡ centre + 1
word_one {w} h = same_word w (centre + 1) (sym h.is)

-- the same, of corners and words by other names
pub planted_at : (span : ℕ) (cells : List ℕ) (n seed : ℕ) (xs ys zs : List ℕ) (r s : Bool) (a b c d o i : ℕ) → Given span cells n → seed < n → 4 * span ≤ length xs → Blank span n xs → Unscanned span cells n seed xs
    → a ≡ cell 4 cells seed 0 → b ≡ cell 4 cells seed 1 → c ≡ cell 4 cells seed 2 → d ≡ cell 4 cells seed 3 → o ≡ centre → i ≡ centre + 1
    → Placed span xs ys a b o o i o r → Placed span ys zs c d i i o i s → Planted span cells n seed xs (set (set zs seed 1) span seed)
planted_at span cells n seed xs ys zs r s a b c d o i given sl room blank u ea eb ec ed eo ei p q = planted span cells n seed xs ys zs r s given sl room blank (rw (ea, eb, eo, ei) at p) (rw (ec, ed, eo, ei) at q) u
