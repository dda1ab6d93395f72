-- The middle one of the lengths of a group's run is the median of the group, by counting: the lengths in the run are those of the group's
-- sides, quad by quad in their order. Assumes nothing.
use mathlib.Core.Path.{◌≡◌, refl, sym, ap, ◌∙◌, fun_ext}
use mathlib.Core.Bool.{Bool, true, ◌&&◌, and-true}
use Prim.Native.Nat.{ℕ, zero, suc, ◌+◌, ◌*◌, ◌-◌, ◌/◌, ◌%◌, ◌≤◌, ◌<◌}
use native.Mathlib.Numerals.{add-one}
use native.Mathlib.Decide.{ℕ_discrete, dec_lt}
use native.Mathlib.Omega.{arith}
use lib.Dec.{eqb, ltb}
use borrow.Author.Tests.{eq-eqb, ne_eqb}
use Rattle.words.specs.inner.Middle.{Middle}
use Rattle.words.specs.Sorting.{Sorting, one, equal, below, rank}
use Rattle.words.proofs.Rank.{rec_on, equal_zero, equal_yes, equal_no, below_step}
use Rattle.words.proofs.Sorting.{to_is_rank}
use Rattle.words.proofs.Cuts.{cut}
use Rattle.words.proofs.Counting.{middle_held}
use Rattle.filter.specs.inner.Steps.{Run, MiddleWord, lower_in}
use Rattle.filter.proofs.Ranked.{tally_to, tally_four, lower_tally, equal_tally}

-- ---- counts as tallies

below_tally : (word : ℕ → ℕ) (b m : ℕ) → below word m b ≡ tally_to (λ (k : ℕ). ltb (word k) b) m
unfolding below tally_to
below_tally word b zero = refl
below_tally word b (suc m) = ap (λ (n : ℕ). n + one (ltb (word m) b)) (below_tally word b m)

tally_none : (t : ℕ → Bool) (m : ℕ) → m ≡ 0 → tally_to t m ≡ 0
unfolding tally_to
tally_none t m e = ap (tally_to t) e

tally_all : (m : ℕ) → tally_to (λ (k : ℕ). true) m ≡ m
unfolding tally_to one
tally_all zero = refl
tally_all (suc m) = omega (arith, tally_all m)

-- ---- the run of a group

module _ (group len key runs held : ℕ → ℕ) (n : ℕ) (o : Sorting key n) (is : (q : ℕ) → q < n → key q ≡ group q) (same : (k : ℕ) → k < n → runs k ≡ group (o.from k))
    (of : (k j : ℕ) → k < n → j < 4 → held (4 * k + j) ≡ len (4 * o.from k + j)) (s e : ℕ) (r : Run runs n s e) where
  -- the group, and the group of each side
  abbrev g : ℕ
  g = runs s

  abbrev sides : ℕ → ℕ
  sides i = group (i / 4)

  -- the lengths of the run
  abbrev word : ℕ → ℕ
  word j = held (4 * s + j)

  key_at : (k : ℕ) → k < n → key (o.from k) ≡ runs k
  key_at k h = is (o.from k) (o.from_lt k h) ∙ sym (same k h)

  starts : below key n g ≡ s
  starts = cut key n o g s (omega (arith, r.some, r.within)) (λ k h. let l : k < n = omega (arith, r.some, r.within) in omega (arith, key_at k l, r.before k h)) (λ k h l. go k h l (dec_lt k e))
    where
      go : (k : ℕ) → s ≤ k → k < n → Dec (k < e) → g ≤ key (o.from k)
      go k h l (yes y) = omega (arith, key_at k l, r.alike k h y)
      go k h l (no y) = omega (arith, key_at k l, r.after k (omega arith) l)

  stops : below key n (g + 1) ≡ e
  stops = cut key n o (g + 1) e r.within (λ k h. go k h (dec_lt k s)) (λ k h l. omega (arith, key_at k l, r.after k h l))
    where
      go : (k : ℕ) → k < e → Dec (k < s) → key (o.from k) < g + 1
      go k h (yes y) = let l : k < n = omega (arith, r.within) in omega (arith, key_at k l, r.before k y)
      go k h (no y) = let l : k < n = omega (arith, r.within) in omega (arith, key_at k l, r.alike k (omega arith) h)

  counts : equal key n g ≡ e - s
  counts = omega (arith, starts, stops, below_step key g n)

  -- the lengths of a quad of the group stand after those of the group's quads before it
  stands : (q j : ℕ) → q < n → group q ≡ g → j < 4 → word (4 * equal key q g + j) ≡ len (4 * q + j)
  unfolding rank
  stands q j h e b =
      let k : o.to q ≡ s + equal key q g = to_is_rank key n o q h ∙ ap (λ (z : ℕ). below key n z + equal key q z) (is q h ∙ e) ∙ ap (λ (z : ℕ). z + equal key q g) starts in
      ap held (omega arith) ∙ of (o.to q) j (o.to_lt q h) b ∙ ap (λ (z : ℕ). len (4 * z + j)) (o.from_to q h)

  -- so a test of the run's lengths counts as many as one of the group's sides
  module _ (p : ℕ → Bool) where
    abbrev in_run : ℕ → Bool
    in_run j = p (word j)

    abbrev in_group : ℕ → Bool
    in_group i = eqb (sides i) g && p (len i)

    own : (q j : ℕ) → q < n → group q ≡ g → j < 4 → in_run (4 * equal key q g + j) ≡ in_group (4 * q + j)
    own q j h e l = let d : (4 * q + j) / 4 ≡ q = omega arith in rw (stands q j h e l, d, eq-eqb (group q) g e)

    other : (q j : ℕ) → (group q ≡ g → ⊥) → j < 4 → one (in_group (4 * q + j)) ≡ 0
    unfolding one
    other q j e l = let d : (4 * q + j) / 4 ≡ q = omega arith in rw (d, ne_eqb (group q) g e)

    alike : (q : ℕ) → q ≤ n → tally_to in_run (4 * equal key q g) ≡ tally_to in_group (4 * q)
    alike = rec_on (λ q. q ≤ n → tally_to in_run (4 * equal key q g) ≡ tally_to in_group (4 * q)) (λ h. tally_none in_run (4 * equal key 0 g) (omega (arith, equal_zero key g)) ∙ sym (tally_none in_group (4 * 0) (omega arith))) turn
      where
        turn : (q : ℕ) → (q ≤ n → tally_to in_run (4 * equal key q g) ≡ tally_to in_group (4 * q)) → q + 1 ≤ n → tally_to in_run (4 * equal key (q + 1) g) ≡ tally_to in_group (4 * (q + 1))
        turn q ih h = go (ℕ_discrete (group q) g)
          where
            l : q < n
            l = omega arith

            own_one : (j : ℕ) → group q ≡ g → j < 4 → one (in_run (4 * equal key q g + j)) ≡ one (in_group (4 * q + j))
            own_one j y b = ap one (own q j l y b)

            go : Dec (group q ≡ g) → tally_to in_run (4 * equal key (q + 1) g) ≡ tally_to in_group (4 * (q + 1))
            go (yes y) =
                rw (equal_yes key q g (is q l ∙ y), add-one (equal key q g), add-one q)
                (omega (arith, ih (omega arith), tally_four in_run (equal key q g), tally_four in_group q, own_one 0 y (omega arith), own_one 1 y (omega arith), own_one 2 y (omega arith), own_one 3 y (omega arith)))
            go (no y) =
                rw (equal_no key q g (λ e. y (sym (is q l) ∙ e)), add-one q)
                (omega (arith, ih (omega arith), tally_four in_group q, other q 0 y (omega arith), other q 1 y (omega arith), other q 2 y (omega arith), other q 3 y (omega arith)))

    alike_run : tally_to in_run (4 * (e - s)) ≡ tally_to in_group (4 * n)
    alike_run = rw (← counts) (alike n (omega arith))

  lower_run : (b : ℕ) → below word (4 * (e - s)) b ≡ lower_in sides len g (4 * n) b
  lower_run b = below_tally word b (4 * (e - s)) ∙ alike_run (λ (x : ℕ). ltb x b) ∙ sym (lower_tally sides len g b (4 * n))

  size : equal sides (4 * n) g ≡ 4 * (e - s)
  size = equal_tally sides g (4 * n) ∙ ap (λ (t : ℕ → Bool). tally_to t (4 * n)) (fun_ext (λ i. sym (and-true (eqb (sides i) g)))) ∙ sym (alike_run (λ (x : ℕ). true)) ∙ tally_all (4 * (e - s))

  -- the side at place j of the run
  source : ℕ → ℕ
  source j = 4 * o.from (s + j / 4) + j % 4

  source_is : (j : ℕ) → j < 4 * (e - s) → word j ≡ len (source j)
  unfolding source
  source_is j h = ap held (omega arith) ∙ of (s + j / 4) (j % 4) (omega (arith, r.within)) (omega arith)

  source_of : (j : ℕ) → j < 4 * (e - s) → sides (source j) ≡ g
  unfolding source
  source_of j h =
      let k : s + j / 4 < e = omega (arith, r.some) in
      ap group (omega arith) ∙ sym (same (s + j / 4) (omega (arith, r.within))) ∙ r.alike (s + j / 4) (omega arith) k

  source_lt : (j : ℕ) → j < 4 * (e - s) → source j < 4 * n
  unfolding source
  source_lt j h = omega (arith, o.from_lt (s + j / 4) (omega (arith, r.within)))

  pub middle_word : (b : ℕ) → Middle word (4 * (e - s)) b → MiddleWord sides len (4 * n) g b
  middle_word b m =
      let w = middle_held word (4 * (e - s)) b m in
      record {
        at = source w.0;
        at_lt = source_lt w.0 w.1;
        of = source_of w.0 w.1;
        is = sym (source_is w.0 w.1) ∙ w.2;
        before = omega (arith, m.before, lower_run b, size);
        after = omega (arith, m.after, lower_run (b + 1), size);
      }
