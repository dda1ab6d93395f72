-- Laws of the quads kept: how they grow, how many they are, and the list that holds them at its front. Assumes nothing.
use mathlib.Core.Path.{◌≡◌, refl, sym, ap, ◌∙◌}
use mathlib.Core.List.{List, [], ◌∷◌, ◌++◌, append-nil}
use Prim.Native.Nat.{ℕ, zero, suc, ◌+◌, ◌*◌, ◌≤◌, ◌<◌}
use native.Mathlib.Numerals.{add-one}
use native.Mathlib.Decide.{ℕ_discrete}
use native.Mathlib.Omega.{arith}
use borrow.Author.Tests.{eq-eqb, ne_eqb}
use lib.Dec.{eqb}
use lib.ListN.{length, get_or, take, drop, length-append}
use Rattle.std.specs.List.{count_by}
use Rattle.std.proofs.lemmas.List.Sums.{count_by_more_no, count_by_more_yes}
use Rattle.words.specs.Sorting.{equal}
use Rattle.words.proofs.Rank.{equal_zero, equal_yes, equal_no, equal_le, equal_mono, rec_on}
use Rattle.quads.specs.declared.Quad.{Quad}
use Rattle.quads.specs.Call.{words_of}
use Rattle.quads.proofs.Made.{Held, held_more, held_length, held_behind, held_by}
use Rattle.filter.specs.Marks.{quad_at, kept_to}

module _ (quads : List ℕ) (mark : ℕ → ℕ) where
  pub kept_none : kept_to quads mark 0 ≡ []
  unfolding kept_to
  kept_none = refl

  pub kept_yes : (q : ℕ) → mark q ≡ 0 → kept_to quads mark (q + 1) ≡ kept_to quads mark q ++ (quad_at quads q ∷ [])
  unfolding kept_to
  kept_yes q e = rw (add-one q, eq-eqb (mark q) 0 e)

  pub kept_no : (q : ℕ) → (mark q ≡ 0 → ⊥) → kept_to quads mark (q + 1) ≡ kept_to quads mark q
  unfolding kept_to
  kept_no q n = rw (add-one q, ne_eqb (mark q) 0 n) (append-nil (kept_to quads mark q))

  pub kept_count : (n : ℕ) → equal mark n 0 ≡ length (kept_to quads mark n)
  kept_count = rec_on (λ n. equal mark n 0 ≡ length (kept_to quads mark n)) (equal_zero mark 0 ∙ sym (ap length kept_none)) turn
    where
      turn : (n : ℕ) → equal mark n 0 ≡ length (kept_to quads mark n) → equal mark (n + 1) 0 ≡ length (kept_to quads mark (n + 1))
      turn n ih = go (ℕ_discrete (mark n) 0)
        where
          go : Dec (mark n ≡ 0) → equal mark (n + 1) 0 ≡ length (kept_to quads mark (n + 1))
          go (yes e) = equal_yes mark n 0 e ∙ ap (λ (k : ℕ). k + 1) ih ∙ sym (ap length (kept_yes n e) ∙ length-append (kept_to quads mark n) (quad_at quads n ∷ []))
          go (no d) = equal_no mark n 0 d ∙ ih ∙ sym (ap length (kept_no n d))

  pub kept_le : (n : ℕ) → length (kept_to quads mark n) ≤ n
  kept_le n = omega (arith, kept_count n, equal_le mark 0 n)

  -- one that is kept leaves fewer before it
  kept_room : (q n : ℕ) → mark q ≡ 0 → q < n → length (kept_to quads mark q) + 1 ≤ length (kept_to quads mark n)
  kept_room q n e h = omega (arith, equal_mono mark 0 (q + 1) n (omega arith), equal_yes mark q 0 e, kept_count q, kept_count n)

-- how many words at the front of a list are 0
pub zeros_counted : (xs : List ℕ) (n : ℕ) → n ≤ length xs → count_by (λ (x : ℕ). eqb x 0) (take n xs) ≡ equal (λ (q : ℕ). get_or xs q 0) n 0
zeros_counted xs = rec_on (λ n. n ≤ length xs → count_by (λ (x : ℕ). eqb x 0) (take n xs) ≡ equal (λ (q : ℕ). get_or xs q 0) n 0) (λ h. sym (equal_zero _ 0)) turn
  where
    turn : (n : ℕ) → (n ≤ length xs → count_by (λ (x : ℕ). eqb x 0) (take n xs) ≡ equal (λ (q : ℕ). get_or xs q 0) n 0) → n + 1 ≤ length xs
        → count_by (λ (x : ℕ). eqb x 0) (take (n + 1) xs) ≡ equal (λ (q : ℕ). get_or xs q 0) (n + 1) 0
    turn n ih h = go (ℕ_discrete (get_or xs n 0) 0)
      where
        go : Dec (get_or xs n 0 ≡ 0) → count_by (λ (x : ℕ). eqb x 0) (take (n + 1) xs) ≡ equal (λ (q : ℕ). get_or xs q 0) (n + 1) 0
        go (yes e) = count_by_more_yes _ xs n 0 (omega arith) (eq-eqb _ 0 e) ∙ ap (λ (k : ℕ). k + 1) (ih (omega arith)) ∙ sym (equal_yes _ n 0 e)
        go (no d) = count_by_more_no _ xs n 0 (omega arith) (ne_eqb _ 0 d) ∙ ih (omega arith) ∙ sym (equal_no _ n 0 d)

-- lists that agree on four words have one quad there
quad_same : (quads others : List ℕ) (q : ℕ) → ((k : ℕ) → 4 * q ≤ k → k < 4 * q + 4 → get_or quads k 0 ≡ get_or others k 0) → quad_at quads q ≡ quad_at others q
quad_same quads others q h = rw (h (4 * q) (omega arith) (omega arith), h (4 * q + 1) (omega arith) (omega arith), h (4 * q + 2) (omega arith) (omega arith), h (4 * q + 3) (omega arith) (omega arith))

-- lists and marks that agree below n keep the same quads
pub kept_same : (quads others : List ℕ) (mark other : ℕ → ℕ) (n : ℕ) → ((k : ℕ) → k < 4 * n → get_or quads k 0 ≡ get_or others k 0) → ((q : ℕ) → q < n → mark q ≡ other q)
    → kept_to quads mark n ≡ kept_to others other n
unfolding kept_to
kept_same quads others mark other zero words marks = refl
kept_same quads others mark other (suc n) words marks =
    let before = kept_same quads others mark other n (λ k l. words k (omega arith)) (λ q l. marks q (omega arith)) in
    let here = quad_same quads others n (λ k a b. words k (omega arith)) in
    rw (before, here, marks n (omega arith))

-- ---- the list that holds them at its front

-- of the quads below q those kept stand in the first `at` words, and the rest is as it was
pub record Wrote (quads : List ℕ) (mark : ℕ → ℕ) (before now : List ℕ) (at q : ℕ) : Type 0 where
  pub end : at ≡ 4 * length (kept_to quads mark q)
  pub held : Held (kept_to quads mark q) before now
  pub len : length now ≡ length before

module _ (quads : List ℕ) (mark : ℕ → ℕ) (before : List ℕ) where
  pub wrote_none : Wrote quads mark before before 0 0
  unfolding words_of
  wrote_none = record { end = sym (ap (λ (l : List Quad). 4 * length l) (kept_none quads mark)); held = held_by (kept_to quads mark 0) [] before before (kept_none quads mark) refl; len = refl }

  pub wrote_room : (now : List ℕ) (at q n : ℕ) → Wrote quads mark before now at q → mark q ≡ 0 → q < n → 4 * length (kept_to quads mark n) ≤ length before → at + 4 ≤ length now
  wrote_room now at q n w e h room = omega (arith, w.end, w.len, kept_room quads mark q n e h)

  pub wrote_yes : (now after : List ℕ) (at q : ℕ) (quad : Quad) → Wrote quads mark before now at q → mark q ≡ 0 → quad ≡ quad_at quads q → at + 4 ≤ length now
      → after ≡ take at now ++ ((quad.a ∷ quad.b ∷ quad.c ∷ quad.d ∷ []) ++ drop (at + 4) now) → Wrote quads mark before after (at + 4) (q + 1)
  wrote_yes now after at q quad w e is room stored =
      let qs = kept_to quads mark q in
      let same : kept_to quads mark (q + 1) ≡ qs ++ (quad ∷ []) = kept_yes quads mark q e ∙ ap (λ (z : Quad). qs ++ (z ∷ [])) (sym is) in
      let more : length (qs ++ (quad ∷ [])) ≡ length qs + 1 = length-append qs (quad ∷ []) in
      let held = held_more qs quad before now after at w.end (omega (arith, w.end, w.len)) w.held stored in
      record {
        end = rw same (omega (arith, w.end));
        held = held_by (kept_to quads mark (q + 1)) (qs ++ (quad ∷ [])) before after same held;
        len = held_length (qs ++ (quad ∷ [])) before after (omega (arith, w.end, w.len)) held;
      }

  pub wrote_no : (now : List ℕ) (at q : ℕ) → Wrote quads mark before now at q → (mark q ≡ 0 → ⊥) → Wrote quads mark before now at (q + 1)
  wrote_no now at q w d = record {
    end = w.end ∙ sym (ap (λ (l : List Quad). 4 * length l) (kept_no quads mark q d));
    held = held_by (kept_to quads mark (q + 1)) (kept_to quads mark q) before now (kept_no quads mark q d) w.held;
    len = w.len;
  }

-- ---- in place: no more are kept than were looked at, so a quad that was not is as it was

module _ (quads : List ℕ) (mark : ℕ → ℕ) (now : List ℕ) (at q : ℕ) (w : Wrote quads mark quads now at q) where
  pub wrote_before : at ≤ 4 * q
  wrote_before = omega (arith, w.end, kept_le quads mark q)

  pub quad_unmoved : quad_at now q ≡ quad_at quads q
  quad_unmoved = quad_same now quads q (λ k a b. held_behind (kept_to quads mark q) quads now w.held k (omega (arith, w.end, wrote_before)))
