-- Quads written as words: where each quad of a list has four different corners that exist, so has each record of its words. Assumes nothing.
use mathlib.Core.Path.{◌≡◌, refl, sym, ap, ◌∙◌}
use mathlib.Core.Bool.{false}
use mathlib.Core.List.{List, [], ◌∷◌, Memᴰ}
use Prim.Native.Nat.{ℕ, zero, suc, ◌+◌, ◌*◌, ◌/◌, ◌%◌, ◌<◌}
use native.Mathlib.Omega.{arith}
use borrow.Author.Tests.{ne_eqb}
use lib.ListN.{length, get_or}
use Rattle.mesh.specs.Cells.{names_twice}
use Rattle.mesh.proofs.Some.{some_clear}
use Rattle.cells.specs.Cells.{cell}
use Rattle.quads.specs.declared.Quad.{Quad}
use Rattle.quads.specs.Call.{words_of}
use Rattle.quads.specs.Order.{corner_at}
use Rattle.quads.specs.inner.Ordering.{Exist}
use Rattle.quads.proofs.Apart.{Different}
use Rattle.quads.proofs.Made.{length_words}
use Rattle.quads.proofs.Sorted.{corner_in_lem}

-- the four words from 4·k on are the corners of a quad of the list
record Words (qs : List Quad) (k : ℕ) : Type 0 where
  quad : Quad
  member : Memᴰ quad qs
  is : (j : ℕ) → j < 4 → get_or (words_of qs) (4 * k + j) 0 ≡ corner_at quad j

words_at : (qs : List Quad) (k : ℕ) → k < length qs → Words qs k
unfolding words_of
words_at [] k h = absurd (omega arith)
words_at (q ∷ qs) zero h = record { quad = q; member = Memᴰ.head refl; is = four }
  where
    four : (j : ℕ) → j < 4 → get_or (q.a ∷ q.b ∷ q.c ∷ q.d ∷ words_of qs) (4 * zero + j) 0 ≡ corner_at q j
    four zero l = refl
    four (suc zero) l = refl
    four (suc (suc zero)) l = refl
    four (suc (suc (suc zero))) l = refl
    four (suc (suc (suc (suc j)))) l = absurd (omega arith)
words_at (q ∷ qs) (suc k) h = after (words_at qs k (omega arith))
  where
    after : Words qs k → Words (q ∷ qs) (suc k)
    after w = record {
      quad = w.quad;
      member = Memᴰ.tail w.member;
      is = λ j l. let up : 4 * suc k + j ≡ suc (suc (suc (suc (4 * k + j)))) = omega arith in rw up (w.is j l);
    }

-- ---- a record of four different corners names none twice

clear_if_distinct : (cells : List ℕ) (r : ℕ) → ((i j : ℕ) → cell 4 cells r i ≡ cell 4 cells r j → i % 4 ≡ j % 4) → names_twice 4 cells r ≡ false
unfolding names_twice
clear_if_distinct cells r distinct = some_clear 4 _ (λ i h. some_clear i _ (λ j l. ne_eqb (get_or cells (r * 4 + j) 0) (get_or cells (r * 4 + i) 0) (apart i j h l)))
  where
    apart : (i j : ℕ) → i < 4 → j < i → get_or cells (r * 4 + j) 0 ≡ get_or cells (r * 4 + i) 0 → ⊥
    apart i j h l e =
        let at : (k : ℕ) → k < 4 → r * 4 + k ≡ 4 * r + k % 4 = λ k b. omega arith in
        let same : j % 4 ≡ i % 4 = distinct j i (rw (at j (omega arith), at i h) at e) in
        omega arith

-- ---- the words of a list of such quads

module _ (corners : ℕ) (qs : List Quad) (each : (q : Quad) → Memᴰ q qs → Different q × Exist corners q) where
  pub words_exist : (k : ℕ) → k < length (words_of qs) → get_or (words_of qs) k 0 < corners
  words_exist k h =
      let w = words_at qs (k / 4) (omega (arith, length_words qs)) in
      let split : k ≡ 4 * (k / 4) + k % 4 = omega arith in
      let is = ap (λ (m : ℕ). get_or (words_of qs) m 0) split ∙ w.is (k % 4) (omega arith) in
      rw is (corner_in_lem corners w.quad (each w.quad w.member).1 (k % 4))

  pub words_distinct : (q i j : ℕ) → q < length qs → cell 4 (words_of qs) q i ≡ cell 4 (words_of qs) q j → i % 4 ≡ j % 4
  words_distinct q i j h e =
      let w = words_at qs q h in
      (each w.quad w.member).0 (i % 4) (j % 4) (omega arith) (omega arith) (sym (w.is (i % 4) (omega arith)) ∙ e ∙ w.is (j % 4) (omega arith))

  pub words_clear : (q : ℕ) → q < length qs → names_twice 4 (words_of qs) q ≡ false
  words_clear q h = clear_if_distinct (words_of qs) q (λ i j. words_distinct q i j h)
