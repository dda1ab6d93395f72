-- The quads that come out are quads that came in, in their order: a rising choice of places, which has every place whose mark is 0
-- (`kept_picked`). So every quad kept is one of those given (`kept_from`), and the promises of merging hold of it. Assumes nothing.
use mathlib.Core.Path.{◌≡◌, refl, sym, ap, ◌∙◌, subst}
use mathlib.Core.Bool.{cond}
use mathlib.Core.List.Memᴰ
use mathlib.Core.List.{List, [], ◌∷◌, ◌++◌, Memᴰ}
use mathlib.Core.Logic.{◌⊎◌, inl, inr}
use Prim.Native.Nat.{ℕ, zero, suc, ◌+◌, ◌*◌, ◌<◌}
use native.Mathlib.Decide.{ℕ_discrete, dec_lt}
use native.Mathlib.Omega.{arith}
use borrow.Author.Tests.{lt-ltb, le-ltb}
use lib.Dec.{ltb}
use lib.ListN.{length, get_or, length-append, get_or-append}
use lib.Seq.{get_or-append_seam}
use Rattle.words.proofs.Rank.{rec_on}
use Rattle.words.proofs.Listing.{each_more}
use Rattle.quads.specs.declared.Quad.{Quad}
use Rattle.std.specs.Prelude.{Ok}
use Rattle.quads.specs.Call.{words_of, gate_of}
use Rattle.quads.specs.Merge as quads
use Rattle.quads.specs.inner.Merging as quads_inner
use Rattle.quads.specs.inner.Ordering.{Exist}
use Rattle.quads.specs.Arranged.{Arranged}
use Rattle.quads.proofs.Apart.{Different, all_different}
use Rattle.quads.proofs.Made.{length_words}
use Rattle.quads.proofs.Ordered.{open_ordered}
use Rattle.filter.specs.Input.{Input, quad_count}
use Rattle.filter.specs.Marks.{quad_at, kept_to, kept_of}
use Rattle.filter.specs.Picked.{Picked}
use Rattle.filter.proofs.Kept.{kept_none, kept_yes, kept_no}

-- ---- a choice of places

-- m places chosen, and v after them
grown : (ℕ → ℕ) → ℕ → ℕ → ℕ → ℕ
grown source m v k = cond (ltb k m) (source k) v

grown_old : (source : ℕ → ℕ) (m v k : ℕ) → k < m → grown source m v k ≡ source k
unfolding grown
grown_old source m v k h = rw (lt-ltb k m h)

grown_new : (source : ℕ → ℕ) (m v : ℕ) → grown source m v m ≡ v
unfolding grown
grown_new source m v = rw (le-ltb m m (omega arith))

picked_none : (quads : List ℕ) (mark : ℕ → ℕ) → Picked quads mark 0 []
picked_none quads mark = record {
  source = λ k. k;
  inside = λ k h. absurd (omega arith);
  rising = λ j k l h. absurd (omega arith);
  is = λ k none h. absurd (omega arith);
  unmarked = λ k h. absurd (omega arith);
  all = λ q h e. absurd (omega arith);
}

module _ (quads : List ℕ) (mark : ℕ → ℕ) (n : ℕ) (out : List Quad) (p : Picked quads mark n out) where
  picked_no : (mark n ≡ 0 → ⊥) → Picked quads mark (n + 1) out
  picked_no d = record {
    source = p.source;
    inside = λ k h. omega (arith, p.inside k h);
    rising = p.rising;
    is = p.is;
    unmarked = p.unmarked;
    all = λ q h e. p.all q (below q h e (ℕ_discrete q n)) e;
  }
    where
      below : (q : ℕ) → q < n + 1 → mark q ≡ 0 → Dec (q ≡ n) → q < n
      below q h e (yes s) = absurd (d (ap mark (sym s) ∙ e))
      below q h e (no s) = omega (arith, s)

  more : List Quad
  more = out ++ (quad_at quads n ∷ [])

  next : ℕ → ℕ
  next = grown p.source (length out) n

  old : (k : ℕ) → k < length out → next k ≡ p.source k
  unfolding next
  old k h = grown_old p.source (length out) n k h

  new : next (length out) ≡ n
  unfolding next
  new = grown_new p.source (length out) n

  longer : length more ≡ length out + 1
  unfolding more
  longer = length-append out (quad_at quads n ∷ [])

  each : (P : ℕ → Type 0) → ((k : ℕ) → k < length out → P k) → P (length out) → (k : ℕ) → k < length more → P k
  each = each_more (length out) (length more) longer

  picked_yes : mark n ≡ 0 → Picked quads mark (n + 1) more
  unfolding more
  picked_yes e = record {
    source = next;
    inside = each (λ (k : ℕ). next k < n + 1) (λ k l. rw (old k l) (omega (arith, p.inside k l))) (rw new (omega arith));
    rising = λ j k l h. each (λ (k : ℕ). j < k → next j < next k) (λ k b l. rw (old k b, old j (omega arith)) (p.rising j k l b)) (λ l. rw (new, old j l) (p.inside j l)) k h l;
    is = λ k none h. each (λ (k : ℕ). get_or more k none ≡ quad_at quads (next k)) (λ k l. get_or-append out (quad_at quads n ∷ []) none k l ∙ p.is k none l ∙ ap (λ (s : ℕ). quad_at quads s) (sym (old k l))) (get_or-append_seam out (quad_at quads n) [] none ∙ ap (λ (s : ℕ). quad_at quads s) (sym new)) k h;
    unmarked = each (λ (k : ℕ). mark (next k) ≡ 0) (λ k l. ap mark (old k l) ∙ p.unmarked k l) (ap mark new ∙ e);
    all = λ q h z. found q z (dec_lt q n) h;
  }
    where
      found : (q : ℕ) → mark q ≡ 0 → Dec (q < n) → q < n + 1 → (k : ℕ) × (k < length more) × (next k ≡ q)
      found q z (yes l) h = let (k, b, s) = p.all q l z in (k, omega (arith, longer), old k b ∙ s)
      found q z (no l) h = (length out, omega (arith, longer), new ∙ omega arith)

kept_to_picked : (quads : List ℕ) (mark : ℕ → ℕ) (n : ℕ) → Picked quads mark n (kept_to quads mark n)
unfolding more
kept_to_picked quads mark = rec_on (λ n. Picked quads mark n (kept_to quads mark n)) (rw (kept_none quads mark) (picked_none quads mark)) (λ n p. turn n p (ℕ_discrete (mark n) 0))
  where
    turn : (n : ℕ) → Picked quads mark n (kept_to quads mark n) → Dec (mark n ≡ 0) → Picked quads mark (n + 1) (kept_to quads mark (n + 1))
    turn n p (yes e) = rw (kept_yes quads mark n e) (picked_yes quads mark n (kept_to quads mark n) p e)
    turn n p (no d) = rw (kept_no quads mark n d) (picked_no quads mark n (kept_to quads mark n) p d)

pub kept_picked : (i : Input) (marks : List ℕ) → Picked i.quads (λ (q : ℕ). get_or marks q 0) (quad_count i) (kept_of i marks)
unfolding kept_of
kept_picked i marks = kept_to_picked i.quads (λ (q : ℕ). get_or marks q 0) (quad_count i)

-- ---- what is true of each quad given

kept_have : (quads : List ℕ) (mark : ℕ → ℕ) (P : Quad → Type 0) (n : ℕ) → ((k : ℕ) → k < n → P (quad_at quads k)) → (q : Quad) → Memᴰ q (kept_to quads mark n) → P q
kept_have quads mark P = rec_on (λ n. ((k : ℕ) → k < n → P (quad_at quads k)) → (q : Quad) → Memᴰ q (kept_to quads mark n) → P q)
    (λ h q m. absurd (Memᴰ.not-nil (rw (kept_none quads mark) at m))) (λ n ih h q m. turn n q (ih (λ k b. h k (omega arith)) q) (h n (omega arith)) (ℕ_discrete (mark n) 0) m)
  where
    turn : (n : ℕ) (q : Quad) → (Memᴰ q (kept_to quads mark n) → P q) → P (quad_at quads n) → Dec (mark n ≡ 0) → Memᴰ q (kept_to quads mark (n + 1)) → P q
    turn n q before here (no d) m = before (rw (kept_no quads mark n d) at m)
    turn n q before here (yes e) m = go (Memᴰ.append_cases (kept_to quads mark n) (rw (kept_yes quads mark n e) at m))
      where
        go : Memᴰ q (kept_to quads mark n) ⊎ Memᴰ q (quad_at quads n ∷ []) → P q
        go (inl l) = before l
        go (inr l) = subst P (sym (Memᴰ.eq_of_singleton l)) here

-- a quad of the words of a list is in the list
words_up : (q : Quad) (l : List ℕ) (k : ℕ) → ◌≡◌ {A = Quad} (quad_at l k) (quad_at (q.a ∷ q.b ∷ q.c ∷ q.d ∷ l) (suc k))
words_up q l k =
    let first : 4 * suc k ≡ suc (suc (suc (suc (4 * k)))) = omega arith in
    let second : 4 * suc k + 1 ≡ suc (suc (suc (suc (4 * k + 1)))) = omega arith in
    let third : 4 * suc k + 2 ≡ suc (suc (suc (suc (4 * k + 2)))) = omega arith in
    let fourth : 4 * suc k + 3 ≡ suc (suc (suc (suc (4 * k + 3)))) = omega arith in
    rw (second, third, fourth, first)

words_in : (qs : List Quad) (k : ℕ) → k < length qs → Memᴰ (quad_at (words_of qs) k) qs
unfolding words_of
words_in [] k h = absurd (omega arith)
words_in (q ∷ qs) zero h = Memᴰ.head refl
words_in (q ∷ qs) (suc k) h = Memᴰ.tail (subst (λ (z : Quad). Memᴰ z qs) (words_up q (words_of qs) k) (words_in qs k (omega arith)))

pub kept_from : (i : Input) (marks : List ℕ) (qs : List Quad) → i.quads ≡ words_of qs → (q : Quad) → Memᴰ q (kept_of i marks) → Memᴰ q qs
unfolding kept_of
kept_from i marks qs given = kept_have i.quads (λ (q : ℕ). get_or marks q 0) (λ (q : Quad). Memᴰ q qs) (quad_count i)
    (λ k h. let l : k < length qs = omega (arith, h, ap length given, length_words qs) in rw given (words_in qs k l))

-- ---- the promises of merging, of quads that it made

pub kept_different : (m : quads.Input) → quads_inner.Sound m → (i : Input) (marks : List ℕ) → i.quads ≡ words_of (quads.merged_of m)
    → (q : Quad) → Memᴰ q (kept_of i marks) → Different q × Exist (length m.xs) q
kept_different m sound i marks given q k = all_different m sound q (kept_from i marks (quads.merged_of m) given q k)

-- merging's rows are enough
pub kept_ordered : (m : quads.Input) → gate_of m ≡ Ok tt → (i : Input) (marks : List ℕ) → i.quads ≡ words_of (quads.merged_of m)
    → (q : Quad) → Memᴰ q (kept_of i marks) → Arranged m q
kept_ordered m through i marks given q k = open_ordered m through q (kept_from i marks (quads.merged_of m) given q k)
