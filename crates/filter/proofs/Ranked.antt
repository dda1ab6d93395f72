-- Medians by rank: a list of lengths has one median, and the median of a group's words is the word of the median of its sides, since
-- lengths stand in the order of their words. Assumes nothing.
use mathlib.Core.Path.{◌≡◌, refl, sym, ap, ◌∙◌, subst}
use mathlib.Core.Bool.{Bool, true, false, cond, not, ◌&&◌, and-true}
use mathlib.Core.List.{List, [], ◌∷◌, ◌++◌}
use Prim.Native.Nat.{ℕ, zero, suc, ◌+◌, ◌*◌, ◌/◌, ◌%◌, ◌≤◌, ◌<◌}
use native.Mathlib.Decide.{ℕ_discrete}
use native.Mathlib.Nat.{le_refl, le_of_suc-le-suc, not-suc-le-zero}
use native.Mathlib.Omega.{arith}
use borrow.Author.Tests.{ltb-true, ltb-false, lt-ltb, le-ltb, eq-eqb}
use lib.Dec.{eqb, ltb}
use lib.Ieee as Ieee
use lib.Ieee.{Float, nan, binary32}
use lib.ListN.{length, get_or, length-append, get_or-append}
use lib.Seq.{get_or-append-add}
use Rattle.measure.proofs.LengthWords.{IsLength, length_is, word_back, word_one, word_order}
use Rattle.words.specs.Sorting.{one, equal}
use Rattle.filter.specs.Input.{Input, side_length, length_of_side, length_between}
use Rattle.filter.specs.Median.{less, up_to, Median}
use Rattle.filter.specs.Size.{sides_to}
use Rattle.filter.specs.inner.Steps.{side_word, lower_in, MiddleWord}

-- ---- lists of lengths

abbrev pub Lengths : List Float → Type 0
Lengths l = (k : ℕ) → k < length l → IsLength (get_or l k nan)

lengths_cons : (x : Float) (l : List Float) → IsLength x → Lengths l → Lengths (x ∷ l)
lengths_cons x l p h zero b = p
lengths_cons x l p h (suc k) b = h k (le_of_suc-le-suc b)

lengths_tail : (x : Float) (l : List Float) → Lengths (x ∷ l) → Lengths l
lengths_tail x l h k b = h (suc k) (omega arith)

lengths_append : (l m : List Float) → Lengths l → Lengths m → Lengths (l ++ m)
lengths_append [] m p q = q
lengths_append (x ∷ l) m p q = lengths_cons x (l ++ m) (p 0 (omega arith)) (lengths_append l m (lengths_tail x l p) q)

-- ---- one median

-- what is not greater than v is less than w, where v is
pass_le : (x v w : Float) → IsLength x → IsLength v → IsLength w → Ieee.lt v w ≡ true → one (not (Ieee.lt v x)) ≤ one (Ieee.lt x w)
unfolding one
pass_le x v w lx lv lw h = go (Ieee.lt v x) refl
  where
    go : (t : Bool) → Ieee.lt v x ≡ t → one (not (Ieee.lt v x)) ≤ one (Ieee.lt x w)
    go true e = rw e (omega arith)
    go false e =
        let x' = Ieee.to_bits binary32 x in
        let v' = Ieee.to_bits binary32 v in
        let w' = Ieee.to_bits binary32 w in
        let a : x' ≤ v' = ltb-false v' x' (sym (word_order v x lv lx) ∙ e) in
        let b : v' < w' = ltb-true v' w' (sym (word_order v w lv lw) ∙ h) in
        rw (e, word_order x w lx lw, lt-ltb x' w' (omega arith)) (le_refl 1)

up_to_less : (l : List Float) (v w : Float) → Lengths l → IsLength v → IsLength w → Ieee.lt v w ≡ true → up_to l v ≤ less l w
unfolding up_to less
up_to_less [] v w p lv lw h = omega arith
up_to_less (x ∷ l) v w p lv lw h = omega (arith, pass_le x v w (p 0 (omega arith)) lv lw h, up_to_less l v w (lengths_tail x l p) lv lw h)

median_length : (l : List Float) (v : Float) → Lengths l → Median l v → IsLength v
median_length l v p m = subst IsLength m.is (p m.at m.at_lt)

not_less : (l : List Float) (v w : Float) → Lengths l → Median l v → Median l w → Ieee.lt v w ≡ true → ⊥
not_less l v w p m n h = omega (arith, up_to_less l v w p (median_length l v p m) (median_length l w p n) h, m.after, n.before)

pub one_median : (l : List Float) → Lengths l → (v w : Float) → Median l v → Median l w → v ≡ w
one_median l p v w m n = go (ltb (Ieee.to_bits binary32 v) (Ieee.to_bits binary32 w)) (ltb (Ieee.to_bits binary32 w) (Ieee.to_bits binary32 v)) refl refl
  where
    lv : IsLength v
    lv = median_length l v p m

    lw : IsLength w
    lw = median_length l w p n

    go : (s t : Bool) → ltb (Ieee.to_bits binary32 v) (Ieee.to_bits binary32 w) ≡ s → ltb (Ieee.to_bits binary32 w) (Ieee.to_bits binary32 v) ≡ t → v ≡ w
    go true t e f = absurd (not_less l v w p m n (word_order v w lv lw ∙ e))
    go false true e f = absurd (not_less l w v p n m (word_order w v lw lv ∙ f))
    go false false e f = word_one v w lv lw (omega (arith, ltb-false (Ieee.to_bits binary32 v) (Ieee.to_bits binary32 w) e, ltb-false (Ieee.to_bits binary32 w) (Ieee.to_bits binary32 v) f))

-- ---- counts

-- how many of a list pass
unfoldable tally : (Float → Bool) → List Float → ℕ
tally p [] = 0
tally p (x ∷ l) = one (p x) + tally p l

-- how many of the first m places pass
unfoldable pub tally_to : (ℕ → Bool) → ℕ → ℕ
tally_to t zero = 0
tally_to t (suc m) = tally_to t m + one (t m)

less_tally : (l : List Float) (v : Float) → less l v ≡ tally (λ (x : Float). Ieee.lt x v) l
unfolding less tally
less_tally [] v = refl
less_tally (x ∷ l) v = ap (λ (n : ℕ). one (Ieee.lt x v) + n) (less_tally l v)

up_to_tally : (l : List Float) (v : Float) → up_to l v ≡ tally (λ (x : Float). not (Ieee.lt v x)) l
unfolding up_to tally
up_to_tally [] v = refl
up_to_tally (x ∷ l) v = ap (λ (n : ℕ). one (not (Ieee.lt v x)) + n) (up_to_tally l v)

length_tally : (l : List Float) → length l ≡ tally (λ (x : Float). true) l
unfolding tally one
length_tally [] = refl
length_tally (x ∷ l) = rw (← length_tally l) (omega arith)

pub lower_tally : (group len : ℕ → ℕ) (g b m : ℕ) → lower_in group len g m b ≡ tally_to (λ (e : ℕ). eqb (group e) g && ltb (len e) b) m
unfolding lower_in tally_to
lower_tally group len g b zero = refl
lower_tally group len g b (suc m) = ap (λ (n : ℕ). n + one (eqb (group m) g && ltb (len m) b)) (lower_tally group len g b m)

pub equal_tally : (group : ℕ → ℕ) (g m : ℕ) → equal group m g ≡ tally_to (λ (e : ℕ). eqb (group e) g) m
unfolding equal tally_to
equal_tally group g zero = refl
equal_tally group g (suc m) = ap (λ (n : ℕ). n + one (eqb (group m) g)) (equal_tally group g m)

tally_append : (p : Float → Bool) (l m : List Float) → tally p (l ++ m) ≡ tally p l + tally p m
unfolding tally
tally_append p [] m = omega arith
tally_append p (x ∷ l) m = rw (tally_append p l m) (omega arith)

tally_next : (t : ℕ → Bool) (m n : ℕ) → n ≡ suc m → tally_to t n ≡ tally_to t m + one (t m)
unfolding tally_to
tally_next t m n e = ap (tally_to t) e

-- the four places of quad q
pub tally_four : (t : ℕ → Bool) (q : ℕ) → tally_to t (4 * suc q) ≡ tally_to t (4 * q) + (one (t (4 * q + 0)) + (one (t (4 * q + 1)) + (one (t (4 * q + 2)) + (one (t (4 * q + 3)) + 0))))
tally_four t q =
    let a = tally_next t (4 * q + 0) (4 * q + 1) (omega arith) in
    let b = tally_next t (4 * q + 1) (4 * q + 2) (omega arith) in
    let c = tally_next t (4 * q + 2) (4 * q + 3) (omega arith) in
    let d = tally_next t (4 * q + 3) (4 * suc q) (omega arith) in
    let z : tally_to t (4 * q + 0) ≡ tally_to t (4 * q) = ap (tally_to t) (omega arith) in
    omega arith

not_above : (a b : ℕ) → ltb a (b + 1) ≡ not (ltb b a)
not_above a b = go (ltb b a) refl
  where
    go : (t : Bool) → ltb b a ≡ t → ltb a (b + 1) ≡ not (ltb b a)
    go true e = rw (e, le-ltb a (b + 1) (omega (arith, ltb-true b a e)))
    go false e = rw (e, lt-ltb a (b + 1) (omega (arith, ltb-false b a e)))

-- ---- x stands in a list

abbrev Held : List Float → Float → Type 0
Held l x = (k : ℕ) × (k < length l) × (get_or l k nan ≡ x)

held_left : (l m : List Float) (x : Float) → Held l x → Held (l ++ m) x
held_left l m x (k, h, e) = (k, omega (arith, length-append l m), get_or-append l m nan k h ∙ e)

held_right : (l m : List Float) (x : Float) → Held m x → Held (l ++ m) x
held_right l m x (k, h, e) = (length l + k, omega (arith, length-append l m), get_or-append-add l m k nan ∙ e)

-- ---- the sides of a group are lengths

pub side_is : (i : Input) (q k : ℕ) → IsLength (side_length i q k)
unfolding length_of_side length_between
side_is i q k = length_is _ _

module _ (i : Input) (group : ℕ → ℕ) (g : ℕ) where
  -- the sides of quad q, and those that it adds
  abbrev sides : ℕ → List Float
  sides q = side_length i q 0 ∷ side_length i q 1 ∷ side_length i q 2 ∷ side_length i q 3 ∷ []

  abbrev added : ℕ → List Float
  added q = cond (eqb (group q) g) (sides q) []

  sides_at_lem : (q k : ℕ) → k < 4 → get_or (sides q) k nan ≡ side_length i q k
  sides_at_lem q zero h = refl
  sides_at_lem q (suc zero) h = refl
  sides_at_lem q (suc (suc zero)) h = refl
  sides_at_lem q (suc (suc (suc zero))) h = refl
  sides_at_lem q (suc (suc (suc (suc k)))) h = absurd (omega arith)

  added_lengths : (q : ℕ) → Lengths (added q)
  added_lengths q = go (eqb (group q) g)
    where
      go : (t : Bool) → Lengths (cond t (sides q) [])
      go true k h = subst IsLength (sym (sides_at_lem q k h)) (side_is i q k)
      go false k h = absurd (not-suc-le-zero h)

  pub sides_lengths : (n : ℕ) → Lengths (sides_to i group g n)
  unfolding sides_to
  sides_lengths zero = λ k h. absurd (not-suc-le-zero h)
  sides_lengths (suc q) = lengths_append (sides_to i group g q) (added q) (sides_lengths q) (added_lengths q)

  -- ---- counting the sides is counting their places

  module _ (p : Float → Bool) (t : ℕ → Bool) (same : (q k : ℕ) → k < 4 → t (4 * q + k) ≡ (eqb (group q) g && p (side_length i q k))) where
    added_tally : (q : ℕ) → tally p (added q) ≡ one (t (4 * q + 0)) + (one (t (4 * q + 1)) + (one (t (4 * q + 2)) + (one (t (4 * q + 3)) + 0)))
    unfolding tally one
    added_tally q = rw (same q 0 (omega arith), same q 1 (omega arith), same q 2 (omega arith), same q 3 (omega arith)) (go (eqb (group q) g))
      where
        go : (u : Bool) → tally p (cond u (sides q) []) ≡ one (u && p (side_length i q 0)) + (one (u && p (side_length i q 1)) + (one (u && p (side_length i q 2)) + (one (u && p (side_length i q 3)) + 0)))
        go true = refl
        go false = refl

    tally_sides : (n : ℕ) → tally p (sides_to i group g n) ≡ tally_to t (4 * n)
    unfolding sides_to tally tally_to
    tally_sides zero = refl
    tally_sides (suc q) = rw (tally_append p (sides_to i group g q) (added q), tally_sides q, added_tally q, tally_four t q)

  word_at : (q k : ℕ) → k < 4 → side_word i.xs i.ys i.quads (4 * q + k) ≡ Ieee.to_bits binary32 (side_length i q k)
  unfolding side_word
  word_at q k h =
      let a : (4 * q + k) / 4 ≡ q = omega arith in
      let b : (4 * q + k) % 4 ≡ k = omega arith in
      rw (a, b)

  group_at : (q k : ℕ) → k < 4 → group ((4 * q + k) / 4) ≡ group q
  group_at q k h = ap group (omega arith)

  less_words : (v : Float) → IsLength v → (n : ℕ) → less (sides_to i group g n) v ≡ lower_in (λ (e : ℕ). group (e / 4)) (side_word i.xs i.ys i.quads) g (4 * n) (Ieee.to_bits binary32 v)
  less_words v l n =
      less_tally (sides_to i group g n) v
      ∙ tally_sides (λ (x : Float). Ieee.lt x v) (λ (e : ℕ). eqb (group (e / 4)) g && ltb (side_word i.xs i.ys i.quads e) (Ieee.to_bits binary32 v)) same n
      ∙ sym (lower_tally (λ (e : ℕ). group (e / 4)) (side_word i.xs i.ys i.quads) g (Ieee.to_bits binary32 v) (4 * n))
    where
      same : (q k : ℕ) → k < 4 → (eqb (group ((4 * q + k) / 4)) g && ltb (side_word i.xs i.ys i.quads (4 * q + k)) (Ieee.to_bits binary32 v)) ≡ (eqb (group q) g && Ieee.lt (side_length i q k) v)
      same q k h = rw (group_at q k h, word_at q k h, word_order (side_length i q k) v (side_is i q k) l)

  up_to_words : (v : Float) → IsLength v → (n : ℕ) → up_to (sides_to i group g n) v ≡ lower_in (λ (e : ℕ). group (e / 4)) (side_word i.xs i.ys i.quads) g (4 * n) (Ieee.to_bits binary32 v + 1)
  up_to_words v l n =
      up_to_tally (sides_to i group g n) v
      ∙ tally_sides (λ (x : Float). not (Ieee.lt v x)) (λ (e : ℕ). eqb (group (e / 4)) g && ltb (side_word i.xs i.ys i.quads e) (Ieee.to_bits binary32 v + 1)) same n
      ∙ sym (lower_tally (λ (e : ℕ). group (e / 4)) (side_word i.xs i.ys i.quads) g (Ieee.to_bits binary32 v + 1) (4 * n))
    where
      same : (q k : ℕ) → k < 4 → (eqb (group ((4 * q + k) / 4)) g && ltb (side_word i.xs i.ys i.quads (4 * q + k)) (Ieee.to_bits binary32 v + 1)) ≡ (eqb (group q) g && not (Ieee.lt v (side_length i q k)))
      same q k h = rw (group_at q k h, word_at q k h, word_order v (side_length i q k) l (side_is i q k), not_above (Ieee.to_bits binary32 (side_length i q k)) (Ieee.to_bits binary32 v))

  length_words : (n : ℕ) → length (sides_to i group g n) ≡ equal (λ (e : ℕ). group (e / 4)) (4 * n) g
  length_words n =
      length_tally (sides_to i group g n)
      ∙ tally_sides (λ (x : Float). true) (λ (e : ℕ). eqb (group (e / 4)) g) same n
      ∙ sym (equal_tally (λ (e : ℕ). group (e / 4)) g (4 * n))
    where
      same : (q k : ℕ) → k < 4 → eqb (group ((4 * q + k) / 4)) g ≡ (eqb (group q) g && true)
      same q k h = rw (group_at q k h) (sym (and-true (eqb (group q) g)))

  -- ---- a side of the group stands among them

  side_held : (n q k : ℕ) → q < n → group q ≡ g → k < 4 → Held (sides_to i group g n) (side_length i q k)
  unfolding sides_to
  side_held zero q k h e b = absurd (omega arith)
  side_held (suc n) q k h e b = go (ℕ_discrete q n) (λ l. side_held n q k l e b)
    where
      own : Held (added q) (side_length i q k)
      own = rw (eq-eqb (group q) g e) (k, b, sides_at_lem q k b)

      go : Dec (q ≡ n) → (q < n → Held (sides_to i group g n) (side_length i q k)) → Held (sides_to i group g n ++ added n) (side_length i q k)
      go (yes s) ih = held_right (sides_to i group g n) (added n) (side_length i q k) (subst (λ (m : ℕ). Held (added m) (side_length i q k)) s own)
      go (no s) ih = held_left (sides_to i group g n) (added n) (side_length i q k) (ih (omega (arith, s)))

  pub median_from_word : (n b : ℕ) → MiddleWord (λ (e : ℕ). group (e / 4)) (side_word i.xs i.ys i.quads) (4 * n) g b → Median (sides_to i group g n) (Ieee.of_bits binary32 b)
  unfolding side_word
  median_from_word n b m = subst (Median (sides_to i group g n)) (sym (word_back x l) ∙ ap (Ieee.of_bits binary32) m.is) found
    where
      x : Float
      x = side_length i (m.at / 4) (m.at % 4)

      l : IsLength x
      l = side_is i (m.at / 4) (m.at % 4)

      held : Held (sides_to i group g n) x
      held = side_held n (m.at / 4) (m.at % 4) (omega (arith, m.at_lt)) m.of (omega arith)

      found : Median (sides_to i group g n) x
      found = record {
        at = held.0;
        at_lt = held.1;
        is = held.2;
        before = rw (less_words x l n, length_words n, m.is) m.before;
        after = rw (up_to_words x l n, length_words n, m.is) m.after;
      }
