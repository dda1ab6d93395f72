-- Records that stay where more follow: what the first m hold of a seed, all hold where the further ones are of other seeds. So what
-- a walk has left stays. Assumes nothing.
use mathlib.Core.Path.{◌≡◌, sym, ap, ◌∙◌}
use mathlib.Core.Logic.{◌≢◌}
use mathlib.Core.List.{List}
use Prim.Native.Nat.{ℕ, ◌/◌, ◌%◌, ◌≤◌, ◌<◌}
use native.Mathlib.Decide.{dec_lt}
use native.Mathlib.Omega.{arith}
use Rattle.words.specs.inner.Order.{word_of}
use Rattle.cells.specs.Kind.{Pair}
use Rattle.cells.specs.Listed.{Grouping}
use Rattle.fates.specs.inner.Fates.{corner_in, seed_in, Holding, Walk}
use Rattle.fates.specs.inner.Fates.Walk.{within, none, laid}

-- the first m records from a on are as they were, and there are r
pub record Appended (a m r : ℕ) (xs ys : List ℕ) : Type 0 where
  pub more : m ≤ r
  pub same : (k i : ℕ) → k < m → i < 2 → word_of ys a i k ≡ word_of xs a i k

-- records whose words are as they were are of the same seeds
pub same_seed : (xs ys : List ℕ) (a m : ℕ) → ((k i : ℕ) → k < m → i < 2 → word_of ys a i k ≡ word_of xs a i k) → (k : ℕ) → k < m → seed_in ys a k ≡ seed_in xs a k
same_seed xs ys a m same k l = ap (λ (w : ℕ). w % 4096) (same k 1 l (omega arith))

module _ {P : ℕ → Type 0} {L : ℕ → Pair} {s : ℕ} {xs ys : List ℕ} {a m r : ℕ} (h : Holding P L s xs a m) (p : Appended a m r xs ys) (others : (k : ℕ) → m ≤ k → k < r → seed_in ys a k ≢ s) where
  early : (k : ℕ) → k < r → seed_in ys a k ≡ s → k < m
  early k l e = go (dec_lt k m)
    where
      go : Dec (k < m) → k < m
      go (yes b) = b
      go (no b) = absurd (others k (omega arith) l e)

  same_corner : (k : ℕ) → k < m → corner_in ys a k ≡ corner_in xs a k
  same_corner k l = ap (λ (w : ℕ). w / 4096) (p.same k 1 l (omega arith))

  old : (k : ℕ) → k < m → seed_in ys a k ≡ s → seed_in xs a k ≡ s
  old k l e = sym (same_seed xs ys a m p.same k l) ∙ e

  -- the first m records are as they were, and the further ones are of other seeds
  pub holding_more : Holding P L s ys a r
  holding_more = record {
    sound = λ k l e. let b = early k l e in rw (same_corner k b) (h.sound k b (old k b e));
    keyed = λ k l e. let b = early k l e in rw (same_corner k b, p.same k 0 b (omega arith)) (h.keyed k b (old k b e));
    place = h.place;
    placed = λ c o. omega (arith, h.placed c o, p.more);
    of = λ c o. same_seed xs ys a m p.same (h.place c o) (h.placed c o) ∙ h.of c o;
    is = λ c o. same_corner (h.place c o) (h.placed c o) ∙ h.is c o;
    once = λ j k lj lk ej ek e.
        let bj = early j lj ej in
        let bk = early k lk ek in
        h.once j k bj bk (old j bj ej) (old k bk ek) (sym (same_corner j bj) ∙ e ∙ same_corner k bk);
  }

-- what a walk has left, where its records hold something else
pub walk_with : {cells : List ℕ} {g : Grouping} {P Q : (ℕ → Pair) → ℕ → Type 0} {q : ℕ} {xs ys : List ℕ} {a b m r v : ℕ} → ((L : ℕ → Pair) → Holding (P L) L q xs a m → Holding (Q L) L q ys b r) → Walk cells g P q xs a m v → Walk cells g Q q ys b r v
walk_with f (within e) = within e
walk_with f (none e t) = none e t
walk_with f (laid z l) = laid z (record { lowest = l.lowest; L = l.L; labelling = l.labelling; holding = f l.L l.holding })
