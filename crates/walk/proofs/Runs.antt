-- A group's run of records taken for itself: where the records of a quad are one for each corner, so are those of its run, and where all
-- records ascend by quad, then key, those of a run ascend by key. Assumes nothing.
use mathlib.Core.Path.{◌≡◌, sym, ap, ◌∙◌, subst}
use mathlib.Core.List.{List}
use Prim.Native.Nat.{ℕ, ◌+◌, ◌*◌, ◌-◌, ◌/◌, ◌≤◌, ◌<◌}
use native.Mathlib.Decide.{dec_lt}
use native.Mathlib.Omega.{arith}
use lib.ListN.{length, get_or}
use Rattle.words.specs.inner.Order.{word_of, grouped_of}
use Rattle.mesh.specs.Lists.{most_quads}
use Rattle.cells.specs.Kind.{Pair}
use Rattle.cells.specs.Counted.{Among, Exactly}
use Rattle.fates.specs.declared.Run.{Run}
use Rattle.fates.specs.inner.Fates.{key_in, corner_in, seed_in, Keyed, Holding}
use Rattle.fates.specs.inner.Index.{RunOf}
use Rattle.walk.specs.inner.Emitting.{Ascending}

-- the run's records are one for each corner that P holds of, with its pair under L
pub record Held (P : ℕ → Type 0) (L : ℕ → Pair) (w : List ℕ) (run : Run) : Type 0 where
  pub sound : (k : ℕ) → k < run.count → P (corner_in w run.at k)
  pub keyed : (k : ℕ) → k < run.count → Keyed (L (corner_in w run.at k)) (key_in w run.at k)
  pub once : (j k : ℕ) → j < run.count → k < run.count → corner_in w run.at j ≡ corner_in w run.at k → j ≡ k
  pub every : (c : ℕ) → P c → Among P (corner_in w run.at) run.count c

pub exactly : {P : ℕ → Type 0} {L : ℕ → Pair} {w : List ℕ} {run : Run} → Held P L w run → Exactly P run.count
exactly {w = w} {run} h = record { pick = corner_in w run.at; each = h.sound; apart = h.once; every = h.every }

module _ {w : List ℕ} {a m s : ℕ} {run : Run} (r : RunOf w a m s run) where
  -- a word of the run's record k is that of a record of the table
  word_from_lem : (b k : ℕ) → word_of w run.at b k ≡ word_of w a b (r.from + k)
  word_from_lem b k =
      let e : run.at + 2 * k + b ≡ a + 2 * (r.from + k) + b = omega (arith, r.at) in
      ap (λ (p : ℕ). get_or w p 0) e

  corner_from : (k : ℕ) → corner_in w run.at k ≡ corner_in w a (r.from + k)
  corner_from k = ap (λ (x : ℕ). x / 4096) (word_from_lem 1 k)

  small : (k : ℕ) → k < run.count → r.from + k < r.to
  small k h = omega (arith, r.count, r.stretch.up)

  own : (k : ℕ) → k < run.count → seed_in w a (r.from + k) ≡ s
  own k h = r.stretch.within (r.from + k) (omega arith) (small k h)

  below : (k : ℕ) → k < run.count → r.from + k < m
  below k h = omega (arith, small k h, r.stretch.most)

  -- a record of the quad is in its run
  inside : (k : ℕ) → k < m → seed_in w a k ≡ s → (r.from ≤ k) × (k < r.to)
  inside k h e = (go (dec_lt k r.from), up (dec_lt k r.to))
    where
      go : Dec (k < r.from) → r.from ≤ k
      go (yes l) = absurd (omega (arith, r.stretch.before k l))
      go (no l) = omega (arith, l)

      up : Dec (k < r.to) → k < r.to
      up (yes l) = l
      up (no l) = absurd (omega (arith, r.stretch.after k (omega (arith, l)) h))

  pub held : {P : ℕ → Type 0} {L : ℕ → Pair} → Holding P L s w a m → Held P L w run
  held {P} {L} h = record {
    sound = λ k l. subst P (sym (corner_from k)) (h.sound (r.from + k) (below k l) (own k l));
    keyed = λ k l. rw (corner_from k, word_from_lem 0 k) (h.keyed (r.from + k) (below k l) (own k l));
    once = λ j k lj lk e. omega (arith, h.once (r.from + j) (r.from + k) (below j lj) (below k lk) (own j lj) (own k lk) (sym (corner_from j) ∙ e ∙ corner_from k));
    every = λ c p.
        let i = inside (h.place c p) (h.placed c p) (h.of c p) in
        let e : r.from + (h.place c p - r.from) ≡ h.place c p = omega (arith, i.0) in
        record { at = h.place c p - r.from; small = omega (arith, i.0, i.1, r.count); is = corner_from (h.place c p - r.from) ∙ ap (corner_in w a) e ∙ h.is c p };
  }

  -- the table's records ascend
  module _ (rises : (j k : ℕ) → j < k → k < m → grouped_of w a j < grouped_of w a k) where
    keys_rise : (j k : ℕ) → j < k → k < run.count → key_in w run.at j < key_in w run.at k
    keys_rise j k h l = rw (word_from_lem 0 j, word_from_lem 0 k) (omega (arith, rises (r.from + j) (r.from + k) (omega arith) (below k l), own j (omega arith), own k l))

    pub ascending : {P : ℕ → Type 0} {L : ℕ → Pair} → Held P L w run → m ≤ 4 * most_quads → a + 2 * m ≤ length w → Ascending w run
    ascending h few room = record {
      room = omega (arith, r.at, r.count, r.stretch.up, r.stretch.most);
      few = omega (arith, r.count, r.stretch.most);
      x_not_0 = λ k l. let q = h.keyed k l in omega (arith, q.is, q.x_near.low);
      keys = λ k l. let q = h.keyed k l in omega (arith, q.is, q.x_near.high, q.y_near.high);
      rises = keys_rise;
    }
