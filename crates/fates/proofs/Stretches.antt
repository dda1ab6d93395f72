-- Records in order of the quads stand in one stretch for each: a cursor goes from stretch to stretch, and where the records' words are the
-- same in another list, so is all that is said of them. Assumes nothing.
use mathlib.Core.Path.{◌≡◌, sym, ap₂, ◌∙◌}
use mathlib.Core.Logic.{◌≢◌}
use mathlib.Core.List.{List}
use Prim.Native.Nat.{ℕ, ◌+◌, ◌*◌, ◌≤◌, ◌<◌}
use native.Mathlib.Decide.{dec_lt}
use native.Mathlib.Omega.{arith}
use Rattle.std.specs.Prelude.{Option, None, Some, MatchOption}
use Rattle.std.specs.Option.{unwrap_or}
use Rattle.words.specs.inner.Order.{word_of, grouped_of}
use Rattle.cells.specs.Kind.{Pair}
use Rattle.fates.specs.inner.Fates.{key_in, seed_in, Holding}
use Rattle.fates.specs.inner.Index.{Stretch}
use Rattle.fates.specs.inner.Singles.{Follows}
use Rattle.fates.specs.inner.Judging.{Lined, Cursor, Begins}
use Rattle.fates.proofs.Holdings.{same_seed, holding_more}

-- ---- from stretch to stretch

pub cursor_next : {w : List ℕ} {a m s from to : ℕ} → Stretch w a m s from to → Cursor w a m (s + 1) to
cursor_next {w} {a} {s = s} {from} {to} r = record { most = r.most; before = λ k h. go k h (dec_lt k from); after = λ k h l. omega (arith, r.after k h l) }
  where
    go : (k : ℕ) → k < to → Dec (k < from) → seed_in w a k < s + 1
    go k h (yes l) = omega (arith, r.before k l)
    go k h (no l) = omega (arith, r.within k (omega (arith, l)) h)

-- quad s's records begin at `from`, and end before the first that is not of s
pub stretch_found : {w : List ℕ} {a m s from : ℕ} (r : Option ℕ) → Lined w a m → Cursor w a m s from
    → MatchOption r ((k : ℕ) → from ≤ k → k < m → seed_in w a k ≡ s) (λ i. (from ≤ i) × (i < m) × (seed_in w a i ≢ s) × ((k : ℕ) → from ≤ k → k < i → seed_in w a k ≡ s))
    → Stretch w a m s from (unwrap_or r m)
stretch_found None l c h = record { up = c.most; most = omega arith; before = c.before; within = h; after = λ k b e. absurd (omega arith) }
stretch_found (Some i) l c h = record { up = h.0; most = omega arith; before = c.before; within = h.3; after = λ k b e. omega (arith, h.2, c.after i h.0 h.1, l.ascends i k b e) }

-- ---- the same words

module _ (xs ys : List ℕ) (a m : ℕ) (same : (k i : ℕ) → k < m → i < 2 → word_of ys a i k ≡ word_of xs a i k) where
  same_key : (k : ℕ) → k < m → key_in ys a k ≡ key_in xs a k
  same_key k h = same k 0 h (omega arith)

  pub same_grouped : (k : ℕ) → k < m → grouped_of ys a k ≡ grouped_of xs a k
  same_grouped k h = ap₂ (λ (seed key : ℕ). seed * 4294967296 + key) (same_seed xs ys a m same k h) (same_key k h)

  pub same_stretch : {s from to : ℕ} → Stretch xs a m s from to → Stretch ys a m s from to
  same_stretch {s} {from} {to} r = record {
    up = r.up;
    most = r.most;
    before = λ k h. rw (same_seed xs ys a m same k (omega (arith, r.up, r.most))) (r.before k h);
    within = λ k h l. same_seed xs ys a m same k (omega (arith, r.most)) ∙ r.within k h l;
    after = λ k h l. rw (same_seed xs ys a m same k l) (r.after k h l);
  }

  pub same_holding : {P : ℕ → Type 0} {L : ℕ → Pair} {s : ℕ} → Holding P L s xs a m → Holding P L s ys a m
  same_holding H = holding_more H (record { more = omega arith; same = λ k i h l. same k i h l }) (λ k h l. absurd (omega arith))

  same_follows : (k : ℕ) → k < m → Follows xs a k → Follows ys a k
  same_follows k h f =
      let l : f.before < m = omega (arith, f.next) in
      record { before = f.before; next = f.next; alike = record { seed = same_seed xs ys a m same f.before l ∙ f.alike.seed ∙ sym (same_seed xs ys a m same k h); key = same_key f.before l ∙ f.alike.key ∙ sym (same_key k h) } }

module _ (xs ys : List ℕ) (a m : ℕ) (same : (k i : ℕ) → k < m → i < 2 → word_of ys a i k ≡ word_of xs a i k) where
  pub same_begins : (k : ℕ) → Begins xs a m k → Begins ys a m k
  same_begins k b = record {
    first = λ f. b.first (same_follows ys xs a m (λ j i h l. sym (same j i h l)) k (omega (arith, b.more)) f);
    more = b.more;
    next = same_follows xs ys a m same (k + 1) b.more b.next;
  }
