-- In ascending records those of one seed and key stand together, so a record is single exactly when it differs from both neighbours.
-- Assumes nothing.
use mathlib.Core.Path.{◌≡◌, refl, sym, ◌∙◌}
use mathlib.Core.Bool.{Bool, not}
use mathlib.Core.List.{List}
use Prim.Native.Nat.{ℕ, ◌+◌, ◌-◌, ◌≤◌, ◌<◌}
use native.Mathlib.Decide.{dec_lt}
use native.Mathlib.Omega.{arith}
use Rattle.std.specs.Prelude.{IsTrue, ◌↔◌}
use Rattle.std.proofs.lemmas.Bool.Decides.{Decides-like, Decides-not}
use Rattle.words.specs.inner.Order.{grouped_of}
use Rattle.fates.specs.inner.Singles.{Alike, Unique, Follows, SeedOrder}

module _ (w : List ℕ) (a m k : ℕ) where
  single_followed_by_none : k + 1 < m → Unique w a m k → Follows w a (k + 1) → ⊥
  single_followed_by_none h s f =
      let e : f.before ≡ k = omega (arith, f.next) in
      let t : Alike w a k (k + 1) = rw e at f.alike in
      omega (arith, s (k + 1) h (record { seed = sym t.seed; key = sym t.key }))

module _ (w : List ℕ) (a m : ℕ) (R : SeedOrder w a m) where
  pub alike_of : (j k : ℕ) → j < m → k < m → grouped_of w a j ≡ grouped_of w a k → Alike w a j k
  alike_of j k hj hk e = record { seed = omega (arith, R.small j hj, R.small k hk); key = omega (arith, R.small j hj, R.small k hk) }

  same_group : (j k : ℕ) → Alike w a j k → grouped_of w a j ≡ grouped_of w a k
  same_group j k s = omega (arith, s.seed, s.key)

  -- what stands between two that are alike is alike them
  between : (i j k : ℕ) → i ≤ j → j ≤ k → k < m → grouped_of w a i ≡ grouped_of w a k → grouped_of w a i ≡ grouped_of w a j
  between i j k p q h e = omega (arith, R.rises i j p (omega arith), R.rises j k q h)

  pub single_by_neighbours : (k : ℕ) → k < m → (Follows w a k → ⊥) → (k + 1 < m → Follows w a (k + 1) → ⊥) → Unique w a m k
  single_by_neighbours k h p q j l s = go (dec_lt j k) (dec_lt k j)
    where
      go : Dec (j < k) → Dec (k < j) → j ≡ k
      go (yes b) d =
          let e : grouped_of w a j ≡ grouped_of w a (k - 1) = between j (k - 1) k (omega arith) (omega arith) h (same_group j k s) in
          absurd (p (record { before = k - 1; next = omega arith; alike = alike_of (k - 1) k (omega arith) h (sym e ∙ same_group j k s) }))
      go (no b) (yes d) =
          let e : grouped_of w a k ≡ grouped_of w a (k + 1) = between k (k + 1) j (omega arith) (omega arith) l (sym (same_group j k s)) in
          absurd (q (omega arith) (record { before = k; next = refl; alike = alike_of k (k + 1) h (omega arith) e }))
      go (no b) (no d) = omega arith

  -- a record that is unlike the one before it is single unless the next is alike it
  pub single_by_next : {next : Bool} (k : ℕ) → k + 1 < m → (Follows w a k → ⊥) → IsTrue next ↔ Follows w a (k + 1) → IsTrue (not next) ↔ Unique w a m k
  single_by_next k h p t = Decides-like _ (λ n. single_by_neighbours k (omega arith) p (λ l. n)) (single_followed_by_none w a m k h) (Decides-not _ t)
