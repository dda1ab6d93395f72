-- Where an ordering passes a value: keys ascend along it, and as many places stand before the value as have a lower key. Assumes nothing.
use mathlib.Core.Path.{◌≡◌, sym, ◌∙◌}
use Prim.Native.Nat.{ℕ, ◌+◌, ◌-◌, ◌≤◌, ◌<◌}
use native.Mathlib.Decide.{dec_lt}
use native.Mathlib.Omega.{arith}
use Rattle.words.specs.Sorting.{Sorting, equal, below, rank}
use Rattle.words.proofs.Rank.{below_step, below_mono, below_le, equal_own}
use Rattle.words.proofs.Sorting.{to_is_rank}

pub ascends : {key : ℕ → ℕ} {n : ℕ} (s : Sorting key n) (i j : ℕ) → i ≤ j → j < n → key (s.from i) ≤ key (s.from j)
ascends {key} {n} s i j h m = go (dec_lt (key (s.from j)) (key (s.from i)))
  where
    go : Dec (key (s.from j) < key (s.from i)) → key (s.from i) ≤ key (s.from j)
    go (yes y) = absurd (omega (arith, s.lower (s.from j) (s.from i) (s.from_lt j m) (s.from_lt i (omega arith)) y, s.to_from j m, s.to_from i (omega arith)))
    go (no y) = omega arith

-- the places of a key are those from the count of lower keys on
cut_below : (key : ℕ → ℕ) (n : ℕ) (s : Sorting key n) (k : ℕ) → k < n → (below key n (key (s.from k)) ≤ k) × (k < below key n (key (s.from k) + 1))
unfolding rank
cut_below key n s k h =
    let i : ℕ = s.from k in
    let e : k ≡ below key n (key i) + equal key i (key i) = sym (s.to_from k h) ∙ to_is_rank key n s i (s.from_lt k h) in
    (omega arith, omega (arith, equal_own key i n (s.from_lt k h), below_step key (key i) n))

pub cut : (key : ℕ → ℕ) (n : ℕ) (s : Sorting key n) (v p : ℕ) → p ≤ n → ((k : ℕ) → k < p → key (s.from k) < v) → ((k : ℕ) → p ≤ k → k < n → v ≤ key (s.from k)) → below key n v ≡ p
cut key n s v p h before after = omega (arith, least (dec_lt 0 p), most (dec_lt p n))
  where
    least : Dec (0 < p) → p ≤ below key n v
    least (yes y) = let k : ℕ = p - 1 in omega (arith, (cut_below key n s k (omega arith)).1, below_mono key n (key (s.from k) + 1) v (omega (arith, before k (omega arith))))
    least (no y) = omega arith

    most : Dec (p < n) → below key n v ≤ p
    most (yes y) = omega (arith, (cut_below key n s p y).0, below_mono key n v (key (s.from p)) (after p (omega arith) y))
    most (no y) = omega (arith, below_le key n v)
