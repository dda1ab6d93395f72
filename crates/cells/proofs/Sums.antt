-- Laws of sums and counts: they are by what they are of alone, so much more at one place is so much more in all, and a sum of sums is the
-- sums' sum. Assumes nothing.
use mathlib.Core.Path.{◌≡◌, refl, ap, ap₂}
use mathlib.Core.Bool.{Bool, cond}
use Prim.Native.Nat.{ℕ, zero, suc, ◌+◌, ◌<◌}
use native.Mathlib.Decide.{ℕ_discrete}
use native.Mathlib.Omega.{arith}
use Rattle.cells.specs.Sums.{total, how_many}

-- ---- sums

pub total_same : (f g : ℕ → ℕ) (n : ℕ) → ((i : ℕ) → i < n → g i ≡ f i) → total g n ≡ total f n
unfolding total
total_same f g zero h = refl
total_same f g (suc n) h = ap₂ ◌+◌ (total_same f g n (λ i l. h i (omega arith))) (h n (omega arith))

-- d more at one place is d more in all
pub total_more : (f g : ℕ → ℕ) (n at d : ℕ) → at < n → g at ≡ f at + d → ((i : ℕ) → (i ≡ at → ⊥) → g i ≡ f i) → total g n ≡ total f n + d
unfolding total
total_more f g zero at d l e h = absurd (omega arith)
total_more f g (suc n) at d l e h = go (ℕ_discrete n at) (λ m. total_more f g n at d m e h)
  where
    go : Dec (n ≡ at) → (at < n → total g n ≡ total f n + d) → total g n + g n ≡ total f n + f n + d
    go (yes p) r =
        let q : g n ≡ f n + d = rw p e in
        omega (arith, total_same f g n (λ i m. h i (λ c. omega arith)))
    go (no p) r = omega (arith, r (omega arith), h n p)

pub total_sum : (f g s : ℕ → ℕ) (n : ℕ) → ((i : ℕ) → s i ≡ f i + g i) → total s n ≡ total f n + total g n
unfolding total
total_sum f g s zero h = refl
total_sum f g s (suc n) h = omega (arith, total_sum f g s n h, h n)

pub total_zero : (f : ℕ → ℕ) (n : ℕ) → ((i : ℕ) → f i ≡ 0) → total f n ≡ 0
unfolding total
total_zero f zero h = refl
total_zero f (suc n) h = omega (arith, total_zero f n h, h n)

-- the first of a sum
pub total_first : (f : ℕ → ℕ) (n : ℕ) → total f (suc n) ≡ f 0 + total (λ j. f (suc j)) n
unfolding total
total_first f zero = omega arith
total_first f (suc n) = omega (arith, total_first f n)

-- ---- counts

pub how_many_same : (P Q : ℕ → Bool) (n : ℕ) → ((k : ℕ) → k < n → Q k ≡ P k) → how_many Q n ≡ how_many P n
how_many_same P Q n h = total_same (λ k. cond (P k) 1 0) (λ k. cond (Q k) 1 0) n (λ k l. ap (λ (b : Bool). cond b 1 0) (h k l))
