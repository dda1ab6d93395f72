-- How many of the first words are marks: fewer than all where one is none, and one more where one is set. Assumes nothing.
use mathlib.Core.Path.{◌≡◌, refl, sym, ap, ◌∙◌, subst}
use mathlib.Core.List.{List}
use Prim.Native.Nat.{ℕ, zero, suc, ◌+◌, ◌≤◌, ◌<◌}
use native.Mathlib.Decide.{ℕ_discrete}
use native.Mathlib.Omega.{arith}
use lib.ListN.{get_or}
use Rattle.laying.specs.inner.Invariant.{sign, count}

sign_le : (x : ℕ) → sign x ≤ 1
sign_le zero = omega arith
sign_le (suc x) = omega arith

pub count_le : (xs : List ℕ) (n : ℕ) → count xs n ≤ n
unfolding count
count_le xs zero = omega arith
count_le xs (suc n) = omega (arith, count_le xs n, sign_le (get_or xs n 0))

pub count_none : (xs : List ℕ) (n : ℕ) → ((q : ℕ) → q < n → get_or xs q 0 ≡ 0) → count xs n ≡ 0
unfolding count
count_none xs zero h = refl
count_none xs (suc n) h =
    let z : sign (get_or xs n 0) ≡ 0 = ap sign (h n (omega arith)) in
    omega (arith, count_none xs n (λ q l. h q (omega arith)), z)

-- where one is not marked, fewer than all are
pub count_lt : (xs : List ℕ) (n q : ℕ) → q < n → get_or xs q 0 ≡ 0 → count xs n < n
unfolding count
count_lt xs zero q h e = absurd (omega arith)
count_lt xs (suc n) q h e = go (ℕ_discrete q n) (λ l. count_lt xs n q l e)
  where
    go : Dec (q ≡ n) → (q < n → count xs n < n) → count xs n + sign (get_or xs n 0) < suc n
    go (yes f) ih =
        let z : sign (get_or xs n 0) ≡ 0 = ap (λ (i : ℕ). sign (get_or xs i 0)) (sym f) ∙ ap sign e in
        omega (arith, count_le xs n)
    go (no f) ih = omega (arith, ih (omega arith), sign_le (get_or xs n 0))

pub count_same : (xs ys : List ℕ) (n : ℕ) → ((q : ℕ) → q < n → get_or ys q 0 ≡ get_or xs q 0) → count ys n ≡ count xs n
unfolding count
count_same xs ys zero h = refl
count_same xs ys (suc n) h = λ k. count_same xs ys n (λ q l. h q (omega arith)) k + sign (h n (omega arith) k)

-- one mark more
pub count_more : (xs ys : List ℕ) (n q : ℕ) → q < n → get_or xs q 0 ≡ 0 → get_or ys q 0 ≡ 1 → ((k : ℕ) → k < n → (k ≡ q → ⊥) → get_or ys k 0 ≡ get_or xs k 0) → count ys n ≡ count xs n + 1
unfolding count
count_more xs ys zero q h e f o = absurd (omega arith)
count_more xs ys (suc n) q h e f o = go (ℕ_discrete q n) (λ l. count_more xs ys n q l e f (λ k kl. o k (omega arith)))
  where
    go : Dec (q ≡ n) → (q < n → count ys n ≡ count xs n + 1) → count ys n + sign (get_or ys n 0) ≡ (count xs n + sign (get_or xs n 0)) + 1
    go (yes d) ih =
        let z : sign (get_or xs n 0) ≡ 0 = ap (λ (i : ℕ). sign (get_or xs i 0)) (sym d) ∙ ap sign e in
        let w : sign (get_or ys n 0) ≡ 1 = ap (λ (i : ℕ). sign (get_or ys i 0)) (sym d) ∙ ap sign f in
        let s : count ys n ≡ count xs n = count_same xs ys n (λ k kl. o k (omega arith) (omega arith)) in
        omega arith
    go (no d) ih =
        let s : sign (get_or ys n 0) ≡ sign (get_or xs n 0) = ap sign (o n (omega arith) (λ x. d (sym x))) in
        omega (arith, ih (omega arith))

-- what is so of t and of all below it
pub eq_or_lt : (P : ℕ → Type 0) (t : ℕ) → P t → ((i : ℕ) → i < t → P i) → (i : ℕ) → i < t + 1 → P i
eq_or_lt P t a b i h = go (ℕ_discrete i t)
  where
    go : Dec (i ≡ t) → P i
    go (yes e) = subst P (sym e) a
    go (no n) = b i (omega arith)
