-- Counting by key in a table: word c holds twice the number of places so far whose key is c, and a store at the next place's key keeps
-- that. Assumes nothing.
use mathlib.Core.Path.{◌≡◌, sym, ap, ◌∙◌}
use mathlib.Core.List.{List}
use Prim.Native.Nat.{ℕ, ◌+◌, ◌*◌, ◌≤◌, ◌<◌}
use native.Mathlib.Omega.{arith}
use lib.ListN.{length, get_or, set, replicate, length-set, length-replicate, get_or-replicate}
use Rattle.words.specs.Sorting.{equal}
use Rattle.words.proofs.Regions.{set_cases}
use Rattle.words.proofs.Rank.{equal_zero, equal_yes, equal_no, equal_le}

-- the words of a table count the first j places
abbrev pub Tallied : (ℕ → ℕ) → ℕ → List ℕ → Type 0
Tallied key j table = (c : ℕ) → c < length table → get_or table c 0 ≡ 2 * equal key j c

pub tallied_none : (key : ℕ → ℕ) (table : List ℕ) (m : ℕ) → table ≡ replicate m 0 → Tallied key 0 table
tallied_none key table m e c h =
    let l : c < m = omega (arith, h, ap length e, length-replicate {A = ℕ} m 0) in
    ap (λ (t : List ℕ). get_or t c 0) e ∙ get_or-replicate {A = ℕ} m c 0 0 l ∙ omega (arith, equal_zero key c)

pub tallied_more : (key : ℕ → ℕ) (j : ℕ) (table : List ℕ) → Tallied key j table → key j < length table → Tallied key (j + 1) (set table (key j) (get_or table (key j) 0 + 2))
tallied_more key j table t h c l =
    set_cases (λ (z : ℕ). z ≡ 2 * equal key (j + 1) c) table (key j) (get_or table (key j) 0 + 2) c h
    (λ e. rw e (omega (arith, t (key j) h, equal_yes key j (key j))))
    (λ n. omega (arith, t c (omega (arith, length-set table (key j) (get_or table (key j) 0 + 2))), equal_no key j c (λ e. n (sym e))))

-- no word passes twice the number of places
pub tallied_most : (key : ℕ → ℕ) (j : ℕ) (table : List ℕ) → Tallied key j table → (c : ℕ) → c < length table → get_or table c 0 ≤ 2 * j
tallied_most key j table t c h = omega (arith, t c h, equal_le key c j)
