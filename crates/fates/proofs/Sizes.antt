-- A quad that is its group's lowest has members, itself among them, and any other has none. Assumes nothing.
use mathlib.Core.Path.{◌≡◌, sym, ap, ◌∙◌}
use mathlib.Core.Logic.{◌≢◌}
use Prim.Native.Nat.{ℕ, ◌<◌}
use native.Mathlib.Decide.{ℕ_discrete}
use native.Mathlib.Omega.{arith}
use lib.Dec.{eqb}
use Rattle.words.specs.Sorting.{equal}
use Rattle.words.proofs.Rank.{rec_on, equal_zero, equal_no, equal_own}
use Rattle.cells.specs.Sums.{how_many}
use Rattle.cells.specs.Groups.{Groups}
use Rattle.cells.proofs.Groups.{linked_equal}
use Rattle.fates.proofs.Members.{equal_how_many}

none_equal : (d : ℕ → ℕ) (v n : ℕ) → ((i : ℕ) → i < n → d i ≢ v) → equal d n v ≡ 0
none_equal d v = rec_on (λ n. ((i : ℕ) → i < n → d i ≢ v) → equal d n v ≡ 0) (λ h. equal_zero d v) (λ n ih h. equal_no d n v (h n (omega arith)) ∙ ih (λ i l. h i (omega arith)))

module _ {E : ℕ → ℕ → Type 0} {n : ℕ} {number : ℕ → ℕ} (G : Groups E n number) (q : ℕ) (h : q < n) where
  -- a group's number is a lowest quad
  own_number : (i : ℕ) → i < n → number i ≡ q → number q ≡ q
  own_number i l e = ap number (sym e) ∙ sym (linked_equal G (G.linked i l)) ∙ e

  pub some_members : number q ≡ q → how_many (λ (i : ℕ). eqb (number i) q) n ≢ 0
  some_members e z =
      let l : equal number q (number q) < equal number n (number q) = equal_own number q n h in
      omega (arith, rw e at l, equal_how_many number q n)

  pub lowest_by_members : how_many (λ (i : ℕ). eqb (number i) q) n ≢ 0 → number q ≡ q
  lowest_by_members some = go (ℕ_discrete (number q) q)
    where
      go : Dec (number q ≡ q) → number q ≡ q
      go (yes e) = e
      go (no e) = absurd (some (sym (equal_how_many number q n) ∙ none_equal number q n (λ i l f. e (own_number i l f))))
