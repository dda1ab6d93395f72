-- What group numbers say: two numbers below n are linked exactly when theirs are equal, a group's number is the lowest that is linked,
-- and a relation has one answer. Assumes nothing.
use mathlib.Core.Path.{◌≡◌, sym, ◌∙◌}
use Prim.Native.Nat.{ℕ, ◌≤◌, ◌<◌}
use native.Mathlib.Omega.{arith}
use native.Mathlib.Decide.{dec_lt}
use native.Mathlib.Nat.{le_antisymm}
use Rattle.cells.specs.Groups.{Linked, Groups}
use Rattle.cells.proofs.Links.{joined, turned, fold, kept}

pub linked_equal : {E : ℕ → ℕ → Type 0} {n x y : ℕ} {g : ℕ → ℕ} → Groups E n g → Linked E x y → g x ≡ g y
linked_equal {E} {n} {x} {y} {g} G l = kept g G.together l

-- a group's number is the number of a cell of the group
pub own_number : {E : ℕ → ℕ → Type 0} {n x : ℕ} {g : ℕ → ℕ} → Groups E n g → x < n → g (g x) ≡ g x
own_number {x = x} G h = sym (linked_equal G (G.linked x h))

pub equal_linked : {E : ℕ → ℕ → Type 0} {n x y : ℕ} {g : ℕ → ℕ} → Groups E n g → x < n → y < n → g x ≡ g y → Linked E x y
equal_linked {E} {n} {x} {y} {g} G hx hy e = joined (G.linked x hx) (rw e (turned (G.linked y hy)))

-- y need not be below n: one that is not is higher than every group's number
pub lowest_linked : {E : ℕ → ℕ → Type 0} {n x y : ℕ} {g : ℕ → ℕ} → Groups E n g → x < n → Linked E x y → g x ≤ y
lowest_linked {E} {n} {x} {y} {g} G hx l = go (dec_lt y n)
  where
    go : Dec (y < n) → g x ≤ y
    go (yes hy) = rw (linked_equal G l) (G.lowest y hy)
    go (no far) = omega (arith, far, G.lowest x hx)

pub one_answer : {E : ℕ → ℕ → Type 0} {n x : ℕ} {g h : ℕ → ℕ} → Groups E n g → Groups E n h → x < n → g x ≡ h x
one_answer {E} {n} {x} {g} {h} G H hx = le_antisymm (lowest_linked G hx (H.linked x hx)) (lowest_linked H hx (G.linked x hx))

-- relations that link the same numbers have the same groups
pub same_groups : {E F : ℕ → ℕ → Type 0} {n : ℕ} {g : ℕ → ℕ} → ((x y : ℕ) → E x y → Linked F x y) → ((x y : ℕ) → F x y → Linked E x y) → Groups E n g → Groups F n g
same_groups {E} {F} {n} {g} there back_again G = record {
  linked = λ x h. fold there (G.linked x h);
  together = λ x y e. kept g G.together (back_again x y e);
  lowest = G.lowest;
}

-- groups are by the numbers below n
pub groups_same : {E : ℕ → ℕ → Type 0} {n : ℕ} {g h : ℕ → ℕ} → ((x y : ℕ) → E x y → (x < n) × (y < n)) → ((x : ℕ) → x < n → g x ≡ h x) → Groups E n g → Groups E n h
groups_same {E} {n} {g} {h} inside agree G = record {
  linked = λ x l. rw (← agree x l) (G.linked x l);
  together = λ x y e. sym (agree x (inside x y e).0) ∙ G.together x y e ∙ agree y (inside x y e).1;
  lowest = λ x l. rw (← agree x l) (G.lowest x l);
}
