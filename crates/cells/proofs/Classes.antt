-- A parent list with the classes of a relation: at the start there are no pairs, each join adds one, and a flat list gives the groups.
-- Assumes nothing.
use mathlib.Core.Path.{◌≡◌, sym, ap, ◌∙◌}
use mathlib.Core.Logic.{◌⊎◌, ⊎_elim}
use mathlib.Core.List.{List}
use Prim.Native.Nat.{ℕ}
use native.Mathlib.Omega.{arith}
use lib.ListN.{get_or}
use Rattle.cells.specs.Groups.{Linked, Groups}
use Rattle.cells.specs.Groups.Linked.{same, on}
use Rattle.cells.specs.inner.Forest.{Joined, Alone, Flat, Classes}
use Rattle.cells.proofs.Links.{fold, kept}

-- with no pair
pub classes_alone : {E : ℕ → ℕ → Type 0} {n : ℕ} {p : List ℕ} → Alone n n p → ((x y : ℕ) → E x y → ⊥) → Classes E n p
classes_alone {E} {n} {p} a none = record {
  len = a.len;
  low = λ y k. omega (arith, a.own y (omega (arith, a.len)));
  sound = λ y k. rw (a.own y k) same;
  keeps = λ f r x y e. absurd (none x y e);
}

-- with one pair more
pub classes_more : {E F : ℕ → ℕ → Type 0} {n : ℕ} {p q : List ℕ} {a b : ℕ} → Classes E n p → Joined p q a b → ((x y : ℕ) → E x y → F x y) → F a b → ((x y : ℕ) → F x y → E x y ⊎ ((x ≡ a) × (y ≡ b))) → Classes F n q
classes_more {E} {F} {n} {p} {q} {a} {b} c j wider new only = record {
  len = j.len ∙ c.len;
  low = j.low;
  sound = λ y h. fold (λ u v e. ⊎_elim
      (λ w. rw w.1 (fold (λ x y l. on same (wider x y l)) (c.sound u (omega (arith, w.0, c.len)))))
      (λ w. rw (w.0, w.1) (on same new)) e) (j.sound y (omega (arith, c.len)));
  keeps = λ f r x y l. ⊎_elim (λ w. c.keeps f (j.keeps f r) x y w) (λ w. ap f w.0 ∙ j.met f r ∙ ap f (sym w.1)) (only x y l);
}

-- the classes of two relations that link the same numbers are the same
pub classes_same : {E F : ℕ → ℕ → Type 0} {n : ℕ} {p : List ℕ} → Classes E n p → ((x y : ℕ) → E x y → Linked F x y) → ((x y : ℕ) → F x y → Linked E x y) → Classes F n p
classes_same {E} {F} {n} {p} c there back_again = record {
  len = c.len;
  low = c.low;
  sound = λ y h. fold there (c.sound y h);
  keeps = λ f r x y l. kept f (c.keeps f r) (back_again x y l);
}

-- where every number points at its root, the roots are the groups
pub classes_groups : {E : ℕ → ℕ → Type 0} {n : ℕ} {p q : List ℕ} → Classes E n p → Flat p n q → Groups E n (λ (y : ℕ). get_or q y 0)
classes_groups {E} {n} {p} {q} c f = record {
  linked = λ x h. fold (λ u v e. rw e.1 (c.sound u (omega (arith, e.0, c.len)))) (f.refines.sound x (omega (arith, c.len)));
  together = c.keeps root (f.refines.keeps root (λ y k. f.flat y (omega (arith, f.refines.len, c.len))));
  lowest = λ x h. f.refines.low x (omega (arith, f.refines.len, c.len));
}
  where
    root : ℕ → ℕ
    root y = get_or q y 0
