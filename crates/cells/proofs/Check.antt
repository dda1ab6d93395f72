-- Numbers that pass the test are those of the groups. Assumes nothing.
use mathlib.Core.Path.{◌≡◌, refl, sym, ap₂, ◌∙◌, subst}
use mathlib.Core.Bool.{true, not, ◌&&◌, ◌||◌}
use mathlib.Core.List.{List}
use mathlib.Core.Logic.{◌⊎◌, inl, inr}
use Prim.Native.Nat.{ℕ, zero, suc, ◌+◌, ◌/◌, ◌%◌, ◌<◌}
use native.Mathlib.Omega.{arith}
use borrow.Author.Tests.{eqb-true, eq-eqb, leb-true}
use lib.Dec.{eqb, leb}
use lib.ListN.{length}
use Rattle.cells.specs.Cells.{Cell, Side, Touch, cell, Neighbours, everyone}
use Rattle.cells.specs.Cells.Touch.{alike, opposite}
use Rattle.cells.specs.Groups.{Linked, Groups}
use Rattle.cells.specs.Groups.Linked.{same, on}
use Rattle.cells.specs.Listed.{some_one}
use Rattle.cells.specs.Twin.{every_one, numbers}
use Rattle.cells.specs.Check.{joins_alike, joins_opposite, touch_test, path, number_test, groups_test}
use Rattle.cells.proofs.Links.{joined}
use Rattle.cells.proofs.Tests.{both, either, or_left, or_right, implied, every_in, some_in, in_some, below_in, in_below}

side_at_lem : (p : Cell) (i : ℕ) → i < 4 → {x y : ℕ} → p i ≡ x → p ((i + 1) % 4) ≡ y → Side 4 p x y
side_at_lem p i small e f = record { at = i; small = small; starts = e; ends = f }

touch_is : (p q : Cell) → touch_test p q ≡ true → Touch 4 p q
touch_is p q t =
    let a = some_in (λ (i : ℕ). some_one (λ (j : ℕ). joins_alike p q i j || joins_opposite p q i j) (numbers 4)) (numbers 4) t in
    let b = some_in (λ (j : ℕ). joins_alike p q a.one j || joins_opposite p q a.one j) (numbers 4) a.is in
    go a.one b.one (in_below 4 a.among) (in_below 4 b.among) (either (joins_alike p q a.one b.one) (joins_opposite p q a.one b.one) b.is)
  where
    go : (i j : ℕ) → i < 4 → j < 4 → (joins_alike p q i j ≡ true) ⊎ (joins_opposite p q i j ≡ true) → Touch 4 p q
    go i j hi hj (inl t) =
        let a = both (eqb (p i) (q j)) _ t in
        alike (side_at_lem p i hi (eqb-true _ _ a.0) (eqb-true _ _ a.1)) (side_at_lem q j hj refl refl)
    go i j hi hj (inr t) =
        let a = both (eqb (p i) (q ((j + 1) % 4))) _ t in
        opposite (side_at_lem p i hi (eqb-true _ _ a.0) (eqb-true _ _ a.1)) (side_at_lem q j hj refl refl)

is_touch : (p q : Cell) → Touch 4 p q → touch_test p q ≡ true
is_touch p q t = go t
  where
    at : (i j : ℕ) → i < 4 → j < 4 → (joins_alike p q i j || joins_opposite p q i j) ≡ true → touch_test p q ≡ true
    at i j hi hj e =
        in_some (λ (i : ℕ). some_one (λ (j : ℕ). joins_alike p q i j || joins_opposite p q i j) (numbers 4)) (below_in 4 i hi)
        (in_some (λ (j : ℕ). joins_alike p q i j || joins_opposite p q i j) (below_in 4 j hj) e)

    go : Touch 4 p q → touch_test p q ≡ true
    go (alike a b) = at a.at b.at a.small b.small (or_left (joins_alike p q a.at b.at) _ (ap₂ ◌&&◌ (eq-eqb _ _ (a.starts ∙ sym b.starts)) (eq-eqb _ _ (a.ends ∙ sym b.ends))))
    go (opposite a b) = at a.at b.at a.small b.small (or_right (joins_alike p q a.at b.at) _ (ap₂ ◌&&◌ (eq-eqb _ _ (a.starts ∙ sym b.ends)) (eq-eqb _ _ (a.ends ∙ sym b.starts))))

module _ (cells : List ℕ) where
  path_is : (steps x y : ℕ) → x < length cells / 4 → path cells steps x y ≡ true → Linked (Neighbours 4 cells everyone) x y
  path_is zero x y h t = subst (Linked (Neighbours 4 cells everyone) x) (eqb-true x y t) same
  path_is (suc steps) x y h t = go (either (eqb x y) _ t) (λ z. path_is steps z y)
    where
      go : (eqb x y ≡ true) ⊎ (some_one (λ (z : ℕ). touch_test (cell 4 cells x) (cell 4 cells z) && path cells steps z y) (numbers (length cells / 4)) ≡ true)
          → ((z : ℕ) → z < length cells / 4 → path cells steps z y ≡ true → Linked (Neighbours 4 cells everyone) z y) → Linked (Neighbours 4 cells everyone) x y
      go (inl e) r = subst (Linked (Neighbours 4 cells everyone) x) (eqb-true x y e) same
      go (inr e) r =
          let a = some_in (λ (z : ℕ). touch_test (cell 4 cells x) (cell 4 cells z) && path cells steps z y) (numbers (length cells / 4)) e in
          let b = both (touch_test (cell 4 cells x) (cell 4 cells a.one)) (path cells steps a.one y) a.is in
          let l = in_below (length cells / 4) a.among in
          joined (on same (record { from = omega arith; to = omega (arith, l); from_among = refl; to_among = refl; touch = touch_is _ _ b.0 })) (r a.one l b.1)

  pub groups_are : (number : ℕ → ℕ) → groups_test cells number ≡ true → Groups (Neighbours 4 cells everyone) (length cells / 4) number
  groups_are number t = record {
    linked = λ x h. path_is (length cells / 4) x (number x) h (passes x h).1;
    together = λ x y e. even x y e (passes x (omega (arith, e.from))).2;
    lowest = λ x h. leb-true (number x) x (passes x h).0;
  }
    where
      passes : (x : ℕ) → x < length cells / 4 → (leb (number x) x ≡ true) × (path cells (length cells / 4) x (number x) ≡ true)
          × (every_one (λ (y : ℕ). not (touch_test (cell 4 cells x) (cell 4 cells y)) || eqb (number x) (number y)) (numbers (length cells / 4)) ≡ true)
      passes x h =
          let a = both (leb (number x) x) _ (every_in (number_test cells number) t (below_in (length cells / 4) x h)) in
          let b = both (path cells (length cells / 4) x (number x)) _ a.1 in
          (a.0, b.0, b.1)

      even : (x y : ℕ) → Neighbours 4 cells everyone x y → every_one (λ (y : ℕ). not (touch_test (cell 4 cells x) (cell 4 cells y)) || eqb (number x) (number y)) (numbers (length cells / 4)) ≡ true → number x ≡ number y
      even x y e t =
          let a = every_in (λ (y : ℕ). not (touch_test (cell 4 cells x) (cell 4 cells y)) || eqb (number x) (number y)) t (below_in (length cells / 4) y (omega (arith, e.to))) in
          eqb-true (number x) (number y) (implied (touch_test (cell 4 cells x) (cell 4 cells y)) (eqb (number x) (number y)) a (is_touch (cell 4 cells x) (cell 4 cells y) e.touch))
