-- A test that numbers are those of the groups of a small list of quads: equal for quads that touch, no higher than the quad, and each
-- led to by a path of quads that touch.
use Rattle.std.specs.Prelude.{Bool, not, ◌&&◌, ◌||◌, List, ℕ, zero, suc, ◌+◌, ◌/◌, ◌%◌, eqb, leb, length}
use Rattle.cells.specs.Cells.{Cell, cell}
use Rattle.cells.specs.Listed.{some_one}
use Rattle.cells.specs.Twin.{every_one, numbers}

-- side i of p and side j of q join the same two corners
abbrev pub joins_alike : Cell → Cell → ℕ → ℕ → Bool
joins_alike p q i j = eqb (p i) (q j) && eqb (p ((i + 1) % 4)) (q ((j + 1) % 4))

abbrev pub joins_opposite : Cell → Cell → ℕ → ℕ → Bool
joins_opposite p q i j = eqb (p i) (q ((j + 1) % 4)) && eqb (p ((i + 1) % 4)) (q j)

abbrev pub touch_test : Cell → Cell → Bool
touch_test p q = some_one (λ (i : ℕ). some_one (λ (j : ℕ). joins_alike p q i j || joins_opposite p q i j) (numbers 4)) (numbers 4)

module _ (cells : List ℕ) where
  -- at most so many steps, each from a quad to one that it touches, lead from x to y
  abbrev pub path : ℕ → ℕ → ℕ → Bool
  path zero x y = eqb x y
  path (suc steps) x y =
      eqb x y || some_one (λ (z : ℕ). touch_test (cell 4 cells x) (cell 4 cells z) && path steps z y) (numbers (length cells / 4))

  abbrev pub number_test : (ℕ → ℕ) → ℕ → Bool
  number_test number x =
      leb (number x) x
      && (path (length cells / 4) x (number x)
      && every_one (λ (y : ℕ). not (touch_test (cell 4 cells x) (cell 4 cells y)) || eqb (number x) (number y)) (numbers (length cells / 4)))

  abbrev pub groups_test : (ℕ → ℕ) → Bool
  groups_test number = every_one (number_test number) (numbers (length cells / 4))
