-- Corners of a quad, counted round: what is so of four in turn is so of each, and a square from one corner on is one from each.
-- Assumes nothing.
use mathlib.Core.Path.{◌≡◌, sym, ap, subst}
use mathlib.Core.List.{List}
use Prim.Native.Nat.{ℕ, zero, suc, ◌+◌, ◌*◌, ◌%◌}
use native.Mathlib.Decide.{ℕ_discrete}
use native.Mathlib.Omega.{arith}
use lib.ListN.{get_or}
use Rattle.cells.specs.Cells.{Cell, cell}
use Rattle.cells.specs.Kind.{Pair}
use Rattle.cells.specs.Quads.{Square}
use Rattle.cells.proofs.Squares.{square_next}

pub same_corner : (cells : List ℕ) (q i j : ℕ) → i % 4 ≡ j % 4 → cell 4 cells q i ≡ cell 4 cells q j
same_corner cells q i j e = ap (λ (m : ℕ). get_or cells (4 * q + m) 0) e

-- what is so of four corners in turn is so of each
pub each : (cells : List ℕ) (q j : ℕ) (P : ℕ → Type 0) → P (cell 4 cells q j) → P (cell 4 cells q (j + 1)) → P (cell 4 cells q (j + 2)) → P (cell 4 cells q (j + 3)) → (i : ℕ) → P (cell 4 cells q i)
each cells q j P a b c d i = go (ℕ_discrete (i % 4) (j % 4)) (ℕ_discrete (i % 4) ((j + 1) % 4)) (ℕ_discrete (i % 4) ((j + 2) % 4))
  where
    same : (m : ℕ) → i % 4 ≡ m % 4 → P (cell 4 cells q m) → P (cell 4 cells q i)
    same m e p = subst (λ (z : ℕ). P (get_or cells (4 * q + z) 0)) (sym e) p

    go : Dec (i % 4 ≡ j % 4) → Dec (i % 4 ≡ (j + 1) % 4) → Dec (i % 4 ≡ (j + 2) % 4) → P (cell 4 cells q i)
    go (yes e) y z = same j e a
    go (no e) (yes y) z = same (j + 1) y b
    go (no e) (no y) (yes z) = same (j + 2) z c
    go (no e) (no y) (no z) = same (j + 3) (omega arith) d

-- the corners from k on go round a unit square
abbrev pub SquareFrom : (ℕ → Pair) → Cell → ℕ → Type 0
SquareFrom L c k = Square (L (c k)) (L (c (k + 1))) (L (c (k + 2))) (L (c (k + 3)))

module _ (L : ℕ → Pair) (cells : List ℕ) (q : ℕ) where
  same_square : (j k : ℕ) → j % 4 ≡ k % 4 → SquareFrom L (cell 4 cells q) k → SquareFrom L (cell 4 cells q) j
  same_square j k e s =
      rw (same_corner cells q j k e, same_corner cells q (j + 1) (k + 1) (omega arith), same_corner cells q (j + 2) (k + 2) (omega arith), same_corner cells q (j + 3) (k + 3) (omega arith))
      s

  turned : (j k : ℕ) → SquareFrom L (cell 4 cells q) j → SquareFrom L (cell 4 cells q) (j + k)
  turned j zero s = same_square (j + 0) j (omega arith) s
  turned j (suc k) s =
      rw (same_corner cells q (j + suc k) (j + k + 1) (omega arith), same_corner cells q (j + suc k + 1) (j + k + 2) (omega arith), same_corner cells q (j + suc k + 2) (j + k + 3) (omega arith), same_corner cells q (j + suc k + 3) (j + k) (omega arith))
      (square_next (turned j k s))

  pub square_from : (j k : ℕ) → SquareFrom L (cell 4 cells q) j → SquareFrom L (cell 4 cells q) k
  square_from j k s = same_square k (j + (3 * j + k)) (omega arith) (turned j (3 * j + k) s)
