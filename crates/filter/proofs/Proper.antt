-- Quads that the rows let through are cells that can be grouped: whole, of few corners, no side from a corner to itself. Assumes nothing.
use mathlib.Core.Path.{◌≡◌, sym}
use mathlib.Core.Bool.{false}
use mathlib.Core.List.{List}
use Prim.Native.Nat.{ℕ, zero, suc, ◌+◌, ◌*◌, ◌<◌}
use native.Mathlib.Omega.{arith}
use lib.ListN.{get_or}
use Rattle.mesh.specs.Cells.{names_twice}
use Rattle.mesh.proofs.Differ.{corners_differ}
use Rattle.cells.specs.Cells.{cell}
use Rattle.cells.specs.inner.Table as table
use Rattle.filter.specs.Input.{Input, quad_count}
use Rattle.filter.specs.inner.Steps.{Sound}

module _ (quads : List ℕ) (q : ℕ) (clear : names_twice 4 quads q ≡ false) where
  differ : (j k : ℕ) → j < k → k < 4 → get_or quads (4 * q + j) 0 ≡ get_or quads (4 * q + k) 0 → ⊥
  differ j k l h e = let swap : 4 * q ≡ q * 4 = omega arith in corners_differ 4 quads q j k clear l h (rw swap at e)

  proper : (i : ℕ) → i < 4 → cell 4 quads q i ≡ cell 4 quads q (i + 1) → ⊥
  proper zero h e = differ 0 1 (omega arith) (omega arith) e
  proper (suc zero) h e = differ 1 2 (omega arith) (omega arith) e
  proper (suc (suc zero)) h e = differ 2 3 (omega arith) (omega arith) e
  proper (suc (suc (suc zero))) h e = differ 0 3 (omega arith) (omega arith) (sym e)
  proper (suc (suc (suc (suc i)))) h e = absurd (omega arith)

pub as_cells : (i : Input) → Sound i → table.Sound 4 i.quads (quad_count i)
as_cells i s = record {
  least = omega arith;
  most = omega arith;
  whole = s.whole;
  few = omega (arith, s.few);
  corners = λ k h. omega (arith, s.named k h, s.corners);
  proper = λ q k h l. proper i.quads q (s.differ q h) k l;
}
