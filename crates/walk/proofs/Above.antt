-- A label and a lower one differ by the difference of their words. Assumes nothing.
use mathlib.Core.Path.{◌≡◌}
use Prim.Native.Nat.{ℕ, ◌-◌, ◌≤◌}
use native.Mathlib.Omega.{arith}
use lib.IntN.{pos, ◌+ℤ◌, ◌-ℤ◌}
use Rattle.cells.proofs.Whole.{sum, to, up_pos}
use Rattle.laying.specs.inner.Layout.{label}
use Rattle.laying.proofs.Reading.{word_sum, step_sum}

pub over : (x y : ℕ) → y ≤ x → label x ≡ label y +ℤ pos (x - y)
over x y h = to (omega (arith, word_sum x, word_sum y, sum (label y) (pos (x - y)), up_pos (x - y)))

pub difference : (x y : ℕ) → y ≤ x → label x -ℤ label y ≡ pos (x - y)
difference x y h = to (omega (arith, step_sum x y, up_pos (x - y)))
