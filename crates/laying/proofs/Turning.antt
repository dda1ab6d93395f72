-- Unit steps and squares in words: a step changes a word by one at most, and its ends force the far corners' words, which are one further
-- from the centre at most. Assumes nothing.
use mathlib.Core.Path.{◌≡◌, ap}
use Prim.Native.Nat.{ℕ, ◌+◌, ◌-◌, ◌≤◌}
use native.Mathlib.Omega.{arith}
use lib.IntN.{ℤ, pos, negsuc, ◌-ℤ◌}
use lib.Signed.{◌≤ℤ◌}
use Rattle.cells.specs.Kind.{Pair, ◌⊖◌}
use Rattle.cells.specs.Quads.{OneStep, Square}
use Rattle.cells.specs.Quads.OneStep.{east, north, west, south}
use Rattle.std.proofs.lemmas.Int.{ints}
use Rattle.cells.proofs.Whole.{pair}
use Rattle.laying.specs.inner.Layout.{label, Near}
use Rattle.laying.specs.inner.Settling.{Ends}

-- the pair of two words
abbrev pub pair_at : ℕ → ℕ → Pair
pair_at x y = (label x, label y)

-- two words differ by one at most
pub record Beside (x y : ℕ) : Type 0 where
  pub above : y ≤ x + 1
  pub below : x ≤ y + 1

beside : (x y : ℕ) (k : ℤ) → label y -ℤ label x ≡ k → k ≤ℤ pos 1 → negsuc 0 ≤ℤ k → Beside x y
beside x y k e h l = record { above = omega (arith, ints); below = omega (arith, ints) }

both : (xa ya xb yb : ℕ) (s : Pair) → pair_at xb yb ⊖ pair_at xa ya ≡ s → s.0 ≤ℤ pos 1 → negsuc 0 ≤ℤ s.0 → s.1 ≤ℤ pos 1 → negsuc 0 ≤ℤ s.1 → Beside xa xb × Beside ya yb
both xa ya xb yb s e h i j k = (beside xa xb s.0 (ap (λ (p : Pair). p.0) e) h i, beside ya yb s.1 (ap (λ (p : Pair). p.1) e) j k)

step_beside : (xa ya xb yb : ℕ) → OneStep (pair_at xb yb ⊖ pair_at xa ya) → Beside xa xb × Beside ya yb
step_beside xa ya xb yb (east e) = both xa ya xb yb _ e (omega (arith, ints)) (omega (arith, ints)) (omega (arith, ints)) (omega (arith, ints))
step_beside xa ya xb yb (north e) = both xa ya xb yb _ e (omega (arith, ints)) (omega (arith, ints)) (omega (arith, ints)) (omega (arith, ints))
step_beside xa ya xb yb (west e) = both xa ya xb yb _ e (omega (arith, ints)) (omega (arith, ints)) (omega (arith, ints)) (omega (arith, ints))
step_beside xa ya xb yb (south e) = both xa ya xb yb _ e (omega (arith, ints)) (omega (arith, ints)) (omega (arith, ints)) (omega (arith, ints))

module _ (xa ya xb yb : ℕ) (ends : Ends xa ya xb yb) where
  module _ (unit : OneStep (pair_at xb yb ⊖ pair_at xa ya)) where
    -- the words that a side forces go round a unit square
    pub forced_square : Square (pair_at xa ya) (pair_at xb yb) (pair_at ((xb + ya) - yb) ((yb + xb) - xa)) (pair_at ((xa + ya) - yb) ((ya + xb) - xa))
    forced_square = record {
      side = unit;
      third = pair (omega (arith, ints)) (omega (arith, ints));
      fourth = pair (omega (arith, ints)) (omega (arith, ints));
    }

    pub far_near : (t : ℕ) → Near t xa → Near t ya → Near t xb → Near t yb → (Near (t + 1) ((xb + ya) - yb) × Near (t + 1) ((yb + xb) - xa)) × (Near (t + 1) ((xa + ya) - yb) × Near (t + 1) ((ya + xb) - xa))
    far_near t a b c d =
        let s = step_beside xa ya xb yb unit in (
          (
            record { low = omega (arith, s.1.above, s.1.below); high = omega (arith, s.1.above, s.1.below) },
            record { low = omega (arith, s.0.above, s.0.below); high = omega (arith, s.0.above, s.0.below) },
          ),
          (
            record { low = omega (arith, s.1.above, s.1.below); high = omega (arith, s.1.above, s.1.below) },
            record { low = omega (arith, s.0.above, s.0.below); high = omega (arith, s.0.above, s.0.below) },
          ),
        )
