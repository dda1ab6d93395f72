-- The third rule, cell size: per group, against the median of all its sides. A median of 0 keeps the quad.
use Rattle.std.specs.Prelude.{Bool, cond, not, ◌&&◌, ◌||◌, List, [], ◌∷◌, ◌++◌, ℕ, zero, suc, eqb, Float}
use Rattle.std.specs.Float.Ieee as Ieee
use Rattle.std.specs.Float.{binary32}
use Rattle.std.specs.Float.Ieee.Scale.{finite}
use Rattle.measure.specs.Float.{fraction}
use Rattle.mesh.specs.Cells.{some}
use Rattle.filter.specs.declared.FilterParams.{FilterParams}
use Rattle.filter.specs.Input.{Input, side_length}

-- the least relative length is above 0; the greatest is finite
unfoldable pub has_least : FilterParams → Bool
has_least p = Ieee.lt (fraction 0 1) p.least

unfoldable pub has_greatest : FilterParams → Bool
has_greatest p = finite p.greatest

-- the rule is skipped when the least is not above 0 and the greatest is not finite
unfoldable pub is_skipped : FilterParams → Bool
is_skipped p = not (has_least p) && not (has_greatest p)

-- a side is below the least times the median, or exceeds the greatest times the median
unfoldable pub off_side : FilterParams → Float → Float → Bool
off_side p median side =
    (has_least p && Ieee.lt side (Ieee.mul binary32 p.least median))
    || (has_greatest p && Ieee.lt (Ieee.mul binary32 p.greatest median) side)

-- by the lengths of a quad's four sides
unfoldable pub off_size : FilterParams → Float → (ℕ → Float) → Bool
off_size p median side = not (Ieee.eq median (fraction 0 1)) && some 4 (λ (k : ℕ). off_side p median (side k))

-- the sides of the quads below n whose group is g, shared ones once per quad
unfoldable pub sides_to : Input → (ℕ → ℕ) → ℕ → ℕ → List Float
sides_to i group g zero = []
sides_to i group g (suc q) =
    sides_to i group g q
    ++ cond (eqb (group q) g) (side_length i q 0 ∷ side_length i q 1 ∷ side_length i q 2 ∷ side_length i q 3 ∷ []) []
