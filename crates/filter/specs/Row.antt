-- Three quads in a row, of which the second rule drops the middle one: the outer two are then two groups, of medians 10 and 100, and
-- both are kept; in one group with the median 10 the second would be too large.
use Rattle.std.specs.Prelude.{[], ◌∷◌}
use Rattle.measure.specs.Float.{bits, fraction}
use Rattle.filter.specs.Input.{Input}
use Rattle.filter.specs.Marks.{Marked}

abbrev pub row : Input
row = record {
  xs = bits 0 ∷ fraction 10 1 ∷ fraction 10 1 ∷ bits 0 ∷ fraction 11 1 ∷ fraction 11 1 ∷ fraction 111 1 ∷ fraction 111 1 ∷ [];
  ys = bits 0 ∷ bits 0 ∷ fraction 10 1 ∷ fraction 10 1 ∷ bits 0 ∷ fraction 100 1 ∷ bits 0 ∷ fraction 100 1 ∷ [];
  quads = 0 ∷ 1 ∷ 2 ∷ 3 ∷ 1 ∷ 4 ∷ 5 ∷ 2 ∷ 4 ∷ 6 ∷ 7 ∷ 5 ∷ [];
  params = record { ratio = fraction 3 2; least = fraction 1 2; greatest = fraction 2 1 };
}

abbrev pub Row : Type 0
Row = Marked row (0 ∷ 2 ∷ 0 ∷ [])
