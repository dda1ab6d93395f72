-- The further worked examples of the filters hold, by computation. Assumes nothing.
use mathlib.Core.Path.{refl}
use native.Mathlib.Nat.{lt_irrefl}
use lib.Ieee.{of_bits, round, mul, div, lt, eq, le}
use Rattle.words.specs.Sorting.{one, equal}
use Rattle.mesh.specs.Cells.{some}
use Rattle.filter.specs.Median.{less, up_to}
use Rattle.filter.specs.Topology.{incidence, illegal, crowded}
use Rattle.filter.specs.Opposing.{greater_of, lesser_of, raised, side_ratio, uneven}
use Rattle.filter.specs.Size.{has_least, has_greatest, is_skipped, off_side, off_size}
use Rattle.filter.specs.Worked.{Worked}

pub worked : Worked
unfolding of_bits round mul div lt eq le one equal some less up_to incidence illegal crowded greater_of lesser_of raised side_ratio uneven has_least has_greatest is_skipped off_side off_size
worked =
    record {
      two_illegal = (refl, refl);
      one_illegal = (refl, refl);
      ratio_over_zero = refl;
      ratio_over_small = refl;
      ratio_of_zeros = refl;
      at_limit = refl;
      past_limit = refl;
      worse_second = refl;
      no_lower_middle = λ m. lt_irrefl 2 m.after;
      no_mean = λ m. lt_irrefl 2 m.after;
      size_at_limits = refl;
      size_below = refl;
      size_above = refl;
      size_median_zero = refl;
      size_no_least = refl;
      size_no_greatest = refl;
      skipped = (refl, refl, refl);
      size_infinite_least = refl;
      size_least_median_zero = refl;
      size_negative_greatest = refl;
      size_minus_infinite = (refl, refl);
      ratio_infinite = (refl, refl);
    }
