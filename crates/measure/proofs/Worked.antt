-- The further worked examples hold, by computation. Assumes nothing.
use mathlib.Core.Path.{refl}
use lib.Ieee.{neg, of_bits, round, add, sub, mul, div, rem, lt, eq, le}
use Rattle.measure.specs.Float.{within}
use Rattle.measure.specs.Angle.{series_of, part_of, ratio_of, base_of, octant_of, across_of, below_of, angle_rule, reached, angle_of}
use Rattle.measure.specs.Distance.{lifted, folded, apart, number_or_none, distance_of}
use Rattle.measure.specs.Pattern.{sig_of, exp_of, units}
use Rattle.measure.specs.Root.{units_of}
use Rattle.measure.specs.RootComputed.{greatest, reaches, root_pattern, root_of}
use Rattle.measure.specs.Length.{or_zero, length_of}
use Rattle.measure.specs.Position.{centroid_of}
use Rattle.measure.specs.Worked.{Worked}

pub worked : Worked
unfolding neg of_bits round add sub mul div rem lt eq le within series_of part_of ratio_of base_of octant_of across_of below_of angle_rule reached angle_of lifted folded apart number_or_none distance_of sig_of exp_of units units_of greatest reaches root_pattern root_of length_of or_zero centroid_of
worked =
    record {
      root_zero = refl;
      root_minus_zero = refl;
      root_exact = refl;
      root_subnormal = refl;
      root_normal = refl;
      root_beside_1 = (refl, refl);
      root_greatest = refl;
      root_of_nan = refl;
      root_of_infinities = (refl, refl);
      root_below_zero = refl;
      angle_minus_zero_zero = refl;
      angle_minus_zeros = refl;
      angle_zero_minus_zero = refl;
      angle_at_bend = refl;
      angle_past_bend = refl;
      angle_steep = refl;
      angle_left = refl;
      angle_down = refl;
      angle_out_of_reach = (refl, refl);
      angle_of_nan = refl;
      angle_of_infinity = (refl, refl);
      apart_near = refl;
      apart_folded = refl;
      apart_lifted_folded = refl;
      apart_lifted = refl;
      apart_minus_zero = refl;
      apart_beyond_pi = (refl, refl);
      apart_beyond_two_pi = refl;
      apart_of_nan = (refl, refl);
      apart_of_infinity = refl;
      apart_overflow = refl;
      length_3_4 = refl;
      length_of_nan = refl;
      position_most = (refl, refl);
      position_past = (refl, refl);
      centroid = refl;
    }
