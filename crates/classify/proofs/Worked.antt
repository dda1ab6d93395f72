-- Document 01's frame computed by the definitions: its classes and fits, a distance equal to the tolerance, and the other spread rule; a
-- third is refused. Assumes nothing.
use Rattle.measure.specs.declared.Distance.TheVariants.{Known}
use mathlib.Core.Path.{◌≡◌, refl}
use mathlib.Core.List.{[], ◌∷◌}
use Prim.Native.Nat.{ℕ}
use lib.Ieee.{Float, neg, of_bits, round, add, sub, mul, div, rem, lt, eq, le, is_nan}
use Rattle.words.specs.Listing.{listing}
use Rattle.std.specs.Prelude.{Err}
use Rattle.refusal.specs.declared.Refusal.TheVariants.{NoSuchRule, Unpaired}
use Rattle.measure.specs.Float.{bits}
use Rattle.measure.specs.Angle.{series_of, part_of, ratio_of, base_of, octant_of, across_of, below_of, angle_rule}
use Rattle.measure.specs.Distance.{lifted, folded, apart, number_or_none, distance_of}
use Rattle.axis.specs.Cache.{informative_of, spread_from, cache_at}
use Rattle.mesh.specs.HalfEdge.{next_of}
use Rattle.classify.specs.Match.{offered, nearer, match_of, side_of, is_below, no_fit, greater_of, judged_by, judged_of, class_by}
use Rattle.classify.specs.Classes.{Input, axes_at, angle_between, side_at, judged_at, class_at, classes_of}
use Rattle.classify.specs.Fits.{fit_of, fit_at, fits_of}
use Rattle.classify.specs.Call.{values_gate, fitted_gate}

-- four corners of a square with axes along its sides and no spreads, in two triangles
unfoldable pub frame : ℕ → Float → Input
frame rule tolerance =
    record {
      xs = bits 0 ∷ bits 0x41200000 ∷ bits 0x41200000 ∷ bits 0 ∷ [];
      ys = bits 0 ∷ bits 0 ∷ bits 0x41200000 ∷ bits 0x41200000 ∷ [];
      angles = bits 0 ∷ bits 0x3FC90FDB ∷ bits 0 ∷ bits 0x3FC90FDB ∷ bits 0 ∷ bits 0x3FC90FDB ∷ bits 0 ∷ bits 0x3FC90FDB ∷ [];
      marks = 0 ∷ 0 ∷ 0 ∷ 0 ∷ 0 ∷ 0 ∷ 0 ∷ 0 ∷ [];
      spreads = bits 0 ∷ bits 0 ∷ bits 0 ∷ bits 0 ∷ bits 0 ∷ bits 0 ∷ bits 0 ∷ bits 0 ∷ [];
      triangles = 0 ∷ 1 ∷ 2 ∷ 0 ∷ 2 ∷ 3 ∷ [];
      params = record { tolerance = tolerance; spread = record { number = rule; limit = bits 0x3F800000 } };
    }

-- sides are Grid, the diagonal Diagonal from either triangle
pub of_the_frame : classes_of (frame 1 (bits 0x3E800000)) ≡ 1 ∷ 1 ∷ 2 ∷ 2 ∷ 1 ∷ 1 ∷ []
unfolding frame neg of_bits round add sub mul div rem lt eq le listing series_of part_of ratio_of base_of octant_of across_of below_of angle_rule lifted folded apart number_or_none distance_of informative_of spread_from cache_at next_of offered nearer match_of side_of is_below judged_by judged_of class_by axes_at angle_between side_at judged_at class_at classes_of
of_the_frame = refl

-- the diagonal's distance from 0 to 2 is 3F490FDB: with that tolerance it is not Grid
pub at_the_tolerance : classes_of (frame 1 (bits 0x3F490FDB)) ≡ 1 ∷ 1 ∷ 2 ∷ 2 ∷ 1 ∷ 1 ∷ []
unfolding frame neg of_bits round add sub mul div rem lt eq le listing series_of part_of ratio_of base_of octant_of across_of below_of angle_rule lifted folded apart number_or_none distance_of informative_of spread_from cache_at next_of offered nearer match_of side_of is_below judged_by judged_of class_by axes_at angle_between side_at judged_at class_at classes_of
at_the_tolerance = refl

-- with the next float it is Grid, and its twin from 2 to 0 is not: each half-edge is judged for itself
pub above_the_distance : classes_of (frame 1 (bits 0x3F490FDC)) ≡ 1 ∷ 1 ∷ 2 ∷ 1 ∷ 1 ∷ 1 ∷ []
unfolding frame neg of_bits round add sub mul div rem lt eq le listing series_of part_of ratio_of base_of octant_of across_of below_of angle_rule lifted folded apart number_or_none distance_of informative_of spread_from cache_at next_of offered nearer match_of side_of is_below judged_by judged_of class_by axes_at angle_between side_at judged_at class_at classes_of
above_the_distance = refl

-- by rule 2 a missing spread is not informative: no side finds an axis
pub by_rule_two : classes_of (frame 2 (bits 0x3E800000)) ≡ 0 ∷ 0 ∷ 0 ∷ 0 ∷ 0 ∷ 0 ∷ []
unfolding frame neg of_bits round add sub mul div rem lt eq le listing series_of part_of ratio_of base_of octant_of across_of below_of angle_rule lifted folded apart number_or_none distance_of informative_of spread_from cache_at next_of offered nearer match_of side_of is_below judged_by judged_of class_by axes_at angle_between side_at judged_at class_at classes_of
by_rule_two = refl

-- rule 3 is refused before a position that is NaN
pub no_third : values_gate (bits 0x7FC00000 ∷ []) (bits 0 ∷ []) [] (frame 3 (bits 0x3E800000)).params ≡ Err NoSuchRule
unfolding frame of_bits is_nan values_gate
no_third = refl

-- the four sides lie at 0 from their axes, the last of them, which runs down, at -0: its angle is a whole pi below its axis
pub fits_of_the_frame : fits_of (frame 1 (bits 0x3E800000)) ≡ bits 0 ∷ bits 0 ∷ no_fit ∷ no_fit ∷ bits 0 ∷ bits 0x80000000 ∷ []
unfolding frame neg of_bits round add sub mul div rem lt eq le listing series_of part_of ratio_of base_of octant_of across_of below_of angle_rule lifted folded apart number_or_none distance_of informative_of spread_from cache_at next_of offered nearer match_of side_of is_below judged_by judged_of axes_at angle_between side_at judged_at greater_of fit_of fit_at fits_of
fits_of_the_frame = refl

-- with the tolerance next above its distance the diagonal from 0 to 2 is Grid, and that is its fit; its twin's would be the next float
pub fits_above_the_distance : fits_of (frame 1 (bits 0x3F490FDC)) ≡ bits 0 ∷ bits 0 ∷ no_fit ∷ bits 0x3F490FDB ∷ bits 0 ∷ bits 0x80000000 ∷ []
unfolding frame neg of_bits round add sub mul div rem lt eq le listing series_of part_of ratio_of base_of octant_of across_of below_of angle_rule lifted folded apart number_or_none distance_of informative_of spread_from cache_at next_of offered nearer match_of side_of is_below judged_by judged_of axes_at angle_between side_at judged_at greater_of fit_of fit_at fits_of
fits_above_the_distance = refl

-- of two distances the greater, at either end; of 0 and -0 the start's
pub greater_of_two : (greater_of (Known (bits 0x3E800000)) (Known (bits 0x3F000000)) ≡ bits 0x3F000000) × (greater_of (Known (bits 0x3F000000)) (Known (bits 0x3E800000)) ≡ bits 0x3F000000)
unfolding of_bits lt greater_of
greater_of_two = (refl, refl)

pub start_of_zeros : (greater_of (Known (bits 0)) (Known (bits 0x80000000)) ≡ bits 0) × (greater_of (Known (bits 0x80000000)) (Known (bits 0)) ≡ bits 0x80000000)
unfolding of_bits lt greater_of
start_of_zeros = (refl, refl)

-- a fit list that is one short, or one long, is refused by row 1, before a tolerance that is NaN
pub fits_unpaired : (fitted_gate (frame 1 (bits 0x7FC00000)) 6 5 ≡ Err Unpaired) × (fitted_gate (frame 1 (bits 0x7FC00000)) 6 7 ≡ Err Unpaired)
unfolding frame fitted_gate
fits_unpaired = (refl, refl)
