-- Further worked examples, one at least for each branch of each rule. The answers are from outside: roots from the machine's own square
-- root, angles and distances from the ruled Rust (oracle/, `oracle vectors numbers`), the rest plain arithmetic.
use Rattle.std.specs.Prelude.{Ok, Err}
use Rattle.std.specs.Prelude.{◌≡◌, true, false, ℕ}
use Rattle.refusal.specs.declared.Refusal.TheVariants.{OutOfRange}
use Rattle.measure.specs.Float.{bits, fraction}
use Rattle.measure.specs.Length.{length_of}
use Rattle.measure.specs.Position.{is_position, centroid_of}
use Rattle.measure.specs.Angle.{angle_of}
use Rattle.measure.specs.Distance.{distance_of}
use Rattle.measure.specs.RootComputed.{root_of}
use Rattle.measure.specs.declared.Distance.TheVariants.{Known, Missing}

-- patterns in, pattern or refusal out
abbrev Root : ℕ → ℕ → Type 0
Root x y = root_of (bits x) ≡ Ok (bits y)

abbrev NoRoot : ℕ → Type 0
NoRoot x = root_of (bits x) ≡ Err (OutOfRange 0)

abbrev Angle : ℕ → ℕ → ℕ → Type 0
Angle dx dy a = angle_of (bits dx) (bits dy) ≡ Ok (bits a)

abbrev NoAngle : ℕ → ℕ → Type 0
NoAngle dx dy = angle_of (bits dx) (bits dy) ≡ Err (OutOfRange 0)

abbrev Apart : ℕ → ℕ → ℕ → Type 0
Apart angle axis d = distance_of (bits angle) (bits axis) ≡ Known (bits d)

abbrev NoDistance : ℕ → ℕ → Type 0
NoDistance angle axis = distance_of (bits angle) (bits axis) ≡ Missing

pub record Worked : Type 0 where
  -- roots: both zeros, an exact one, the greatest subnormal and least normal, beside a square, the greatest float
  pub root_zero : Root 0x00000000 0x00000000
  pub root_minus_zero : Root 0x80000000 0x80000000
  pub root_exact : Root 0x00000002 0x1A800000
  pub root_subnormal : Root 0x007FFFFF 0x1FFFFFFF
  pub root_normal : Root 0x00800000 0x20000000
  pub root_beside_1 : (Root 0x3F7FFFFF 0x3F7FFFFF) × (Root 0x3F800001 0x3F800000)
  pub root_greatest : Root 0x7F7FFFFF 0x5F7FFFFF
  -- no root: NaN, both infinities, just below zero
  pub root_of_nan : NoRoot 0x7FC00000
  pub root_of_infinities : (NoRoot 0x7F800000) × (NoRoot 0xFF800000)
  pub root_below_zero : NoRoot 0x80000001
  -- angles: sign bits where hi is 0
  pub angle_minus_zero_zero : Angle 0x80000000 0x00000000 0x40490FDB
  pub angle_minus_zeros : Angle 0x80000000 0x80000000 0xC0490FDB
  pub angle_zero_minus_zero : Angle 0x00000000 0x80000000 0x80000000
  -- (128,53), where t is 53/128 itself, the next above, and (53,128), the steep one
  pub angle_at_bend : Angle 0x43000000 0x42540000 0x3EC8FEF4
  pub angle_past_bend : Angle 0x43000000 0x42540001 0x3EC8FEF5
  pub angle_steep : Angle 0x42540000 0x43000000 0x3F96D01E
  -- one sign bit each, at the greatest difference taken
  pub angle_left : Angle 0xCA000000 0x3F800000 0x40490FD9
  pub angle_down : Angle 0x4A000000 0xBF800000 0xB5000000
  -- no angle: the next float above 2,097,152, on either axis, NaN, infinite
  pub angle_out_of_reach : (NoAngle 0x4A000001 0x00000000) × (NoAngle 0x00000000 0xCA000001)
  pub angle_of_nan : NoAngle 0x7FC00000 0x00000000
  pub angle_of_infinity : (NoAngle 0x00000000 0x7F800000) × (NoAngle 0xFF800000 0x3F800000)
  -- distances: with neither step, the second, both, the first; and pi below the axis, where the rest is -0
  pub apart_near : Apart 0x3F800000 0x00000000 0x3F800000
  pub apart_folded : Apart 0x40490FDB 0x3F800000 0x3F800000
  pub apart_lifted_folded : Apart 0x00000000 0x3F800000 0x3F800000
  pub apart_lifted : Apart 0xC0490FDB 0xBF490FDB 0x3F490FDC
  pub apart_minus_zero : Apart 0x00000000 0x40490FDB 0x80000000
  -- a whole pi and more off, and more than two
  pub apart_beyond_pi : (Apart 0x40490FDB 0xBF800000 0x3F800002) × (Apart 0xC0490FDB 0x3F800000 0x3F800002)
  pub apart_beyond_two_pi : Apart 0x00000000 0x41000000 0x3FB65F22
  -- no distance: NaN on either side, infinite, a difference that overflows
  pub apart_of_nan : (NoDistance 0x7FC00000 0x00000000) × (NoDistance 0x00000000 0x7FC00000)
  pub apart_of_infinity : NoDistance 0x7F800000 0x00000000
  pub apart_overflow : NoDistance 0x7F7FFFFF 0xFF7FFFFF
  -- the length of (3,4), and where there is no root
  pub length_3_4 : length_of (fraction 3 1) (fraction 4 1) ≡ fraction 5 1
  pub length_of_nan : length_of (bits 0x7FC00000) (fraction 4 1) ≡ bits 0
  -- 1,048,576 and -1,048,576 are positions, the next float above and a NaN are not
  pub position_most : (is_position (bits 0x49800000) ≡ true) × (is_position (bits 0xC9800000) ≡ true)
  pub position_past : (is_position (bits 0x49800001) ≡ false) × (is_position (bits 0x7FC00000) ≡ false)
  -- the centroid of 0, 10, 10 and 1
  pub centroid : centroid_of (bits 0) (fraction 10 1) (fraction 10 1) (fraction 1 1) ≡ fraction 21 4
