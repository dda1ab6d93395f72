-- Document 01, "Angle": the port's rule in place of atan2, in single precision with one rounding each.
use Rattle.std.specs.Prelude.{Result, Ok, Err}
use Rattle.refusal.specs.declared.Refusal.{Refusal}
use Rattle.std.specs.Prelude.{ℕ, Bool, true, false, cond, ◌&&◌, Float}
use Rattle.std.specs.Float.Ieee as Ieee
use Rattle.std.specs.Float.{binary32}
use Rattle.measure.specs.Float.{bits, fraction, sign_of, abs_of}
use Rattle.measure.specs.Position.{in_reach}
use Rattle.refusal.specs.declared.Refusal.TheVariants.{OutOfRange}

-- p = ±1/n + w·p, each 1/n rounded once
abbrev pub plus : Float → ℕ → Float → Float
plus w n p = Ieee.add binary32 (fraction 1 n) (Ieee.mul binary32 w p)

abbrev pub minus : Float → ℕ → Float → Float
minus w n p = Ieee.add binary32 (Ieee.round binary32 true 1 n) (Ieee.mul binary32 w p)

-- start p at -(1/15), then for 13, 11, 9, 7, 5, 3, 1 in turn
unfoldable pub series_of : Float → Float
series_of w = plus w 1 (minus w 3 (plus w 5 (minus w 7 (plus w 9 (minus w 11 (plus w 13 (Ieee.round binary32 true 1 15)))))))

-- offset + z·p, with w = z·z
unfoldable pub part_of : Float → Float → Float
part_of offset z = Ieee.add binary32 offset (Ieee.mul binary32 z (series_of (Ieee.mul binary32 z z)))

-- if t > 53/128, z = (t - 1)/(t + 1) and the offset is 3F490FDB; else z = t, offset 0
unfoldable pub ratio_of : Float → Float
ratio_of t =
    cond (Ieee.lt (fraction 53 128) t)
    (part_of (bits 0x3F490FDB) (Ieee.div binary32 (Ieee.sub binary32 t (fraction 1 1)) (Ieee.add binary32 t (fraction 1 1))))
    (part_of (bits 0) t)

-- if hi is 0 the base is 0, else it goes by t = lo/hi
unfoldable pub base_of : Float → Float → Float
base_of lo hi = cond (Ieee.eq hi (bits 0)) (bits 0) (ratio_of (Ieee.div binary32 lo hi))

-- hi and lo, the greater and lesser of two magnitudes
abbrev pub hi_of : Float → Float → Float
hi_of mx my = cond (Ieee.lt mx my) my mx

abbrev pub lo_of : Float → Float → Float
lo_of mx my = cond (Ieee.lt mx my) mx my

-- if |dy| > |dx|, base = 3FC90FDB - base
unfoldable pub octant_of : Float → Float → Float
octant_of mx my =
    let base = base_of (lo_of mx my) (hi_of mx my) in
    cond (Ieee.lt mx my) (Ieee.sub binary32 (bits 0x3FC90FDB) base) base

-- if dx's sign bit is set, base = 40490FDB - base
unfoldable pub across_of : Bool → Float → Float
across_of sx base = cond sx (Ieee.sub binary32 (bits 0x40490FDB) base) base

-- if dy's is set, negate
unfoldable pub below_of : Bool → Float → Float
below_of sy base = cond sy (Ieee.neg base) base

-- the rule, for every two floats
unfoldable pub angle_rule : Float → Float → Float
angle_rule dx dy = below_of (sign_of dy) (across_of (sign_of dx) (octant_of (abs_of dx) (abs_of dy)))

-- the call: refusal 4 for a difference that is not finite or above 2,097,152 in magnitude
unfoldable pub reached : Bool → Float → Result Float Refusal
reached true a = Ok a
reached false a = Err (OutOfRange 0)

unfoldable pub angle_of : Float → Float → Result Float Refusal
angle_of dx dy = reached (in_reach dx && in_reach dy) (angle_rule dx dy)
