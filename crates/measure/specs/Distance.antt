-- Document 01, "Distance": how far an angle is from an undirected axis, or none.
use Rattle.std.specs.Prelude.{Bool, true, false, cond, Float}
use Rattle.std.specs.Float.Ieee as Ieee
use Rattle.std.specs.Float.{binary32}
use Rattle.std.specs.Float.Ieee.Scale.{finite}
use Rattle.measure.specs.Float.{bits}
use Rattle.measure.specs.declared.Distance.{Distance}
use Rattle.measure.specs.declared.Distance.TheVariants.{Known, Missing}

-- the floats for pi and pi/2
abbrev pub pi : Float
pi = bits 0x40490FDB

abbrev pub half_pi : Float
half_pi = bits 0x3FC90FDB

-- below 0 add pi
unfoldable pub lifted : Float → Float
lifted d = cond (Ieee.lt d (bits 0)) (Ieee.add binary32 d pi) d

-- above pi/2 take pi - d
unfoldable pub folded : Float → Float
folded d = cond (Ieee.lt half_pi d) (Ieee.sub binary32 pi d) d

-- d = (angle - axis) % pi, with the two steps after it
unfoldable pub apart : Float → Float → Float
apart angle axis = folded (lifted (Ieee.rem binary32 (Ieee.sub binary32 angle axis) pi))

-- the answer is that number or, if not finite, none
unfoldable pub number_or_none : Bool → Float → Distance
number_or_none true d = Known d
number_or_none false d = Missing

unfoldable pub distance_of : Float → Float → Distance
distance_of angle axis = number_or_none (finite (apart angle axis)) (apart angle axis)
