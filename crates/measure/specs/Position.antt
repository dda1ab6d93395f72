-- Document 01, "Numbers allowed" and row 4: the range of a position and the reach of the angle; and the centroid of four positions ("Quads").
use Rattle.std.specs.Prelude.{Bool, Float}
use Rattle.std.specs.Float.Ieee as Ieee
use Rattle.std.specs.Float.{binary32}
use Rattle.measure.specs.Float.{fraction, within}

-- a finite f32 of magnitude at most 1,048,576
abbrev pub is_position : Float → Bool
is_position x = within (fraction 1048576 1) x

-- a difference that is finite and not above 2,097,152 in magnitude
abbrev pub in_reach : Float → Bool
in_reach d = within (fraction 2097152 1) d

-- ((p0 + p1) + p2) + p3, divided by 4
unfoldable pub centroid_of : Float → Float → Float → Float → Float
centroid_of p0 p1 p2 p3 = Ieee.div binary32 (Ieee.add binary32 (Ieee.add binary32 (Ieee.add binary32 p0 p1) p2) p3) (fraction 4 1)
