-- Document 01, "Classes", at one half-edge: the nearest informative axis at each end, and whether the half-edge is Grid; document 02, T-06:
-- the greater of its distances.
use Rattle.std.specs.Prelude.{Option, Some, None, Bool, false, cond, ◌&&◌, not, ℕ, zero, suc, eqb, Float}
use Rattle.std.specs.Float.Ieee as Ieee
use Rattle.measure.specs.Float.{bits}
use Rattle.measure.specs.Distance.{distance_of}
use Rattle.measure.specs.declared.Distance.{Distance}
use Rattle.measure.specs.declared.Distance.TheVariants as distance
use Rattle.axis.specs.declared.AxisCache.{AxisCache}
use Rattle.classify.specs.declared.Near.{Near}
use Rattle.classify.specs.declared.Side.{Side}
use Rattle.classify.specs.declared.GridSide.{GridSide}
use Rattle.classify.specs.declared.Judged.{Judged}
use Rattle.classify.specs.declared.Judged.TheVariants as judged
use Rattle.classify.specs.declared.Class.{Class}
use Rattle.classify.specs.declared.Class.TheVariants as class

-- the distance of an informative axis; any other is skipped
unfoldable pub offered : Bool → Float → Float → Distance
offered informative angle axis = cond informative (distance_of angle axis) distance.Missing

-- a match is a slot and a distance, or none
abbrev pub found : ℕ → Float → Option Near
found slot d = Some (record { slot = slot; distance = d })

-- the nearest of two slots, slot 0 on equal distance; a missing distance is skipped
unfoldable pub nearer : Distance → Distance → Option Near
nearer (distance.Known d0) (distance.Known d1) = cond (Ieee.lt d1 d0) (found 1 d1) (found 0 d0)
nearer (distance.Known d0) distance.Missing = found 0 d0
nearer distance.Missing (distance.Known d1) = found 1 d1
nearer distance.Missing distance.Missing = None

unfoldable pub match_of : AxisCache → Float → Option Near
match_of cache angle = nearer (offered cache.informative0 angle cache.angle0) (offered cache.informative1 angle cache.angle1)

-- a half-edge by its angle and the axes of the corners it runs from and to
unfoldable pub side_of : AxisCache → AxisCache → Float → Side
side_of start end angle = record { start = match_of start angle; end = match_of end angle }

abbrev pub slot_in : Option Near → ℕ
slot_in (Some near) = near.slot
slot_in None = 0

abbrev pub distance_in : Option Near → Distance
distance_in (Some near) = distance.Known near.distance
distance_in None = distance.Missing

unfoldable pub is_below : Float → Distance → Bool
is_below tolerance (distance.Known d) = Ieee.lt d tolerance
is_below tolerance distance.Missing = false

-- document 02, T-06: what a half-edge that is not Grid reports, -1
abbrev pub no_fit : Float
no_fit = bits 0xBF800000

-- the greater of the start's distance and the end's, the start's where neither is greater; where one is missing the half-edge is not Grid
unfoldable pub greater_of : Distance → Distance → Float
greater_of (distance.Known start) (distance.Known end) = cond (Ieee.lt start end) end start
greater_of (distance.Known start) distance.Missing = no_fit
greater_of distance.Missing end = no_fit

-- the slots at both ends, and the greater distance
abbrev pub grid_side : Option Near → Option Near → GridSide
grid_side start end = record { start = slot_in start; end = slot_in end; fit = greater_of (distance_in start) (distance_in end) }

-- Grid, with the slots and the greater distance, when both ends have a distance strictly below the tolerance; a missing match at either end
-- is Spurious
unfoldable pub judged_by : Float → Option Near → Option Near → Judged
judged_by tolerance start end = cond (is_below tolerance (distance_in start) && is_below tolerance (distance_in end)) (judged.Grid (grid_side start end)) judged.Spurious

unfoldable pub judged_of : Float → Side → Judged
judged_of tolerance side = judged_by tolerance side.start side.end

-- the class of a half-edge by its own judgement and those of the two after it in the triangle, which meet where the first of them ends:
-- the third side of a triangle with exactly two Grid sides whose slots differ at their common corner is Diagonal
unfoldable pub class_by : Judged → Judged → Judged → Class
class_by (judged.Grid own) next last = class.Grid
class_by judged.Spurious (judged.Grid next) (judged.Grid last) = cond (not (eqb next.end last.start)) class.Diagonal class.Spurious
class_by judged.Spurious (judged.Grid next) judged.Spurious = class.Spurious
class_by judged.Spurious judged.Spurious last = class.Spurious

-- in a list a class is 0 Spurious, 1 Grid, 2 Diagonal
abbrev pub class_number : Class → ℕ
class_number class.Spurious = 0
class_number class.Grid = 1
class_number class.Diagonal = 2

-- the class that a word of a list is read as; the calls that read a class refuse a word above 2
abbrev pub class_from : ℕ → Class
class_from zero = class.Spurious
class_from (suc zero) = class.Grid
class_from (suc (suc n)) = class.Diagonal
