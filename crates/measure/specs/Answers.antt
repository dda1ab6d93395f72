-- The answers of root, angle and distance in document 01's numbers.
use Rattle.std.specs.Prelude.{Result, Ok, Err}
use Rattle.refusal.specs.declared.Refusal.{Refusal}
use Rattle.std.specs.Prelude.{ℕ, Float}
use Rattle.refusal.specs.InNumbers.{InNumbers, gives, refuses}
use Rattle.measure.specs.declared.Distance.{Distance}
use Rattle.measure.specs.declared.Distance.TheVariants as distance
use Rattle.measure.specs.Float.{bits}

-- a number, or why there is none
abbrev pub measured_told : Result Float Refusal → InNumbers Float
measured_told (Ok x) = gives x
measured_told (Err why) = refuses (bits 0) why

-- 1 and the number, or 0 and 0 for none
abbrev pub distance_told : Distance → ℕ × Float
distance_told (distance.Known d) = (1, d)
distance_told distance.Missing = (0, bits 0)
