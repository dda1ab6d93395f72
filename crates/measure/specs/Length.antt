-- Document 01, "Filters": length is the root of dx·dx + dy·dy. For differences in reach it is never refused (proofs/Length).
use Rattle.std.specs.Prelude.{Result, Ok, Err}
use Rattle.refusal.specs.declared.Refusal.{Refusal}
use Rattle.std.specs.Float.Ieee as Ieee
use Rattle.std.specs.Prelude.{Float}
use Rattle.std.specs.Float.{binary32}
use Rattle.measure.specs.Float.{bits}
use Rattle.measure.specs.RootComputed.{root_of}

abbrev pub squares : Float → Float → Float
squares dx dy = Ieee.add binary32 (Ieee.mul binary32 dx dx) (Ieee.mul binary32 dy dy)

-- the number, or 0 where there is none
unfoldable pub or_zero : Result Float Refusal → Float
or_zero (Ok y) = y
or_zero (Err why) = bits 0

unfoldable pub length_of : Float → Float → Float
length_of dx dy = or_zero (root_of (squares dx dy))
