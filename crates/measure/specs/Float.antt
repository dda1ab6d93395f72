-- Single-precision floats as document 01 speaks of them: by pattern, by whole number, by sign bit and magnitude, and in a range.
-- What a float is, and each operation with its one rounding, are lib.Ieee's.
use Rattle.std.specs.Prelude.{ℕ, Bool, false, Float}
use Rattle.std.specs.Float.Ieee as Ieee
use Rattle.std.specs.Float.{nan, inf, fin, binary32}

-- the float whose pattern is b, as 3F800000 for 1
abbrev pub bits : ℕ → Float
bits b = Ieee.of_bits binary32 b

-- the float nearest to the fraction n / d
abbrev pub fraction : ℕ → ℕ → Float
fraction n d = Ieee.round binary32 false n d

-- the sign bit; a NaN's is not determined, and is read as clear
abbrev pub sign_of : Float → Bool
sign_of nan = false
sign_of (inf s) = s
sign_of (fin s m e) = s

abbrev pub abs_of : Float → Float
abs_of nan = nan
abs_of (inf s) = inf false
abs_of (fin s m e) = fin false m e

-- finite and of magnitude at most `most`, for a finite `most`: no NaN is at most anything, and no infinity at most a finite number
unfoldable pub within : Float → Float → Bool
within most x = Ieee.le (abs_of x) most
