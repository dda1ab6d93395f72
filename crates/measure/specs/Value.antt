-- A finite f32's value as a whole number, so that order is order of whole numbers: its multiple of 2^-149, counted from -2^277.
-- Both zeros have one value.
use Rattle.std.specs.Prelude.{ℕ, ◌+◌, ◌-◌, ◌^◌, cond, Float}
use Rattle.measure.specs.Float.{sign_of}
use Rattle.measure.specs.Root.{units_of}

unfoldable pub whole_of : Float → ℕ
whole_of x = cond (sign_of x) (2 ^ 277 - units_of x) (2 ^ 277 + units_of x)
