-- Row 3: a parameter is NaN. Its place is the parameter's number: tolerance 0, opposing ratio 1, least relative length 2, greatest 3, spread limit 4.
use Rattle.std.specs.Prelude.{ℕ, Float}
use Rattle.std.specs.Float.Ieee.{is_nan}
use Rattle.refusal.specs.declared.Refusal.TheVariants.{ParameterNan}
use Rattle.refusal.specs.Rows.{Gate, refuse_if}

abbrev pub parameter_row : Float → ℕ → Gate
parameter_row parameter number = refuse_if (is_nan parameter) (ParameterNan number)
