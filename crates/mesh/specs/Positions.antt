-- Row 4: the first corner of which x or y is no position.
use Rattle.std.specs.Prelude.{Bool, not, ◌&&◌, List, ℕ, Float, length, get_or}
use Rattle.std.specs.Float.{nan}
use Rattle.measure.specs.Position.{is_position}
use Rattle.refusal.specs.declared.Refusal.TheVariants.{OutOfRange}
use Rattle.refusal.specs.Rows.{Gate, refuse_first}

unfoldable pub misplaced : List Float → List Float → ℕ → Bool
misplaced xs ys k = not (is_position (get_or xs k nan) && is_position (get_or ys k nan))

unfoldable pub positions_row : List Float → List Float → Gate
positions_row xs ys = refuse_first (misplaced xs ys) (length xs) OutOfRange
