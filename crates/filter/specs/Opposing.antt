-- The second rule: opposing sides, greater over lesser, where a lesser below float 1e-6 is replaced by float 1e-6 and the greater stays;
-- the worse of two ratios must be at most the limit.
use Rattle.std.specs.Prelude.{Bool, cond, not, ℕ, Float}
use Rattle.std.specs.Float.Ieee as Ieee
use Rattle.std.specs.Float.{binary32}
use Rattle.measure.specs.Float.{fraction}
use Rattle.filter.specs.Input.{Input, side_length}

abbrev pub tiny : Float
tiny = fraction 1 1000000

unfoldable pub greater_of : Float → Float → Float
greater_of a b = cond (Ieee.lt b a) a b

unfoldable pub lesser_of : Float → Float → Float
lesser_of a b = cond (Ieee.lt a b) a b

unfoldable pub raised : Float → Float
raised m = cond (Ieee.lt m tiny) tiny m

unfoldable pub side_ratio : Float → Float → Float
side_ratio a b = Ieee.div binary32 (greater_of a b) (raised (lesser_of a b))

-- by the lengths of a quad's four sides in order
unfoldable pub uneven : Float → (ℕ → Float) → Bool
uneven limit side = not (Ieee.le (greater_of (side_ratio (side 0) (side 2)) (side_ratio (side 1) (side 3))) limit)

unfoldable pub skewed : Input → ℕ → Bool
skewed i q = uneven i.params.ratio (side_length i q)
