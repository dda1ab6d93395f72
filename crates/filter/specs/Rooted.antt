-- What a side's length is where row 4 lets the positions through: a root by document 01's statement, and never the 0 that stands for none.
use Rattle.std.specs.Prelude.{Ok}
use Rattle.std.specs.Prelude.{List, ℕ, ◌+◌, Float, get_or}
use Rattle.std.specs.Float.Ieee as Ieee
use Rattle.std.specs.Float.{nan, binary32}
use Rattle.measure.specs.Length.{squares}
use Rattle.measure.specs.Root.{RootOf}
use Rattle.cells.specs.Cells.{cell}
use Rattle.filter.specs.Input.{Input, side_length}

-- dx·dx + dy·dy from corner a to corner b
abbrev pub squares_between : List Float → List Float → ℕ → ℕ → Float
squares_between xs ys a b = squares (Ieee.sub binary32 (get_or xs b nan) (get_or xs a nan)) (Ieee.sub binary32 (get_or ys b nan) (get_or ys a nan))

-- side k of quad q
abbrev pub Rooted : Input → ℕ → ℕ → Type 0
Rooted i q k = RootOf (squares_between i.xs i.ys (cell 4 i.quads q k) (cell 4 i.quads q (k + 1))) (Ok (side_length i q k))
