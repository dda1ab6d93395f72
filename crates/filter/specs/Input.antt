-- What the filters read, and the length of a side: the root of dx·dx + dy·dy between its two corners.
use Rattle.std.specs.Prelude.{List, ℕ, ◌+◌, ◌/◌, Float, length, get_or}
use Rattle.std.specs.Float.Ieee as Ieee
use Rattle.std.specs.Float.{nan, binary32}
use Rattle.std.specs.Borrow.{Bor}
use Rattle.measure.specs.Length.{length_of}
use Rattle.mesh.specs.declared.Positions.{Positions}
use Rattle.cells.specs.Cells.{cell}
use Rattle.filter.specs.declared.FilterParams.{FilterParams}

pub record Input : Type 0 where
  pub xs : List Float
  pub ys : List Float
  pub quads : List ℕ
  pub params : FilterParams

-- what lent lists hold, in the order in which the call takes them
abbrev pub given : (corners : Positions) (quads : Bor (List ℕ)) → FilterParams → Input
given corners quads params = record { xs = corners.x.now; ys = corners.y.now; quads = quads.now; params = params }

abbrev pub quad_count : Input → ℕ
quad_count i = length i.quads / 4

-- from corner a to corner b
unfoldable pub length_between : List Float → List Float → ℕ → ℕ → Float
length_between xs ys a b =
    length_of (Ieee.sub binary32 (get_or xs b nan) (get_or xs a nan)) (Ieee.sub binary32 (get_or ys b nan) (get_or ys a nan))

-- side k of quad q, from corner k to the next one round
unfoldable pub length_of_side : List Float → List Float → List ℕ → ℕ → ℕ → Float
length_of_side xs ys quads q k = length_between xs ys (cell 4 quads q k) (cell 4 quads q (k + 1))

abbrev pub side_length : Input → ℕ → ℕ → Float
side_length i = length_of_side i.xs i.ys i.quads
