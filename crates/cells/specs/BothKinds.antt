-- The kind of the cells of a list, by the number of corners of each: three are triangles, four are quads.
use Rattle.std.specs.Prelude.{ℕ, zero, suc}
use Rattle.cells.specs.Kind.{Kind}
use Rattle.cells.specs.Quads.{quads}
use Rattle.cells.specs.Triangles.{triangles}

-- the cells of a list have three corners, or four
pub data Size : ℕ → Type 0 where
  three : Size 3
  four : Size 4

-- of two, the first for cells of three corners, and else the second
abbrev pub of_three : {A : Type 1} → ℕ → A → A → A
of_three zero t q = q
of_three (suc zero) t q = q
of_three (suc (suc zero)) t q = q
of_three (suc (suc (suc zero))) t q = t
of_three (suc (suc (suc (suc more)))) t q = q

-- its size is the number of corners itself, so that a routine over either kind can say its cells
abbrev pub kind_of : ℕ → Kind
kind_of size =
    record {
      size = size;
      first = (of_three size triangles quads).first;
      Step = (of_three size triangles quads).Step;
      Holds = (of_three size triangles quads).Holds;
      Crowd = (of_three size triangles quads).Crowd;
    }
