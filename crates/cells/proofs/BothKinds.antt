-- What holds of either kind of cell: its laws, and that an assignment that fits is a labelling. Assumes nothing.
use mathlib.Core.List.{List}
use Prim.Native.Nat.{ℕ}
use Rattle.cells.specs.Cells.{Neighbours, everyone}
use Rattle.cells.specs.Groups.{Groups}
use Rattle.cells.specs.Kind.{Pair, Fits}
use Rattle.cells.specs.BothKinds.{Size, kind_of}
use Rattle.cells.specs.BothKinds.Size.{three, four}
use Rattle.cells.specs.Listed.{Grouping, Labelling}
use Rattle.cells.proofs.Unique.{Laws}
use Rattle.cells.proofs.Squares.{quad_laws, no_crowd}
use Rattle.cells.proofs.Trilaws.{triangle_laws, triangle_labelling}

pub laws_of : {size : ℕ} → Size size → Laws (kind_of size)
laws_of three = triangle_laws
laws_of four = quad_laws

pub labelling_of : {size : ℕ} → Size size → (cells : List ℕ) (g : Grouping) → Groups (Neighbours size cells everyone) g.n g.number → {s : ℕ} {L : ℕ → Pair} → Fits (kind_of size) cells s L → Labelling (kind_of size) cells g s L
labelling_of three cells g G f = triangle_labelling cells g G f
labelling_of four cells g G f = no_crowd f
