-- Document 01, "Quads": triangle t pairs with the twin's triangle when that is higher, its own only diagonal is the twin, and the union
-- has four corners. Quads stand in order of t.
use Rattle.std.specs.Prelude.{Option, Some, None}
use Rattle.std.specs.Prelude.{cond, List, [], ◌∷◌, ◌++◌, ℕ, zero, suc, ◌/◌, eqb, ltb, Float, length, get_or}
use Rattle.mesh.specs.HalfEdge.{triangle_of, no_twin}
use Rattle.mesh.specs.declared.Positions.{Positions}
use Rattle.quads.specs.declared.Mesh as lent
use Rattle.quads.specs.declared.Quad.{Quad}
use Rattle.quads.specs.Diagonal.{only_at, is_at}
use Rattle.quads.specs.Union.{union_of, four_from}
use Rattle.quads.specs.Order.{order_of}

-- the half-edges with their corners, twins and classes
pub record Mesh : Type 0 where
  pub triangles : List ℕ
  pub twins : List ℕ
  pub classes : List ℕ

-- all that the call reads
pub record Input : Type 0 where
  pub xs : List Float
  pub ys : List Float
  pub mesh : Mesh

-- what lent lists hold
abbrev pub mesh_of : lent.Mesh → Mesh
mesh_of mesh = record { triangles = mesh.triangles.now; twins = mesh.twins.now; classes = mesh.classes.now }

abbrev pub given : Positions → lent.Mesh → Input
given corners mesh = record { xs = corners.x.now; ys = corners.y.now; mesh = mesh_of mesh }

abbrev pub triangle_count : Mesh → ℕ
triangle_count m = length m.triangles / 3

-- t's pairing across half-edge w, the twin of its only diagonal
unfoldable pub paired_by : Mesh → ℕ → ℕ → Option Quad
paired_by m t w =
    cond (eqb w no_twin) None
    (cond (ltb t (triangle_of w)) (cond (is_at (only_at m.classes (triangle_of w)) w) (four_from (union_of m.triangles t (triangle_of w))) None) None)

unfoldable pub paired_across : Mesh → ℕ → Option ℕ → Option Quad
paired_across m t None = None
paired_across m t (Some e) = paired_by m t (get_or m.twins e 0)

unfoldable pub paired_at : Mesh → ℕ → Option Quad
paired_at m t = paired_across m t (only_at m.classes t)

-- the quad that t makes, if it makes one
abbrev pub made_by : Input → Option Quad → List Quad
made_by i None = []
made_by i (Some q) = order_of i.xs i.ys q ∷ []

-- the quads of the triangles below t
unfoldable pub quads_to : Input → ℕ → List Quad
quads_to i zero = []
quads_to i (suc t) = quads_to i t ++ made_by i (paired_at i.mesh t)

unfoldable pub merged_of : Input → List Quad
merged_of i = quads_to i (triangle_count i.mesh)
