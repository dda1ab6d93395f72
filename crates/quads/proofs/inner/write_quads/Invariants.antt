-- The quads of the triangles below `from` stand at the front, and the rest of the list is as it was.
use Prim.Native.Nat.{◌-◌, ◌≤◌}
use Rattle.quads.specs.Merge.{triangle_count, mesh_of, given}
use Rattle.quads.proofs.Made.{Front}
use Rattle.quads.proofs.inner.write_quads.Given as goal

abbrev pub invariant-loop-t : goal.invariant-loop-t
invariant-loop-t l = (l.from ≤ triangle_count (mesh_of l.mesh)) × Front (given l.corners l.mesh) l.initial.quads l.from l.made l.quads

abbrev pub decreases-loop-t : goal.decreases-loop-t
decreases-loop-t l = triangle_count (mesh_of l.mesh) - l.from
