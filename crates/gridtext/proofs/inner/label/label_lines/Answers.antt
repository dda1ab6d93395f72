-- `label_lines` labels the frame: the lists unpacked are its lists, and none is short.
use Prim.Native.Nat.{ℕ, ◌*◌}
use native.Mathlib.Omega.{arith}
use lib.ListN.{length-replicate}
use Rattle.measure.specs.Float.{bits}
use Rattle.gridtext.specs.Text.{most_corner_lines, most_triangle_lines}
use Rattle.gridtext.specs.inner.Unpacked.{work_words}
use Rattle.gridtext.proofs.Filling.{front_in, front_counted}
use Rattle.gridtext.proofs.Unpacking.{unpacked_input, corner_room, triangle_room}
use Rattle.gridtext.proofs.Answering.{labels}
use Rattle.gridtext.proofs.inner.label.label_lines.Goals as goal

pub positions-x-requires : goal.positions-x-requires
positions-x-requires c = let r = corner_room _ _ _ _ c.requires.0.1 in (r.0, r.1, omega arith)

pub positions-y-requires : goal.positions-y-requires
positions-y-requires c = let r = corner_room _ _ _ _ c.requires.0.1 in (r.0, r.1, omega arith)

pub slots-angles-requires : goal.slots-angles-requires
slots-angles-requires c = let r = corner_room _ _ _ _ c.requires.0.1 in (r.0, r.1, omega arith)

pub marks-marks-requires : goal.marks-marks-requires
marks-marks-requires c = corner_room _ _ _ _ c.requires.0.1

pub slots-spreads-requires : goal.slots-spreads-requires
slots-spreads-requires c = let r = corner_room _ _ _ _ c.requires.0.1 in (r.0, r.1, omega arith)

pub triples-named-requires : goal.triples-named-requires
triples-named-requires c = let r = triangle_room _ _ _ _ c.requires.0.1 in (r.0, r.1, omega arith)

pub triples-twins-requires : goal.triples-twins-requires
triples-twins-requires c = let r = triangle_room _ _ _ _ c.requires.0.1 in (r.0, r.1, omega arith)

pub slice_bounds-x-end : goal.slice_bounds-x-end
slice_bounds-x-end c = front_in c.args.read.corners most_corner_lines (bits 0) _ _ c.positions-x.ensures (omega (arith, (corner_room _ _ _ _ c.requires.0.1).0))

pub slice_bounds-frame-end : goal.slice_bounds-frame-end
slice_bounds-frame-end c = front_counted _ most_corner_lines (bits 0) _ _ c.positions-x.ensures

pub slice_bounds-y-end : goal.slice_bounds-y-end
slice_bounds-y-end c = front_in c.args.read.corners most_corner_lines (bits 0) _ _ c.positions-y.ensures (omega (arith, (corner_room _ _ _ _ c.requires.0.1).0))

pub slice_bounds-frame-end-2 : goal.slice_bounds-frame-end-2
slice_bounds-frame-end-2 c = front_counted _ most_corner_lines (bits 0) _ _ c.positions-y.ensures

pub overflow_mul-angles : goal.overflow_mul-angles
overflow_mul-angles c = omega (arith, (corner_room _ _ _ _ c.requires.0.1).0)

pub slice_bounds-angles-end : goal.slice_bounds-angles-end
slice_bounds-angles-end c = front_in (2 * c.args.read.corners) (2 * most_corner_lines) (bits 0) _ _ c.slots-angles.ensures (omega (arith, (corner_room _ _ _ _ c.requires.0.1).0))

pub slice_bounds-frame-end-3 : goal.slice_bounds-frame-end-3
slice_bounds-frame-end-3 c = front_counted _ (2 * most_corner_lines) (bits 0) _ _ c.slots-angles.ensures

pub overflow_mul-marks : goal.overflow_mul-marks
overflow_mul-marks c = omega (arith, (corner_room _ _ _ _ c.requires.0.1).0)

pub slice_bounds-marks-end : goal.slice_bounds-marks-end
slice_bounds-marks-end c = front_in (2 * c.args.read.corners) (2 * most_corner_lines) 0 _ _ c.marks-marks.ensures (omega (arith, (corner_room _ _ _ _ c.requires.0.1).0))

pub slice_bounds-frame-end-4 : goal.slice_bounds-frame-end-4
slice_bounds-frame-end-4 c = front_counted _ (2 * most_corner_lines) 0 _ _ c.marks-marks.ensures

pub overflow_mul-spreads : goal.overflow_mul-spreads
overflow_mul-spreads c = omega (arith, (corner_room _ _ _ _ c.requires.0.1).0)

pub slice_bounds-spreads-end : goal.slice_bounds-spreads-end
slice_bounds-spreads-end c = front_in (2 * c.args.read.corners) (2 * most_corner_lines) (bits 0) _ _ c.slots-spreads.ensures (omega (arith, (corner_room _ _ _ _ c.requires.0.1).0))

pub slice_bounds-frame-end-5 : goal.slice_bounds-frame-end-5
slice_bounds-frame-end-5 c = front_counted _ (2 * most_corner_lines) (bits 0) _ _ c.slots-spreads.ensures

pub overflow_mul-named : goal.overflow_mul-named
overflow_mul-named c = omega (arith, (triangle_room _ _ _ _ c.requires.0.1).0)

pub slice_bounds-named-end : goal.slice_bounds-named-end
slice_bounds-named-end c = front_in (3 * c.args.read.triangles) (3 * most_triangle_lines) 0 _ _ c.triples-named.ensures (omega (arith, (triangle_room _ _ _ _ c.requires.0.1).0))

pub slice_bounds-frame-end-6 : goal.slice_bounds-frame-end-6
slice_bounds-frame-end-6 c = front_counted _ (3 * most_triangle_lines) 0 _ _ c.triples-named.ensures

pub overflow_mul-twins : goal.overflow_mul-twins
overflow_mul-twins c = omega (arith, (triangle_room _ _ _ _ c.requires.0.1).0)

pub slice_bounds-twins-end : goal.slice_bounds-twins-end
slice_bounds-twins-end c = front_in (3 * c.args.read.triangles) (3 * most_triangle_lines) 0 _ _ c.triples-twins.ensures (omega (arith, (triangle_room _ _ _ _ c.requires.0.1).0))

pub slice_bounds-frame-end-7 : goal.slice_bounds-frame-end-7
slice_bounds-frame-end-7 c = front_counted _ (3 * most_triangle_lines) 0 _ _ c.triples-twins.ensures

pub returns : goal.returns
returns c =
    λ f standing.
    labels f standing.within _ c.args.components.now c.args.entries.now (omega (arith, length-replicate {A = ℕ} work_words 0)) c.requires.1 c.requires.2 _
    (unpacked_input _ _ _ f standing _ _ _ _ _ _ _ c.positions-x.ensures c.positions-y.ensures c.slots-angles.ensures c.marks-marks.ensures c.slots-spreads.ensures c.triples-named.ensures c.triples-twins.ensures) _ c.label_frame.ensures
