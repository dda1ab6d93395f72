-- What open rows say of a mesh: the lists pair and are within the limits, corners exist and differ, twins are in the list and point back.
-- Assumes nothing.
use mathlib.Core.Path.{◌≡◌}
use mathlib.Core.Bool.{false}
use Prim.Native.Nat.{ℕ, ◌%◌, ◌≤◌, ◌<◌}
use lib.ListN.{length}
use Rattle.std.specs.Prelude.{Ok}
use Rattle.refusal.specs.Rows.{◌then◌}
use Rattle.refusal.proofs.Rows.{open_both}
use Rattle.mesh.specs.Lists.{paired_row, whole_row, limit_row}
use Rattle.mesh.specs.Positions.{positions_row}
use Rattle.mesh.specs.Cells.{corners_row, classes_row, twice_row}
use Rattle.mesh.specs.Twins.{twin_offends, twins_row}
use Rattle.mesh.proofs.Open.{paired_open, limit_open, positions_open, corners_open, twice_open, twins_open, twin_sound}
use Rattle.quads.specs.Merge.{Input}
use Rattle.quads.specs.inner.Merging.{Sound}
use Rattle.quads.specs.Call.{lengths_gate, values_gate, gate_of}

pub record Paired (x y triangles twins classes : ℕ) : Type 0 where
  pub y_is : y ≡ x
  pub whole : triangles % 3 ≡ 0
  pub twins_are : twins ≡ triangles
  pub classes_are : classes ≡ triangles
  pub corners : x ≤ 4096
  pub edges : triangles ≤ 24576

pub lengths_open : (x y t w c : ℕ) → lengths_gate x y t w c ≡ Ok tt → Paired x y t w c
unfolding lengths_gate
lengths_open x y t w c e =
    let e1 = open_both (paired_row y x) _ e in
    let e2 = open_both (whole_row t 3) _ e1.1 in
    let e3 = open_both (paired_row w t) _ e2.1 in
    let e4 = open_both (paired_row c t) _ e3.1 in
    let e5 = open_both (limit_row x 4096) (limit_row t 24576) e4.1 in
    record {
      y_is = paired_open y x e1.0;
      whole = paired_open (t % 3) 0 e2.0;
      twins_are = paired_open w t e3.0;
      classes_are = paired_open c t e4.0;
      corners = limit_open x 4096 e5.0;
      edges = limit_open t 24576 e5.1;
    }

-- ---- rows 4 to 7

record Rows (i : Input) : Type 0 where
  positions : positions_row i.xs i.ys ≡ Ok tt
  corners : corners_row (length i.xs) i.mesh.triangles ≡ Ok tt
  twice : twice_row 3 i.mesh.triangles ≡ Ok tt
  twins : twins_row i.mesh.triangles i.mesh.twins ≡ Ok tt

values_open : (i : Input) → values_gate i ≡ Ok tt → Rows i
unfolding values_gate
values_open i e =
    let t = i.mesh.triangles in
    let v1 = open_both (positions_row i.xs i.ys) (corners_row (length i.xs) t then classes_row i.mesh.classes then twice_row 3 t then twins_row t i.mesh.twins) e in
    let v2 = open_both (corners_row (length i.xs) t) (classes_row i.mesh.classes then twice_row 3 t then twins_row t i.mesh.twins) v1.1 in
    let v3 = open_both (classes_row i.mesh.classes) (twice_row 3 t then twins_row t i.mesh.twins) v2.1 in
    let v4 = open_both (twice_row 3 t) (twins_row t i.mesh.twins) v3.1 in
    record { positions = v1.0; corners = v2.0; twice = v4.0; twins = v4.1 }

-- ---- all rows

pub gate_sound : (i : Input) → gate_of i ≡ Ok tt → Sound i
unfolding gate_of
gate_sound i e =
    let both = open_both (lengths_gate (length i.xs) (length i.ys) (length i.mesh.triangles) (length i.mesh.twins) (length i.mesh.classes)) (values_gate i) e in
    let l = lengths_open _ _ _ _ _ both.0 in
    let v = values_open i both.1 in
    let back : (k : ℕ) → k < length i.mesh.triangles → twin_offends i.mesh.triangles i.mesh.twins k ≡ false = λ k h. twins_open i.mesh.triangles i.mesh.twins v.twins k (rw l.twins_are h) in
    record {
      mesh = record {
        twins = l.twins_are;
        classes = l.classes_are;
        whole = l.whole;
        edges = l.edges;
        inside = λ k h some. rw l.twins_are at (twin_sound i.mesh.triangles i.mesh.twins k (back k h) some).0;
      };
      standing = record { lengths = l.y_is; placed = positions_open i.xs i.ys v.positions };
      corners = l.corners;
      named = corners_open (length i.xs) i.mesh.triangles v.corners;
      differ = twice_open 3 i.mesh.triangles v.twice;
      back = back;
    }
