-- What open rows say: the lists pair, are within the limits, hold positions and name corners that exist. Assumes nothing.
use mathlib.Core.Path.{◌≡◌}
use mathlib.Core.List.{List}
use Prim.Native.Nat.{ℕ, ◌*◌, ◌%◌, ◌≤◌}
use lib.Ieee.{Float}
use lib.ListN.{length}
use Rattle.std.specs.Prelude.{Ok}
use Rattle.refusal.specs.Rows.{◌then◌}
use Rattle.refusal.proofs.Rows.{open_both}
use Rattle.mesh.specs.Positions.{positions_row}
use Rattle.mesh.specs.Cells.{corners_row, twice_row}
use Rattle.measure.specs.Parameter.{parameter_row}
use Rattle.axis.specs.Cache.{rule_row}
use Rattle.mesh.proofs.Open.{paired_open, limit_open, positions_open, corners_open}
use Rattle.classify.specs.declared.EdgeParams.{EdgeParams}
use Rattle.classify.specs.Classes.{Input}
use Rattle.classify.specs.inner.Triangle.{Sound}
use Rattle.classify.specs.Call.{lengths_gate, values_gate, gate_of, fitted_gate}

-- ---- rows 1 and 2

pub record Paired (x y angles marks spreads triangles classes : ℕ) : Type 0 where
  pub y_is : y ≡ x
  pub angles_are : angles ≡ 2 * x
  pub marks_are : marks ≡ 2 * x
  pub spreads_are : spreads ≡ 2 * x
  pub whole : triangles % 3 ≡ 0
  pub classes_are : classes ≡ triangles
  pub corners : x ≤ 4096
  pub edges : triangles ≤ 24576

pub lengths_open : (x y a m s t c : ℕ) → lengths_gate x y a m s t c ≡ Ok tt → Paired x y a m s t c
unfolding lengths_gate
lengths_open x y a m s t c e =
    let e1 = open_both _ _ e in
    let e2 = open_both _ _ e1.1 in
    let e3 = open_both _ _ e2.1 in
    let e4 = open_both _ _ e3.1 in
    let e5 = open_both _ _ e4.1 in
    let e6 = open_both _ _ e5.1 in
    let e7 = open_both _ _ e6.1 in
    record {
      y_is = paired_open y x e1.0;
      angles_are = paired_open a (2 * x) e2.0;
      marks_are = paired_open m (2 * x) e3.0;
      spreads_are = paired_open s (2 * x) e4.0;
      whole = paired_open (t % 3) 0 e5.0;
      classes_are = paired_open c t e6.0;
      corners = limit_open x 4096 e7.0;
      edges = limit_open t 24576 e7.1;
    }

-- ---- rows 4 and 5

values_open : (xs ys : List Float) (triangles : List ℕ) (p : EdgeParams) → values_gate xs ys triangles p ≡ Ok tt → (positions_row xs ys ≡ Ok tt) × (corners_row (length xs) triangles ≡ Ok tt)
unfolding values_gate
values_open xs ys triangles p e =
    let v1 = open_both (parameter_row p.tolerance 0) _ e in
    let v2 = open_both (parameter_row p.spread.limit 4) _ v1.1 in
    let v3 = open_both (rule_row p.spread) _ v2.1 in
    let v4 = open_both (positions_row xs ys) (corners_row (length xs) triangles then twice_row 3 triangles) v3.1 in
    (v4.0, (open_both (corners_row (length xs) triangles) (twice_row 3 triangles) v4.1).0)

-- ---- all rows

gate_sound : (i : Input) (classes : ℕ) → gate_of i classes ≡ Ok tt → Sound i × (classes ≡ length i.triangles)
unfolding gate_of
gate_sound i classes e =
    let both = open_both _ _ e in
    let l = lengths_open _ _ _ _ _ _ _ both.0 in
    let v = values_open i.xs i.ys i.triangles i.params both.1 in (
      record {
        ys = l.y_is;
        angles = l.angles_are;
        marks = l.marks_are;
        spreads = l.spreads_are;
        whole = l.whole;
        corners = l.corners;
        edges = l.edges;
        placed = positions_open i.xs i.ys v.0;
        named = corners_open (length i.xs) i.triangles v.1;
      },
      l.classes_are,
    )

pub fitted_sound : (i : Input) (classes fits : ℕ) → fitted_gate i classes fits ≡ Ok tt → Sound i × (classes ≡ length i.triangles) × (fits ≡ length i.triangles)
unfolding fitted_gate
fitted_sound i classes fits e =
    let both = open_both _ _ e in
    let (sound, same) = gate_sound i classes both.1 in
    (sound, same, paired_open fits (length i.triangles) both.0)
