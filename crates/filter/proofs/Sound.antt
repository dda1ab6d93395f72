-- What open rows say of an input: lists that pair and are whole, counts within their limits, positions in range, corners that exist and
-- differ, and a workspace that is long enough. Assumes nothing.
use mathlib.Core.Path.{◌≡◌}
use mathlib.Core.List.{List}
use Prim.Native.Nat.{ℕ, ◌/◌, ◌%◌, ◌≤◌}
use native.Mathlib.Omega.{arith}
use lib.Ieee.{Float}
use lib.ListN.{length}
use Rattle.std.specs.Prelude.{Ok}
use Rattle.refusal.specs.Rows.{◌then◌}
use Rattle.refusal.proofs.Rows.{open_both}
use Rattle.mesh.specs.Lists.{paired_row, whole_row, limit_row, most_corners, most_quads, work_row, quad_words}
use Rattle.mesh.specs.Positions.{positions_row}
use Rattle.mesh.specs.Cells.{corners_row, twice_row}
use Rattle.mesh.proofs.Open.{paired_open, limit_open, work_open, positions_open, corners_open, twice_open}
use Rattle.quads.specs.inner.Ordering.{Standing}
use Rattle.filter.specs.Input.{Input, quad_count}
use Rattle.filter.specs.Call.{lengths_gate, params_gate, values_gate, gate_of, entry_gate}
use Rattle.filter.specs.inner.Steps.{Sound}

pub record Paired (x y quads : ℕ) : Type 0 where
  pub y_is : y ≡ x
  pub whole : quads % 4 ≡ 0
  pub corners : x ≤ most_corners
  pub few : quads / 4 ≤ most_quads

pub lengths_open : (x y quads : ℕ) → lengths_gate x y quads ≡ Ok tt → Paired x y quads
unfolding lengths_gate
lengths_open x y quads e =
    let e1 = open_both (paired_row y x) _ e in
    let e2 = open_both (whole_row quads 4) _ e1.1 in
    let e3 = open_both (limit_row x most_corners) (limit_row (quads / 4) most_quads) e2.1 in
    record {
      y_is = paired_open y x e1.0;
      whole = paired_open (quads % 4) 0 e2.0;
      corners = limit_open x most_corners e3.0;
      few = limit_open (quads / 4) most_quads e3.1;
    }

-- rows 1 and 2 let through what rows 1 to 6 do
pub gate_paired : (i : Input) → gate_of i ≡ Ok tt → Paired (length i.xs) (length i.ys) (length i.quads)
unfolding gate_of
gate_paired i e = lengths_open _ _ _ (open_both (lengths_gate (length i.xs) (length i.ys) (length i.quads)) (params_gate i.params then values_gate i.xs i.ys i.quads) e).0

-- rows 4 to 6
record Values (xs ys : List Float) (quads : List ℕ) : Type 0 where
  positions : positions_row xs ys ≡ Ok tt
  corners : corners_row (length xs) quads ≡ Ok tt
  twice : twice_row 4 quads ≡ Ok tt

values_open : (xs ys : List Float) (quads : List ℕ) → values_gate xs ys quads ≡ Ok tt → Values xs ys quads
unfolding values_gate
values_open xs ys quads e =
    let v1 = open_both (positions_row xs ys) (corners_row (length xs) quads then twice_row 4 quads) e in
    let v2 = open_both (corners_row (length xs) quads) (twice_row 4 quads) v1.1 in
    record { positions = v1.0; corners = v2.0; twice = v2.1 }

gate_values : (i : Input) → gate_of i ≡ Ok tt → Values i.xs i.ys i.quads
unfolding gate_of
gate_values i e =
    let rows = open_both (lengths_gate (length i.xs) (length i.ys) (length i.quads)) (params_gate i.params then values_gate i.xs i.ys i.quads) e in
    values_open i.xs i.ys i.quads (open_both (params_gate i.params) (values_gate i.xs i.ys i.quads) rows.1).1

pub gate_standing : (i : Input) → gate_of i ≡ Ok tt → Standing i.xs i.ys
gate_standing i e = record { lengths = (gate_paired i e).y_is; placed = positions_open i.xs i.ys (gate_values i e).positions }

pub gate_sound : (i : Input) → gate_of i ≡ Ok tt → Sound i
gate_sound i e =
    let l = gate_paired i e in
    let v = gate_values i e in
    record {
      paired = l.y_is;
      whole = omega (arith, l.whole);
      corners = l.corners;
      few = l.few;
      named = corners_open (length i.xs) i.quads v.corners;
      differ = twice_open 4 i.quads v.twice;
    }

pub entry_sound : (i : Input) (words : ℕ) → entry_gate i words ≡ Ok tt → Sound i × (quad_words (quad_count i) (length i.xs) ≤ words)
unfolding entry_gate
entry_sound i words e =
    let both = open_both (gate_of i) (work_row words (quad_words (quad_count i) (length i.xs))) e in
    (gate_sound i both.0, work_open words (quad_words (quad_count i) (length i.xs)) both.1)
