-- Row 7: a twin that is neither "none" nor in range, whose own twin is not this half-edge, or that does not run between the same
-- corners the other way. The three faults are tried in that order at a half-edge.
use Rattle.std.specs.Prelude.{Bool, false, not, cond, ◌&&◌, ◌||◌, List, ℕ, eqb, leb, length, get_or}
use Rattle.refusal.specs.declared.Refusal.{Refusal}
use Rattle.refusal.specs.declared.Refusal.TheVariants.{TwinPastEnd, TwinNotBack, TwinElsewhere}
use Rattle.refusal.specs.Rows.{Gate, refuse_first}
use Rattle.mesh.specs.HalfEdge.{start_of, end_of, no_twin}

-- w is past the end of the list
abbrev pub past_end : List ℕ → ℕ → Bool
past_end twins w = leb (length twins) w

-- w's own twin is e
abbrev pub points_back : List ℕ → ℕ → ℕ → Bool
points_back twins e w = eqb (get_or twins w 0) e

-- w runs between e's corners the other way
unfoldable pub runs_back : List ℕ → ℕ → ℕ → Bool
runs_back triangles e w = eqb (start_of triangles w) (end_of triangles e) && eqb (end_of triangles w) (start_of triangles e)

unfoldable pub twin_offends : List ℕ → List ℕ → ℕ → Bool
twin_offends triangles twins e =
    let w = get_or twins e 0 in
    cond (eqb w no_twin) false (past_end twins w || (not (points_back twins e w) || not (runs_back triangles e w)))

-- what is wrong with a twin that offends
unfoldable pub twin_fault : List ℕ → ℕ → Refusal
twin_fault twins e =
    let w = get_or twins e 0 in
    cond (past_end twins w) (TwinPastEnd e w) (cond (points_back twins e w) (TwinElsewhere e w) (TwinNotBack e w))

unfoldable pub twins_row : List ℕ → List ℕ → Gate
twins_row triangles twins = refuse_first (twin_offends triangles twins) (length twins) (twin_fault twins)
