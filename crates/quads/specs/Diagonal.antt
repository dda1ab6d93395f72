-- Document 01, "Quads": a triangle's only diagonal, its one Diagonal side where the other two are Grid.
use Rattle.std.specs.Prelude.{Option, Some, None}
use Rattle.std.specs.Prelude.{Bool, true, false, cond, ◌&&◌, List, ℕ, ◌+◌, ◌*◌, eqb, get_or}
use Rattle.classify.specs.declared.Class.{Class}
use Rattle.classify.specs.declared.Class.TheVariants.{Spurious, Grid, Diagonal}
use Rattle.classify.specs.Match.{class_from}

abbrev pub is_grid : Class → Bool
is_grid Spurious = false
is_grid Grid = true
is_grid Diagonal = false

abbrev pub is_diagonal : Class → Bool
is_diagonal Spurious = false
is_diagonal Grid = false
is_diagonal Diagonal = true

-- the half-edges of the triangle are base, base + 1 and base + 2
unfoldable pub only_by : ℕ → Class → Class → Class → Option ℕ
only_by base a b c =
    cond (is_diagonal a && (is_grid b && is_grid c)) (Some base)
    (cond (is_grid a && (is_diagonal b && is_grid c)) (Some (base + 1))
    (cond (is_grid a && (is_grid b && is_diagonal c)) (Some (base + 2))
    None))

abbrev pub side_class : List ℕ → ℕ → Class
side_class classes e = class_from (get_or classes e 0)

unfoldable pub only_at : List ℕ → ℕ → Option ℕ
only_at classes t = only_by (3 * t) (side_class classes (3 * t)) (side_class classes (3 * t + 1)) (side_class classes (3 * t + 2))

-- e is what was found
abbrev pub is_at : Option ℕ → ℕ → Bool
is_at None e = false
is_at (Some f) e = eqb f e
