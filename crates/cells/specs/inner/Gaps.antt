-- The places between two entries of one column.
use Rattle.std.specs.Prelude.{Bool, cond, ℕ, ◌+◌, ◌-◌, eqb}
use Rattle.cells.specs.Sums.{how_many}
use Rattle.cells.specs.Listed.{Entry}

-- of the places between e and f, where these stand in one column, so many are as R says
abbrev pub gap : (ℕ → ℕ → Bool) → Entry → Entry → ℕ
gap R e f = cond (eqb e.u f.u) (how_many (λ (j : ℕ). R e.u (e.v + 1 + j)) (f.v - (e.v + 1))) 0
