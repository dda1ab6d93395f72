-- The half-edge convention: half-edge e belongs to triangle e/3, the next one is e+1, or e-2 when e leaves 2 on division by 3,
-- and e runs from its own corner to the next one's.
use Rattle.std.specs.Prelude.{ℕ, ◌+◌, ◌-◌, ◌/◌, ◌%◌, cond, List, eqb, get_or}

abbrev pub triangle_of : ℕ → ℕ
triangle_of e = e / 3

unfoldable pub next_of : ℕ → ℕ
next_of e = cond (eqb (e % 3) 2) (e - 2) (e + 1)

-- the corners that e runs from and to, by the triangle list
abbrev pub start_of : List ℕ → ℕ → ℕ
start_of triangles e = get_or triangles e 0

abbrev pub end_of : List ℕ → ℕ → ℕ
end_of triangles e = get_or triangles (next_of e) 0

-- how "no twin" is written
abbrev pub no_twin : ℕ
no_twin = 4294967295
