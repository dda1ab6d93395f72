-- The first rule: incidence counts 2 per quad at each of its corners, over the input quads. Above 8 is illegal; two illegal corners drop
-- the quad.
use Rattle.std.specs.Prelude.{Bool, List, ℕ, ◌+◌, ◌*◌, leb, ltb, length, get_or}
use Rattle.words.specs.Sorting.{one, equal}
use Rattle.cells.specs.Cells.{cell}

-- no quad names a corner twice, so the places that name it are as many as the quads
unfoldable pub incidence : List ℕ → ℕ → ℕ
incidence quads c = 2 * equal (λ (j : ℕ). get_or quads j 0) (length quads) c

unfoldable pub illegal : List ℕ → ℕ → Bool
illegal quads c = ltb 8 (incidence quads c)

unfoldable pub crowded : List ℕ → ℕ → Bool
crowded quads q =
    leb 2
    (one (illegal quads (cell 4 quads q 0)) + one (illegal quads (cell 4 quads q 1)) + one (illegal quads (cell 4 quads q 2)) + one (illegal quads (cell 4 quads q 3)))
