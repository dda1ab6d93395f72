-- Where the filters keep what in the workspace, for n quads: marks and groups as in cells; in the room of its tables, which end at 18·n, a
-- record for each quad with room for their ordering, and the lengths by group; then the lengths of all sides by their bits, the medians by
-- group, and the incidence of each corner.
use Rattle.std.specs.Prelude.{ℕ, ◌*◌}

abbrev pub records_at : ℕ → ℕ
records_at n = 2 * n

abbrev pub ordering_at : ℕ → ℕ
ordering_at n = 4 * n

abbrev pub gathered_at : ℕ → ℕ
gathered_at n = 6 * n

abbrev pub lengths_at : ℕ → ℕ
lengths_at n = 18 * n

abbrev pub medians_at : ℕ → ℕ
medians_at n = 22 * n

abbrev pub incidence_at : ℕ → ℕ
incidence_at n = 23 * n
