-- Rows 1, 2 and 8: lengths that belong together, lists of whole records, counts within their limits, and a workspace that is long enough.
use Rattle.std.specs.Prelude.{ℕ, ◌+◌, ◌*◌, ◌%◌, not, eqb, ltb}
use Rattle.refusal.specs.declared.Refusal.TheVariants.{Unpaired, OverLimit, WorkspaceShort}
use Rattle.refusal.specs.Rows.{Gate, refuse_if}

-- a list of length a has a slot for each of b
abbrev pub paired_row : ℕ → ℕ → Gate
paired_row a b = refuse_if (not (eqb a b)) Unpaired

-- a list of length a has two slots for each of b
abbrev pub doubled_row : ℕ → ℕ → Gate
doubled_row a b = refuse_if (not (eqb a (2 * b))) Unpaired

-- a list of length n is whole in records of the size
abbrev pub whole_row : ℕ → ℕ → Gate
whole_row n size = refuse_if (not (eqb (n % size) 0)) Unpaired

abbrev pub limit_row : ℕ → ℕ → Gate
limit_row count most = refuse_if (ltb most count) OverLimit

-- at most 4,096 corners, 24,576 half-edges and 4,096 quads
abbrev pub most_corners : ℕ
most_corners = 4096

abbrev pub most_half_edges : ℕ
most_half_edges = 24576

abbrev pub most_quads : ℕ
most_quads = 4096

abbrev pub work_row : ℕ → ℕ → Gate
work_row words wanted = refuse_if (ltb words wanted) (WorkspaceShort wanted)

-- what filters alone and labelling alone want
abbrev pub quad_words : ℕ → ℕ → ℕ
quad_words quads corners = 32 * quads + 16 * corners

-- what a whole frame wants
abbrev pub frame_words : ℕ → ℕ → ℕ
frame_words half_edges corners = 16 * (half_edges + corners)
