-- The call on one quad is as listed, by computation. Assumes nothing.
use mathlib.Core.Path.{refl}
use mathlib.Core.List.{List, [], ◌∷◌}
use Prim.Native.Nat.{ℕ}
use native.Mathlib.Omega.{arith}
use Rattle.refusal.specs.First.{first_of}
use Rattle.refusal.specs.Rows.{refuse_first}
use Rattle.mesh.specs.Cells.{not_below, corners_row, some, names_twice, twice_row}
use Rattle.cells.specs.Sums.{total}
use Rattle.cells.specs.Holes.{holes, places, width, height, held}
use Rattle.cells.specs.Listed.{Entry}
use Rattle.cells.proofs.Check.{groups_are}
use Rattle.cells.proofs.Computed.{computed_are}
use Rattle.walk.specs.Input.{grouping, Answer}
use Rattle.walk.specs.Call.{gate_of, entry_gate, entry_words, all_entries, component_words}
use Rattle.walk.specs.Call.Allowed.{refused, labelled}
use Rattle.walk.specs.Single.{square, Single}

abbrev entry : ℕ → ℕ → ℕ → Entry
entry u v corner = record { u = u; v = v; corner = corner }

abbrev out : List (List Entry)
out = (entry 0 0 0 ∷ entry 0 1 3 ∷ entry 1 0 1 ∷ entry 1 1 2 ∷ []) ∷ []

answer : Answer square out
unfolding total
answer = record { number = λ (q : ℕ). q; groups = groups_are square.quads (λ (q : ℕ). q) refl; components = computed_are square.quads (grouping square (λ (q : ℕ). q)) 1 (omega arith) }

pub single : Single
unfolding first_of refuse_first not_below corners_row some names_twice twice_row holes places total width height held gate_of entry_gate entry_words all_entries component_words
single = record { labelled = labelled refl out answer; no_workspace = refused _ refl; no_room = labelled refl out answer; no_entries = labelled refl out answer }
