-- The call on one square is as listed, by computation. Assumes nothing.
use mathlib.Core.Path.{◌≡◌, refl, subst}
use mathlib.Core.Bool.{true}
use mathlib.Core.List.{[], ◌∷◌}
use Prim.Native.Nat.{ℕ, ◌<◌}
use native.Mathlib.Nat.{le_refl}
use native.Mathlib.Omega.{arith}
use lib.Dec.{lit<, lit≤}
use lib.Ieee.{of_bits, round, add, sub, mul, div, lt, eq, le, is_nan}
use Rattle.refusal.specs.First.{first_of}
use Rattle.refusal.specs.Rows.{refuse_first}
use Rattle.words.specs.Listing.{listing}
use Rattle.words.specs.Sorting.{one, equal}
use Rattle.measure.specs.Float.{fraction, within}
use Rattle.measure.specs.Pattern.{sig_of, exp_of, units}
use Rattle.measure.specs.Root.{units_of}
use Rattle.measure.specs.RootComputed.{greatest, reaches, root_pattern, root_of}
use Rattle.measure.specs.Length.{or_zero, length_of}
use Rattle.mesh.specs.Positions.{misplaced, positions_row}
use Rattle.mesh.specs.Cells.{not_below, corners_row, some, names_twice, twice_row}
use Rattle.cells.specs.Groups.{Groups}
use Rattle.cells.specs.Groups.Linked.{same}
use Rattle.quads.specs.Call.{words_of}
use Rattle.filter.specs.Input.{length_between, length_of_side}
use Rattle.filter.specs.Topology.{incidence, illegal, crowded}
use Rattle.filter.specs.Opposing.{greater_of, lesser_of, raised, side_ratio, uneven, skewed}
use Rattle.filter.specs.Median.{less, up_to, Median}
use Rattle.filter.specs.Size.{has_least, has_greatest, is_skipped, off_side, off_size, sides_to}
use Rattle.filter.specs.Marks.{mark_by, left, Joined, Marked, kept_to, kept_of}
use Rattle.filter.specs.Marks.Marked.{sized}
use Rattle.filter.specs.Call.{lengths_gate, params_gate, values_gate, gate_of, entry_gate}
use Rattle.filter.specs.Call.Allowed.{refused, judged}
use Rattle.filter.specs.Single.{square, Single}

alone : Groups (Joined square) 1 (λ (q : ℕ). q)
alone = record { linked = λ x h. same; together = λ x y e. omega (arith, e.from, e.to); lowest = λ x h. le_refl x }

ten : Median (sides_to square (λ (q : ℕ). q) 0 1) (fraction 10 1)
unfolding of_bits round add sub mul lt sig_of exp_of units units_of greatest reaches root_pattern root_of or_zero length_of length_between length_of_side one less up_to sides_to
ten = record { at = 0; at_lt = lit< tt; is = refl; before = lit≤ tt; after = lit< tt }

median : (q : ℕ) → q < 1 → left square q ≡ true → Median (sides_to square (λ (q : ℕ). q) q 1) (fraction 10 1)
median q h l = let z : 0 ≡ q = omega arith in subst (λ (g : ℕ). Median (sides_to square (λ (q : ℕ). q) g 1) (fraction 10 1)) z ten

-- the square has the mark 0: kept
pub marked : Marked square (0 ∷ [])
unfolding of_bits round add sub mul div lt eq le listing one equal sig_of exp_of units units_of greatest reaches root_pattern root_of or_zero length_of some length_between length_of_side incidence illegal crowded greater_of lesser_of raised side_ratio uneven skewed has_least has_greatest is_skipped off_side off_size mark_by
marked = sized refl (λ (q : ℕ). q) alone (λ (g : ℕ). fraction 10 1) median

pub single : Single
unfolding of_bits round le is_nan first_of refuse_first within misplaced positions_row not_below corners_row some names_twice twice_row words_of kept_to kept_of lengths_gate params_gate values_gate gate_of entry_gate
single = record { kept = judged refl _ marked; no_room = judged refl _ marked; no_workspace = refused _ refl }
