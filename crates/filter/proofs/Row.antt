-- The marks of three quads in a row are as listed: the outer two touch nowhere, and all else by computation. Assumes nothing.
use mathlib.Core.Path.{◌≡◌, refl, sym, ◌∙◌, subst}
use mathlib.Core.Bool.{true, false, cond, false≢true}
use Prim.Native.Nat.{ℕ, zero, suc, ◌+◌, ◌%◌, ◌<◌, ◌≤◌}
use native.Mathlib.Nat.{le_refl, not-le_of_lt}
use native.Mathlib.Omega.{arith}
use lib.Dec.{eqb, lit<, lit≤}
use lib.Ieee.{Float, of_bits, round, add, sub, mul, div, lt, eq, le}
use lib.ListN.{get_or}
use Rattle.words.specs.Listing.{listing}
use Rattle.words.specs.Sorting.{one, equal}
use Rattle.measure.specs.Float.{fraction}
use Rattle.measure.specs.Pattern.{sig_of, exp_of, units}
use Rattle.measure.specs.Root.{units_of}
use Rattle.measure.specs.RootComputed.{greatest, reaches, root_pattern, root_of}
use Rattle.measure.specs.Length.{or_zero, length_of}
use Rattle.mesh.specs.Cells.{some}
use Rattle.cells.specs.Cells.{cell, Touch}
use Rattle.cells.specs.Cells.Touch.{alike, opposite}
use Rattle.cells.specs.Groups.{Groups}
use Rattle.cells.specs.Groups.Linked.{same}
use Rattle.filter.specs.Input.{length_between, length_of_side}
use Rattle.filter.specs.Topology.{incidence, illegal, crowded}
use Rattle.filter.specs.Opposing.{greater_of, lesser_of, raised, side_ratio, uneven, skewed}
use Rattle.filter.specs.Median.{less, up_to, Median}
use Rattle.filter.specs.Size.{has_least, has_greatest, is_skipped, off_side, off_size, sides_to}
use Rattle.filter.specs.Marks.{mark_by, left, Joined}
use Rattle.filter.specs.Marks.Marked.{sized}
use Rattle.filter.specs.Row.{row, Row}

own : ℕ → ℕ
own q = q

-- the corners of the first quad are below 4, those of the last are not
low : (k : ℕ) → k < 4 → get_or row.quads (0 + k) 0 < 4
low zero h = lit< tt
low (suc zero) h = lit< tt
low (suc (suc zero)) h = lit< tt
low (suc (suc (suc zero))) h = lit< tt
low (suc (suc (suc (suc k)))) h = absurd (omega arith)

high : (k : ℕ) → k < 4 → 4 ≤ get_or row.quads (8 + k) 0
high zero h = lit≤ tt
high (suc zero) h = lit≤ tt
high (suc (suc zero)) h = lit≤ tt
high (suc (suc (suc zero))) h = lit≤ tt
high (suc (suc (suc (suc k)))) h = absurd (omega arith)

no_touch : (i j : ℕ) → cell 4 row.quads 0 i ≡ cell 4 row.quads 2 j → ⊥
no_touch i j e = not-le_of_lt (low (i % 4) (omega arith)) (subst (λ (z : ℕ). 4 ≤ z) (sym e) (high (j % 4) (omega arith)))

apart : Touch 4 (cell 4 row.quads 0) (cell 4 row.quads 2) → ⊥
apart (alike a b) = no_touch a.at b.at (a.starts ∙ sym b.starts)
apart (opposite a b) = no_touch a.at ((b.at + 1) % 4) (a.starts ∙ sym b.ends)

apart_back : Touch 4 (cell 4 row.quads 2) (cell 4 row.quads 0) → ⊥
apart_back (alike a b) = no_touch b.at a.at (b.starts ∙ sym a.starts)
apart_back (opposite a b) = no_touch b.at ((a.at + 1) % 4) (b.starts ∙ sym a.ends)

dropped : left row 1 ≡ false
unfolding of_bits round add sub mul div lt le sig_of exp_of units units_of greatest reaches root_pattern root_of or_zero length_of length_between length_of_side one equal incidence illegal crowded greater_of lesser_of raised side_ratio uneven skewed left
dropped = refl

groups : Groups (Joined row) 3 own
unfolding own
groups = record { linked = λ x h. same; together = λ x y e. go x y e; lowest = λ x h. le_refl x }
  where
    go : (x y : ℕ) → Joined row x y → x ≡ y
    go zero zero e = refl
    go zero (suc zero) e = absurd (false≢true (sym dropped ∙ e.to_among))
    go zero (suc (suc zero)) e = absurd (apart e.touch)
    go zero (suc (suc (suc y))) e = absurd (omega (arith, e.to))
    go (suc zero) y e = absurd (false≢true (sym dropped ∙ e.from_among))
    go (suc (suc zero)) zero e = absurd (apart_back e.touch)
    go (suc (suc zero)) (suc zero) e = absurd (false≢true (sym dropped ∙ e.to_among))
    go (suc (suc zero)) (suc (suc zero)) e = refl
    go (suc (suc zero)) (suc (suc (suc y))) e = absurd (omega (arith, e.to))
    go (suc (suc (suc x))) y e = absurd (omega (arith, e.from))

-- by the lowest quad of a group
median_of : ℕ → Float
median_of g = cond (eqb g 0) (fraction 10 1) (fraction 100 1)

ten : Median (sides_to row own 0 3) (median_of 0)
unfolding of_bits round add sub mul lt sig_of exp_of units units_of greatest reaches root_pattern root_of or_zero length_of length_between length_of_side one less up_to sides_to own median_of
ten = record { at = 0; at_lt = lit< tt; is = refl; before = lit≤ tt; after = lit< tt }

hundred : Median (sides_to row own 2 3) (median_of 2)
unfolding of_bits round add sub mul lt sig_of exp_of units units_of greatest reaches root_pattern root_of or_zero length_of length_between length_of_side one less up_to sides_to own median_of
hundred = record { at = 0; at_lt = lit< tt; is = refl; before = lit≤ tt; after = lit< tt }

medians : (q : ℕ) → q < 3 → left row q ≡ true → Median (sides_to row own (own q) 3) (median_of (own q))
unfolding own
medians zero h l = ten
medians (suc zero) h l = absurd (false≢true (sym dropped ∙ l))
medians (suc (suc zero)) h l = hundred
medians (suc (suc (suc q))) h l = absurd (omega arith)

pub marks : Row
unfolding of_bits round add sub mul div lt eq le listing one equal sig_of exp_of units units_of greatest reaches root_pattern root_of or_zero length_of some length_between length_of_side incidence illegal crowded greater_of lesser_of raised side_ratio uneven skewed has_least has_greatest is_skipped off_side off_size mark_by own median_of
marks = sized refl own groups median_of medians
