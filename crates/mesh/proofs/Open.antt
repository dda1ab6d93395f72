-- What a row that is open says: equal lengths, counts within limits, words enough, positions, corners that exist and differ, twins that point
-- back. Assumes nothing.
use mathlib.Core.Path.{◌≡◌, refl, sym}
use mathlib.Core.Bool.{Bool, true, false, not, ◌&&◌, ◌||◌, false≢true}
use mathlib.Core.List.{List}
use Prim.Native.Nat.{ℕ, ◌/◌, ◌≤◌, ◌<◌}
use borrow.Author.Tests.{eqb-true, ne_eqb, ltb-false, leb-false, not-false}
use lib.Dec.{eqb, ltb}
use lib.Ieee.{Float, nan}
use lib.ListN.{length, get_or}
use Rattle.std.specs.Prelude.{Ok}
use Rattle.refusal.specs.declared.Refusal.TheVariants.{Unpaired, OverLimit, WorkspaceShort, OutOfRange, NoSuchCorner, CornerTwice}
use Rattle.refusal.proofs.Rows.{open_if, open_clear}
use Rattle.measure.specs.Position.{is_position}
use Rattle.mesh.specs.Lists.{paired_row, limit_row, work_row}
use Rattle.mesh.specs.Positions.{misplaced, positions_row}
use Rattle.mesh.specs.Cells.{not_below, corners_row, names_twice, twice_row}
use Rattle.mesh.specs.HalfEdge.{no_twin}
use Rattle.mesh.specs.Twins.{past_end, points_back, runs_back, twin_offends, twin_fault, twins_row}

pub paired_open : (a b : ℕ) → paired_row a b ≡ Ok tt → a ≡ b
paired_open a b e = eqb-true a b (not-false (eqb a b) (open_if (not (eqb a b)) Unpaired e))

pub limit_open : (count most : ℕ) → limit_row count most ≡ Ok tt → count ≤ most
limit_open count most e = ltb-false most count (open_if (ltb most count) OverLimit e)

pub work_open : (words wanted : ℕ) → work_row words wanted ≡ Ok tt → wanted ≤ words
work_open words wanted e = ltb-false words wanted (open_if (ltb words wanted) (WorkspaceShort wanted) e)

both_true : (a b : Bool) → not (a && b) ≡ false → (a ≡ true) × (b ≡ true)
both_true true true e = (refl, refl)
both_true true false e = absurd (false≢true (sym e))
both_true false b e = absurd (false≢true (sym e))

pub positions_open : (xs ys : List Float) → positions_row xs ys ≡ Ok tt → (k : ℕ) → k < length xs → (is_position (get_or xs k nan) ≡ true) × (is_position (get_or ys k nan) ≡ true)
unfolding positions_row misplaced
positions_open xs ys e k h = both_true _ _ (open_clear (misplaced xs ys) (length xs) OutOfRange e k h)

pub corners_open : (n : ℕ) (cells : List ℕ) → corners_row n cells ≡ Ok tt → (k : ℕ) → k < length cells → get_or cells k 0 < n
unfolding corners_row not_below
corners_open n cells e k h = leb-false n (get_or cells k 0) (open_clear (not_below n cells) (length cells) NoSuchCorner e k h)

pub twice_open : (size : ℕ) (cells : List ℕ) → twice_row size cells ≡ Ok tt → (r : ℕ) → r < length cells / size → names_twice size cells r ≡ false
unfolding twice_row
twice_open size cells e r h = open_clear (names_twice size cells) (length cells / size) CornerTwice e r h

pub twins_open : (triangles twins : List ℕ) → twins_row triangles twins ≡ Ok tt → (e : ℕ) → e < length twins → twin_offends triangles twins e ≡ false
unfolding twins_row
twins_open triangles twins o e h = open_clear (twin_offends triangles twins) (length twins) (twin_fault twins) o e h

-- ---- a twin that does not offend: it is in the list, points back, and runs between the same corners the other way

neither : (a b c : Bool) → (a || (not b || not c)) ≡ false → (a ≡ false) × (b ≡ true) × (c ≡ true)
neither true b c e = absurd (false≢true (sym e))
neither false true true e = (refl, refl, refl)
neither false true false e = absurd (false≢true (sym e))
neither false false c e = absurd (false≢true (sym e))

pub twin_sound : (triangles twins : List ℕ) (e : ℕ) → twin_offends triangles twins e ≡ false → (get_or twins e 0 ≡ no_twin → ⊥)
    → (get_or twins e 0 < length twins) × (get_or twins (get_or twins e 0) 0 ≡ e) × (runs_back triangles e (get_or twins e 0) ≡ true)
unfolding twin_offends
twin_sound triangles twins e o some =
    let w = get_or twins e 0 in
    let r = neither (past_end twins w) (points_back twins e w) (runs_back triangles e w) (rw (ne_eqb w no_twin some) at o) in
    (leb-false (length twins) w r.0, eqb-true (get_or twins w 0) e r.1, r.2)
