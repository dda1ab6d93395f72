-- The rows of `label_components` let the quads through that the filters keep of a frame's: none of them is shut. Assumes nothing.
use mathlib.Core.Path.{◌≡◌, refl, sym}
use mathlib.Core.Bool.{Bool}
use mathlib.Core.List.{List}
use Prim.Native.Nat.{ℕ, ◌/◌, ◌%◌, ◌≤◌, ◌<◌}
use borrow.Author.Tests.{eq-eqb, le-ltb, lt-leb}
use native.Mathlib.Omega.{arith}
use lib.ListN.{length, get_or}
use Rattle.std.specs.Prelude.{Ok}
use Rattle.refusal.specs.declared.Refusal.{Refusal}
use Rattle.refusal.specs.Rows.{Gate, refuse_first, ◌then◌}
use Rattle.refusal.proofs.First.{Clear, first_none}
use Rattle.refusal.proofs.Rows.{open_at}
use Rattle.mesh.specs.Lists.{whole_row, limit_row, most_corners, most_quads, work_row, quad_words}
use Rattle.mesh.specs.Cells.{not_below, corners_row, names_twice, twice_row}
use Rattle.quads.specs.declared.Quad.{Quad}
use Rattle.quads.specs.Call.{words_of}
use Rattle.quads.proofs.Made.{length_words}
use Rattle.filter.specs.Marks.{kept_of}
use Rattle.filter.proofs.Picked.{kept_different}
use Rattle.walk.specs.Call as labels
use Rattle.walk.specs.Call.{gate_of}
use Rattle.walk.specs.Input.{quad_count}
use Rattle.frame.specs.Stages.{Input, merging, filtering, labelling}
use Rattle.frame.specs.Call.{entry_gate}
use Rattle.frame.proofs.Written.{words_exist, words_clear}
use Rattle.frame.proofs.Sound.{entry_open, classing_sound, merging_sound}
use Rattle.frame.proofs.Labelling.{kept_few, kept_room}

both_open : (g h : Gate) → g ≡ Ok tt → h ≡ Ok tt → (g then h) ≡ Ok tt
both_open g h e f = rw (e, f)

-- ---- rows by what they look at

whole_through : (n size : ℕ) → n % size ≡ 0 → whole_row n size ≡ Ok tt
whole_through n size e = rw (eq-eqb (n % size) 0 e)

limit_through : (count most : ℕ) → count ≤ most → limit_row count most ≡ Ok tt
limit_through count most h = rw (le-ltb most count h)

work_through : (words wanted : ℕ) → wanted ≤ words → work_row words wanted ≡ Ok tt
work_through words wanted h = rw (le-ltb words wanted h)

clear_through : (offends : ℕ → Bool) (n : ℕ) (why : ℕ → Refusal) → Clear offends n → refuse_first offends n why ≡ Ok tt
clear_through offends n why clear = sym (open_at offends n n why (first_none offends n n clear (omega arith) (omega arith)) (omega arith))

corners_through : (n : ℕ) (cells : List ℕ) → ((k : ℕ) → k < length cells → get_or cells k 0 < n) → corners_row n cells ≡ Ok tt
unfolding corners_row not_below
corners_through n cells below = clear_through _ (length cells) _ (λ k h. lt-leb n (get_or cells k 0) (below k h))

twice_through : (size : ℕ) (cells : List ℕ) → Clear (names_twice size cells) (length cells / size) → twice_row size cells ≡ Ok tt
unfolding twice_row
twice_through size cells clear = clear_through _ (length cells / size) _ clear

-- ---- the rows of the call

pub kept_through : (i : Input) (words : ℕ) → entry_gate i words ≡ Ok tt → (marks : List ℕ) → labels.entry_gate (labelling i (kept_of (filtering i) marks)) words ≡ Ok tt
unfolding labels.entry_gate gate_of
kept_through i words through marks =
    let rows = entry_open i words through in
    let kept : List Quad = kept_of (filtering i) marks in
    let corners = length i.xs in
    let each = kept_different (merging i) (merging_sound i rows.0) (filtering i) marks refl in
    let many = length_words kept in
    both_open _ _
    (both_open _ _ (whole_through (length (words_of kept)) 4 (omega (arith, many)))
    (both_open _ _ (limit_through corners most_corners (classing_sound i rows.0).corners)
    (both_open _ _ (limit_through (quad_count (labelling i kept)) most_quads (omega (arith, many, kept_few i rows.0 marks)))
    (both_open _ _ (corners_through corners (words_of kept) (words_exist corners kept each))
    (twice_through 4 (words_of kept) (λ q h. words_clear corners kept each q (omega (arith, many))))))))
    (work_through words (quad_words (quad_count (labelling i kept)) corners) (omega (arith, many, rows.1, kept_room i rows.0 marks)))
