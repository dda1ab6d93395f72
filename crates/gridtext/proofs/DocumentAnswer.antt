-- Document 01's text has document 01's answer, by the definitions: its lines are read as its frame, which the rows let through, and whose
-- one component is printed byte by byte; and lines of refusals, with a twin and without. A P line alone that
-- gives rule 3 is refused. Assumes nothing.
use mathlib.Core.Path.{◌≡◌, refl, subst}
use mathlib.Core.List.{List, [], ◌∷◌, ◌++◌, flat_map}
use Prim.Native.Nat.{ℕ}
use native.Mathlib.Omega.{arith}
use lib.Ieee.{of_bits, round, le, is_nan}
use Rattle.std.specs.Prelude.{Ok, Err}
use Rattle.refusal.specs.declared.Refusal.TheVariants.{NoSuchRule, OutOfRange, TwinNotBack, TwinElsewhere}
use Rattle.refusal.specs.First.{first_of}
use Rattle.refusal.specs.Rows.{refuse_first}
use Rattle.measure.specs.Float.{within}
use Rattle.mesh.specs.HalfEdge.{next_of}
use Rattle.mesh.specs.Positions.{misplaced, positions_row}
use Rattle.mesh.specs.Cells.{not_below, corners_row, some, names_twice, twice_row}
use Rattle.mesh.specs.Twins.{runs_back, twin_offends, twin_fault, twins_row}
use Rattle.cells.specs.Sums.{total}
use Rattle.cells.specs.Holes.{holes, places, width, height, held}
use Rattle.digits.specs.Digits.{places_in, decimal_of}
use Rattle.classify.specs.Call.{lengths_gate}
use Rattle.frame.specs.Call.{params_gate, values_gate, judge_of}
use Rattle.frame.specs.Examples.{program_frame, printed}
use Rattle.frame.proofs.Examples.{of_the_frame}
use Rattle.gridtext.specs.Lines.{Optional, spaced}
use Rattle.gridtext.specs.Lists.{twin_word, word_of, mark_of, rule_of, params_of, input_of}
use Rattle.gridtext.specs.Text.{Frame}
use Rattle.gridtext.specs.Answer.{numbers_line, refused_text, entry_line, entry_lines, component_lines, components_text}
use Rattle.gridtext.specs.Gridlabel.{Answers}
use Rattle.gridtext.proofs.Example.{p_line, last_fed, corner_at, first_triangle, second_triangle, params_with, frame_with, alone, document_text, rule_given}

abbrev frame : Frame
frame = frame_with (first_triangle ∷ second_triangle ∷ [])

lists_are : input_of frame ≡ program_frame
unfolding input_of params_of rule_of mark_of word_of twin_word frame_with params_with corner_at first_triangle second_triangle flat_map
lists_are = refl

let_through : judge_of program_frame ≡ Ok tt
unfolding of_bits round le is_nan first_of refuse_first within next_of misplaced positions_row not_below corners_row some names_twice twice_row runs_back twin_offends twin_fault twins_row lengths_gate params_gate values_gate judge_of
let_through = refl

-- "components 1", "component 0 4 0", "0 0 0", "0 1 3", "1 0 1", "1 1 2"
pub document_answer_text : List ℕ
document_answer_text =
    (99 ∷ 111 ∷ 109 ∷ 112 ∷ 111 ∷ 110 ∷ 101 ∷ 110 ∷ 116 ∷ 115 ∷ 32 ∷ 49 ∷ 10 ∷ []) ++ (99 ∷ 111 ∷ 109 ∷ 112 ∷ 111 ∷ 110 ∷ 101 ∷ 110 ∷ 116 ∷ 32 ∷ 48 ∷ 32 ∷ 52 ∷ 32 ∷ 48 ∷ 10 ∷ [])
    ++ (48 ∷ 32 ∷ 48 ∷ 32 ∷ 48 ∷ 10 ∷ []) ++ (48 ∷ 32 ∷ 49 ∷ 32 ∷ 51 ∷ 10 ∷ []) ++ (49 ∷ 32 ∷ 48 ∷ 32 ∷ 49 ∷ 10 ∷ []) ++ (49 ∷ 32 ∷ 49 ∷ 32 ∷ 50 ∷ 10 ∷ [])

text_is : components_text (printed ∷ []) ≡ document_answer_text
unfolding document_answer_text components_text component_lines entry_lines entry_line numbers_line spaced decimal_of places_in holes places total width height held
text_is = refl

pub document_answer : Answers (last_fed (10 ∷ [])) document_answer_text
document_answer = subst (Answers (last_fed (10 ∷ []))) text_is (Answers.labelled frame document_text (rw lists_are let_through) (printed ∷ []) (rw lists_are of_the_frame))

-- "refused 11 5 2"
pub not_back : refused_text (TwinNotBack 5 2) ≡ 114 ∷ 101 ∷ 102 ∷ 117 ∷ 115 ∷ 101 ∷ 100 ∷ 32 ∷ 49 ∷ 49 ∷ 32 ∷ 53 ∷ 32 ∷ 50 ∷ 10 ∷ []
unfolding refused_text numbers_line spaced decimal_of places_in
not_back = refl

-- "refused 12 0 0": a twin 0 is printed
pub own_twin : refused_text (TwinElsewhere 0 0) ≡ 114 ∷ 101 ∷ 102 ∷ 117 ∷ 115 ∷ 101 ∷ 100 ∷ 32 ∷ 49 ∷ 50 ∷ 32 ∷ 48 ∷ 32 ∷ 48 ∷ 10 ∷ []
unfolding refused_text numbers_line spaced decimal_of places_in
own_twin = refl

-- "refused 4 0": no twin
pub out_of_range : refused_text (OutOfRange 0) ≡ 114 ∷ 101 ∷ 102 ∷ 117 ∷ 115 ∷ 101 ∷ 100 ∷ 32 ∷ 52 ∷ 32 ∷ 48 ∷ 10 ∷ []
unfolding refused_text numbers_line spaced decimal_of places_in
out_of_range = refl

no_third : judge_of (input_of (alone (Optional.given 3))) ≡ Err NoSuchRule
unfolding of_bits is_nan lengths_gate params_gate values_gate judge_of input_of params_of rule_of params_with flat_map
no_third = refl

-- "refused 18 0"
pub refused_eighteen : refused_text NoSuchRule ≡ 114 ∷ 101 ∷ 102 ∷ 117 ∷ 115 ∷ 101 ∷ 100 ∷ 32 ∷ 49 ∷ 56 ∷ 32 ∷ 48 ∷ 10 ∷ []
unfolding refused_text numbers_line spaced decimal_of places_in
refused_eighteen = refl

-- "P .. 1 4 3" is answered by it
pub third_rule : Answers (p_line ++ (32 ∷ 51 ∷ 10 ∷ [])) (refused_text NoSuchRule)
unfolding decimal_of places_in
third_rule = Answers.refused (alone (Optional.given 3)) (rule_given 3 (omega arith)) NoSuchRule no_third
