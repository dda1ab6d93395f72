-- An answer to what was read is the input's (`input_answered`), and no answer is empty (`answer_some`). Assumes nothing.
use mathlib.Core.Path.{◌≡◌}
use mathlib.Core.List.{List, [], ◌∷◌, ◌++◌}
use Prim.Native.Nat.{ℕ, ◌≤◌, ◌<◌}
use native.Mathlib.Decide.{dec_le}
use native.Mathlib.Omega.{arith}
use lib.ListN.{length, take, length-append}
use lib.Seq.{take_all}
use Rattle.gridtext.specs.Lines.{spaced}
use Rattle.gridtext.specs.Answer.{numbers_line, bad_text, refused_text, components_text}
use Rattle.gridtext.specs.Gridlabel.{Answers, most_text}
use Rattle.gridtext.proofs.FirstBytes.{first_bytes_decide}
use Rattle.gridlabel.specs.Input.{AnswersInput}

line_some : (word : List ℕ) (fields : List (List ℕ)) → 0 < length word → 0 < length (numbers_line word fields)
unfolding numbers_line
line_some word fields h = omega (arith, length-append word (spaced fields ++ (10 ∷ [])))

lines_some : (word : List ℕ) (fields : List (List ℕ)) (more : List ℕ) → 0 < length word → 0 < length (numbers_line word fields ++ more)
lines_some word fields more h = omega (arith, line_some word fields h, length-append (numbers_line word fields) more)

pub answer_some : {text answer : List ℕ} → Answers text answer → 0 < length answer
unfolding bad_text refused_text components_text
answer_some (Answers.bad k b) = line_some _ _ (omega arith)
answer_some (Answers.refused f r why e) = line_some _ _ (omega arith)
answer_some (Answers.labelled f r e out a) = lines_some _ _ _ (omega arith)

module _ (input answer : List ℕ) (a : Answers (take most_text input) answer) where
  as_far : Dec (length input ≤ most_text) → Answers input answer
  as_far (yes h) = rw (take_all most_text input) at a
  as_far (no h) = first_bytes_decide input (omega arith) answer a

pub input_answered : (list : List ℕ) (n : ℕ) (answer : List ℕ) → most_text ≡ length list → Answers (take n list) answer → AnswersInput list n answer
input_answered list n answer long a input e = as_far input answer (rw (e, ← long) at a) (dec_le (length input) most_text)
