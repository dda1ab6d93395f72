-- What the program has to print, given what it has read.
use Rattle.std.specs.Prelude.{◌≡◌, List, ℕ, length, take}
use Rattle.gridtext.specs.Gridlabel.{Answers}

-- the answer to every input that begins with n bytes of the list and ends there, or goes on past the list's length
abbrev pub AnswersInput : List ℕ → ℕ → List ℕ → Type 0
AnswersInput list n answer = (input : List ℕ) → take n list ≡ take (length list) input → Answers input answer
