-- What the program writes, where it is known what its writer holds, `old` before and `new` after.
use Rattle.std.specs.Prelude.{List, ℕ, Option, Result, Ok, Err, IfSome}
use Rattle.std.specs.Io.KnownBytes.{Appends}
use Rattle.gridtext.specs.Gridlabel.{Answers}
use Rattle.gridlabel.specs.Input.{AnswersInput}

-- of a text that was read, the answer to the input; where reading failed nothing is printed
abbrev pub Prints : {E : Type 0} → Result ℕ E → (list : List ℕ) → (old new : Option (List ℕ)) → Type 0
Prints (Ok n) list old new = (answer : List ℕ) × AnswersInput list n answer × Appends old new answer
Prints (Err why) list old new = ⊥

-- the answer to all of the input, where that is known
abbrev pub AnswersAll : (input old new : Option (List ℕ)) → Type 0
AnswersAll input old new = IfSome input (λ text. (answer : List ℕ) × Answers text answer × Appends old new answer)
