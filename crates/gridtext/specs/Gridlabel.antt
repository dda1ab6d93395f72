-- The program `gridlabel` whole: what it prints for a text. A first bad line, a refusal of the frame read, or its components.
use Rattle.std.specs.Prelude.{◌≡◌, List, ℕ, ◌≤◌, ◌<◌, length, take, drop}
use Rattle.std.specs.Prelude.{Ok, Err}
use Rattle.refusal.specs.declared.Refusal.{Refusal}
use Rattle.cells.specs.Listed.{Entry}
use Rattle.frame.specs.Stages as frame
use Rattle.frame.specs.Call.{judge_of}
use Rattle.gridtext.specs.Text.{Frame, Reads, Bad}
use Rattle.gridtext.specs.Lists.{input_of}
use Rattle.gridtext.specs.Answer.{bad_text, refused_text, components_text}

-- rows 1 to 7, with 18, decide: the lists of a text and the program's own are never the cause of a refusal (proofs/NeverShort)
pub data Answers (text : List ℕ) : List ℕ → Type 0 where
  bad : (k : ℕ) → Bad text k → Answers text (bad_text k)
  refused : (f : Frame) → Reads text f → (why : Refusal) → judge_of (input_of f) ≡ Err why → Answers text (refused_text why)
  labelled : (f : Frame) → Reads text f → judge_of (input_of f) ≡ Ok tt → (out : List (List Entry)) → frame.Answer (input_of f) out → Answers text (components_text out)

-- room for every answer, in bytes
abbrev pub most_text : ℕ
most_text = 65536

-- in a list with that room the first `end` bytes are the answer, and in a shorter one `end` is 0, which is no answer's length; the rest is
-- as it was before; `whole` is what a part of so many bytes asks
pub record Answered (text before after : List ℕ) (end : ℕ) : Type 0 where
  pub answers : most_text ≤ length before → Answers text (take end after)
  pub short : length before < most_text → end ≡ 0
  pub within : end ≤ length after
  pub whole : end ≡ length (take end after)
  pub rest : drop end after ≡ drop end before
