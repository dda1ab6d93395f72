-- What a printer leaves in a lent list of bytes: its text from a place on, right after what stood before that place; the rest stays.
use Rattle.std.specs.Prelude.{◌≡◌, List, [], ◌∷◌, ◌++◌, ℕ, ◌+◌, ◌≤◌, length, take, drop}
use Rattle.gridtext.specs.Lines.{spaced}

-- the list `before` has become `after`: the text stands from `at` on and ends at `end`
pub record Printed (before after : List ℕ) (at : ℕ) (text : List ℕ) (end : ℕ) : Type 0 where
  pub len : length after ≡ length before
  pub ends : end ≡ at + length text
  pub within : end ≤ length after
  pub is : take end after ≡ take at before ++ text
  pub rest : drop end after ≡ drop end before

-- the text has room from `at` on
abbrev pub Room : List ℕ → ℕ → List ℕ → Type 0
Room out at text = at + length text ≤ length out

-- the fields that end a line, and its line feed
abbrev pub last_fields : List (List ℕ) → List ℕ
last_fields fields = spaced fields ++ (10 ∷ [])
