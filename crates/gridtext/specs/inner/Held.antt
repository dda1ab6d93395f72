-- Which answer two lists of words hold: the words of its components and of its entries stand at their fronts. And how long an answer's text
-- can be.
use Rattle.std.specs.Prelude.{◌≡◌, List, ◌++◌, ℕ, ◌+◌, ◌*◌, ◌≤◌, ◌<◌, length}
use Rattle.cells.specs.Listed.{Entry}
use Rattle.cells.specs.Holes.{holes}
use Rattle.walk.specs.Call.{component_words, entry_words, all_entries}
use Rattle.walk.specs.Read.{before_of, count_of, holes_of, component_at}
use Rattle.gridtext.specs.Answer.{components_text}
use Rattle.gridtext.specs.inner.Printed.{Printed}

pub record Holds (components entries : List ℕ) (count : ℕ) (answer : List (List Entry)) : Type 0 where
  pub past : List ℕ
  pub rest : List ℕ
  pub components_are : components ≡ component_words 0 answer ++ past
  pub entries_are : entries ≡ entry_words (all_entries answer) ++ rest
  pub count_is : count ≡ length answer

-- a number takes at most ten digits, and eleven bytes with what stands before or after it: "bad", its number and the line feed; "refused",
-- three numbers and the line feed
abbrev pub bad_bytes : ℕ
bad_bytes = 15

abbrev pub refused_bytes : ℕ
refused_bytes = 41

-- "components", its number and the line feed; "component", three numbers and the line feed; three numbers to an entry
unfoldable pub most_bytes : (components entries : ℕ) → ℕ
most_bytes components entries = 22 + 43 * components + 33 * entries

-- they hold an answer, and the longest text of so many components and entries has room
pub record Printable (components entries : List ℕ) (count room : ℕ) : Type 0 where
  pub answer : List (List Entry)
  pub holds : Holds components entries count answer
  pub fits : most_bytes count (length (all_entries answer)) ≤ room

-- the answer that they hold is printed at the front of the list
abbrev pub PrintsHeld : (components entries : List ℕ) (count : ℕ) (before after : List ℕ) (end : ℕ) → Type 0
PrintsHeld components entries count before after end = (answer : List (List Entry)) → Holds components entries count answer → Printed before after 0 (components_text answer) end

-- the words of component j and of its entries are there, and its holes are those of its entries
pub record Readable (components entries : List ℕ) (j : ℕ) : Type 0 where
  pub here : 3 * j + 2 < length components
  pub all : 3 * (before_of components j + count_of components j) ≤ length entries
  pub holes_are : holes_of components j ≡ holes (component_at components entries j)
