-- What a reader finds in a text from a place on: the printed form of a value and one byte after it, or that there is none.
use Rattle.std.specs.Prelude.{◌≡◌, List, ◌∷◌, ◌++◌, ℕ, ◌+◌, ◌<◌, length, drop, Option, Some, None}
use Rattle.digits.specs.declared.End.{End}
use Rattle.digits.specs.declared.End.TheVariants.{Blank, Feed}
use Rattle.digits.specs.declared.Taken.{Taken}

-- the byte that ends a form: a blank or a line feed
abbrev pub end_byte : End → ℕ
end_byte Blank = 32
end_byte Feed = 10

-- how many values there are: those of 32 bits
abbrev pub words : ℕ
words = 4294967296

-- from `at` on stands the form of v, then the byte `end`, and the text goes on at `next`
pub record Stands (form : ℕ → List ℕ) (text : List ℕ) (at end v next : ℕ) : Type 0 where
  pub word : v < words
  pub is : drop at text ≡ form v ++ (end ∷ drop next text)
  pub on : next ≡ at + length (form v) + 1

-- no value's form stands there
abbrev pub Nowhere : (ℕ → List ℕ) → List ℕ → ℕ → ℕ → Type 0
Nowhere form text at end = (v : ℕ) (rest : List ℕ) → v < words → drop at text ≡ form v ++ (end ∷ rest) → ⊥

pub data Takes (form : ℕ → List ℕ) (text : List ℕ) (at end : ℕ) : Option (Taken ℕ) → Type 0 where
  nothing : Nowhere form text at end → Takes form text at end None
  word : {v next : ℕ} → Stands form text at end v next → Takes form text at end (Some (record { value = v; next = next }))
