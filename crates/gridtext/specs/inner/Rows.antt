-- A line as a row: its sort, and its fields one by one, each of a kind that says how it is printed, whether a minus may stand for it, and what
-- words it gives.
use Rattle.std.specs.Prelude.{Bool, true, false, ◌≡◌, List, [], ◌∷◌, ◌++◌, ℕ, zero, suc, ◌+◌, ◌≤◌, Option, Some, None, length, drop}
use Rattle.digits.specs.Digits.{hex_of, decimal_of}
use Rattle.digits.specs.declared.Taken.{Taken}
use Rattle.gridtext.specs.declared.inner.row.Few.{Few}
use Rattle.gridtext.specs.declared.inner.row.Kind.{Kind}
use Rattle.gridtext.specs.declared.inner.row.Sort.{Sort}
use Rattle.gridtext.specs.Lines.{Field, field_of, IsWord}
use Rattle.gridtext.specs.Lists.{twin_word, word_of}

-- ---- sorts of line

abbrev pub letter_of : Sort → ℕ
letter_of Sort.Params = 80
letter_of Sort.Ruled = 80
letter_of Sort.Corner = 67
letter_of Sort.Triangle = 84

-- those of a P line up to the least quads, and then the rest
abbrev pub param_kinds : List Kind → List Kind
param_kinds rest = Kind.Hex ∷ Kind.Hex ∷ Kind.Hex ∷ Kind.Hex ∷ Kind.Hex ∷ Kind.Decimal ∷ rest

abbrev pub kinds_of : Sort → List Kind
kinds_of Sort.Params = param_kinds (Kind.Decimal ∷ [])
kinds_of Sort.Ruled = param_kinds (Kind.Decimal ∷ Kind.Decimal ∷ [])
kinds_of Sort.Corner = Kind.Hex ∷ Kind.Hex ∷ Kind.Hex ∷ Kind.Spread ∷ Kind.Hex ∷ Kind.Spread ∷ []
kinds_of Sort.Triangle = Kind.Decimal ∷ Kind.Decimal ∷ Kind.Decimal ∷ Kind.Twin ∷ Kind.Twin ∷ Kind.Twin ∷ []

-- how many words a line gives: those of a C line are x, y, and twice angle, mark, spread, those of a T line three corners and three twins
abbrev pub corner_size : ℕ
corner_size = 8

abbrev pub triangle_size : ℕ
triangle_size = 6

abbrev pub size_of : Sort → ℕ
size_of Sort.Params = 7
size_of Sort.Ruled = 8
size_of Sort.Corner = corner_size
size_of Sort.Triangle = triangle_size

-- no line gives more than a C line
abbrev pub most_words : ℕ
most_words = corner_size

-- the byte after a field: a blank where others follow, and else a line feed
abbrev pub end_after : (others : ℕ) → ℕ
end_after zero = 10
end_after (suc others) = 32

-- ---- kinds of field

unfoldable pub form_of : Kind → Field → List ℕ
form_of Kind.Hex f = field_of hex_of f
form_of Kind.Decimal f = field_of decimal_of f
form_of Kind.Spread f = field_of hex_of f
form_of Kind.Twin f = field_of decimal_of f

pub data Allowed : Kind → Field → Type 0 where
  word : {k : Kind} {v : ℕ} → IsWord v → Allowed k (Field.word v)
  spread : Allowed Kind.Spread Field.minus
  twin : Allowed Kind.Twin Field.minus

-- a spread has a mark before it, 0 where it is missing
unfoldable pub spread_words : Field → List ℕ
spread_words Field.minus = 0 ∷ 0 ∷ []
spread_words (Field.word v) = 1 ∷ v ∷ []

unfoldable pub words_of : Kind → Field → List ℕ
words_of Kind.Hex f = word_of f ∷ []
words_of Kind.Decimal f = word_of f ∷ []
words_of Kind.Spread f = spread_words f
words_of Kind.Twin f = twin_word f ∷ []

-- ---- a field in a text

abbrev pub list_of : Few → List ℕ
list_of (Few.One w) = w ∷ []
list_of (Few.Two m w) = m ∷ w ∷ []

-- the field that a word taken from a text is
abbrev pub found_of : (ℕ → Few) → Option (Taken ℕ) → Option (Few × ℕ)
found_of few None = None
found_of few (Some taken) = Some (few taken.value, taken.next)

-- two bytes stand at `at`, or they do not
pub data PairAt (text : List ℕ) (at a b : ℕ) : Bool → Type 0 where
  there : drop at text ≡ a ∷ b ∷ drop (at + 2) text → at + 2 ≤ length text → PairAt text at a b true
  elsewhere : ((rest : List ℕ) → drop at text ≡ a ∷ b ∷ rest → ⊥) → PairAt text at a b false

-- from `at` on stands a field of the kind, then the byte `end`, or no such field
pub record FieldStands (k : Kind) (text : List ℕ) (at end : ℕ) (f : Field) (next : ℕ) : Type 0 where
  pub allowed : Allowed k f
  pub is : drop at text ≡ form_of k f ++ (end ∷ drop next text)
  pub within : next ≤ length text

pub data FieldAt (k : Kind) (text : List ℕ) (at end : ℕ) : Option (Few × ℕ) → Type 0 where
  nothing : ((f : Field) (rest : List ℕ) → Allowed k f → drop at text ≡ form_of k f ++ (end ∷ rest) → ⊥) → FieldAt k text at end None
  words : {f : Field} {few : Few} {next : ℕ} → FieldStands k text at end f next → words_of k f ≡ list_of few → FieldAt k text at end (Some (few, next))
