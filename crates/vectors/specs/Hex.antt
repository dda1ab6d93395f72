-- Words read from a text that has them as `hex_of` writes them, eight upper-case hex digits; and the line that tells a refusal.
use Rattle.std.specs.Prelude.{cond, List, [], ◌∷◌, ◌++◌, ℕ, ◌+◌, ◌*◌, ◌-◌, leb, ltb, length, get_or}
use Rattle.refusal.specs.declared.Refusal.{Refusal}
use Rattle.refusal.specs.Table.{number_of, place_of, beside_of, has_beside}
use Rattle.digits.specs.Digits.{hex_of}

-- the value of a digit; any other byte counts as 0
unfoldable pub value_of : ℕ → ℕ
value_of byte =
    cond (ltb byte 48) 0 (cond (ltb byte 58) (byte - 48) (cond (ltb byte 65) 0 (cond (ltb byte 71) (byte - 55) 0)))

-- the number that four digits spell, the first of them at `at`
abbrev pub four_at : List ℕ → ℕ → ℕ
four_at text at =
    ((value_of (get_or text at 0) * 16 + value_of (get_or text (at + 1) 0)) * 16 + value_of (get_or text (at + 2) 0)) * 16
    + value_of (get_or text (at + 3) 0)

-- the word whose digits begin at `at`; 0 where the text ends before its last
unfoldable pub word_at : List ℕ → ℕ → ℕ
word_at text at = cond (leb (at + 8) (length text)) (four_at text at * 65536 + four_at text (at + 4)) 0

-- "refused", the row and the place
unfoldable pub refusal_front : Refusal → List ℕ
refusal_front why =
    114 ∷ 101 ∷ 102 ∷ 117 ∷ 115 ∷ 101 ∷ 100 ∷ 32 ∷ (hex_of (number_of why) ++ (32 ∷ hex_of (place_of why)))

-- a blank and a word
abbrev pub field_of : ℕ → List ℕ
field_of word = 32 ∷ hex_of word

-- what stands beside the place, where the row has that
abbrev pub beside_field : Refusal → List ℕ
beside_field why = cond (has_beside (number_of why)) (field_of (beside_of why)) []

unfoldable pub refusal_line : Refusal → List ℕ
refusal_line why = refusal_front why ++ (beside_field why ++ (10 ∷ []))
