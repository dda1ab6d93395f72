-- Words as text: eight upper-case hex digits, the highest first; and decimal digits, as few as hold the number, so none of them is a
-- leading zero.
use Rattle.std.specs.Prelude.{cond, List, [], ◌∷◌, ℕ, zero, suc, ◌+◌, ◌/◌, ◌%◌, ltb}
use Rattle.io.specs.Digits.{last_digits}

-- the digit of a value below 16
abbrev pub digit_of : ℕ → ℕ
digit_of value = cond (ltb value 10) (value + 48) (value + 55)

abbrev pub hex_of : ℕ → List ℕ
hex_of word =
    digit_of (word / 0x10000000 % 16) ∷ digit_of (word / 0x1000000 % 16) ∷ digit_of (word / 0x100000 % 16)
    ∷ digit_of (word / 0x10000 % 16) ∷ digit_of (word / 0x1000 % 16) ∷ digit_of (word / 0x100 % 16)
    ∷ digit_of (word / 0x10 % 16) ∷ digit_of (word % 16) ∷ []

-- how many decimal digits n takes; `turns` bounds the divisions, and n of them are enough
unfoldable pub places_in : (turns : ℕ) → ℕ → ℕ
places_in zero n = 1
places_in (suc turns) n = cond (ltb n 10) 1 (suc (places_in turns (n / 10)))

unfoldable pub decimal_of : ℕ → List ℕ
decimal_of n = last_digits 10 (places_in n n) n
