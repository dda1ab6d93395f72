-- Digits in a base of at most sixteen, and the run of them that a text has from a place on: as long as digits follow, but no longer than asked.
use Rattle.std.specs.Prelude.{◌≡◌, List, [], ◌∷◌, ◌++◌, ℕ, zero, suc, ◌+◌, ◌/◌, ◌%◌, ◌^◌, ◌<◌, ◌≤◌, length, get_or, drop, Option, Some, None}
use Rattle.digits.specs.Digits.{digit_of}

-- the last `places` digits of n, the highest first
unfoldable pub numeral : (base places : ℕ) → ℕ → List ℕ
numeral base zero n = []
numeral base (suc places) n = numeral base places (n / base) ++ (digit_of (n % base) ∷ [])

abbrev pub NoDigit : ℕ → ℕ → Type 0
NoDigit base byte = (v : ℕ) → v < base → byte ≡ digit_of v → ⊥

-- v is the value of a byte that is a digit, and any other byte has none
abbrev pub Value : ℕ → Option ℕ → Type 0
Value byte (Some v) = (v < 16) × (byte ≡ digit_of v)
Value byte None = NoDigit 16 byte

-- d is the digit in a base that stands at a place, where one does
abbrev pub DigitAt : List ℕ → (at base : ℕ) → Option ℕ → Type 0
DigitAt text at base (Some d) = (at < length text) × (d < base) × (get_or text at 0 ≡ digit_of d)
DigitAt text at base None = at < length text → NoDigit base (get_or text at 0)

-- from `at` on stand `count` digits that spell `value`; no digit follows them, unless there are as many as asked
pub record Run (text : List ℕ) (at base most value count : ℕ) : Type 0 where
  pub is : drop at text ≡ numeral base count value ++ drop (at + count) text
  pub below : value < base ^ count
  pub few : count ≤ most
  pub ends : count < most → at + count < length text → NoDigit base (get_or text (at + count) 0)
