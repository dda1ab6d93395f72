-- A list of a case: its length, how many words are given, a fill, then the words given; each word takes nine bytes. A list that is
-- longer than its array is cut, and the fill stands for words that the text ends before.
use Rattle.std.specs.Prelude.{cond, List, ◌≡◌, ℕ, ◌+◌, ◌*◌, ◌-◌, ◌/◌, ◌%◌, ◌≤◌, ◌<◌, ltb, length, get_or, min, take, drop, Option, Some, None}
use Rattle.std.specs.Borrow.{Bor}
use Rattle.std.proofs.Common.{sym, length-take-le}
use Rattle.vectors.specs.Hex.{word_at}

-- where the text goes on after so many words from `at`, and no further than its end
unfoldable pub after_of : List ℕ → ℕ → ℕ → ℕ
after_of text at count = cond (ltb ((length text - at) / 9) count) (length text) (at + 9 * count)

-- how long the list at `at` is in an array of `room`, how many of its words are given, and where the text goes on
unfoldable pub length_at : List ℕ → ℕ → ℕ → ℕ
length_at text at room = min (word_at text at) room

unfoldable pub given_at : List ℕ → ℕ → ℕ → ℕ
given_at text at room = min (min (word_at text (at + 9)) (length_at text at room)) ((length text - after_of text at 3) / 9)

abbrev pub next_at : List ℕ → ℕ → ℕ → ℕ
next_at text at room = after_of text at 3 + 9 * given_at text at room

-- element i of a list of which some words are given from `start` on
unfoldable pub element_of : List ℕ → (start given fill : ℕ) → ℕ → ℕ
element_of text start given fill i = cond (ltb i given) (word_at text (start + 9 * i)) fill

-- of the list at `at`
abbrev pub element_at : List ℕ → ℕ → ℕ → ℕ → ℕ
element_at text at room i = element_of text (after_of text at 3) (given_at text at room) (word_at text (at + 18)) i

-- element k where the first `given` words of a list are said over and over; where none is given each stays
abbrev pub over_at : List ℕ → ℕ → ℕ → ℕ
over_at list given k = get_or list (k % given) 0

-- the first n elements are f's, and all others are as they were
pub record Laid {A : Type 0} (blank : A) (before after : List A) (n : ℕ) (f : ℕ → A) : Type 0 where
  pub len : length after ≡ length before
  pub laid : (k : ℕ) → k < n → get_or after k blank ≡ f k
  pub rest : (k : ℕ) → n ≤ k → get_or after k blank ≡ get_or before k blank

-- n elements stand at the front of xs, as `&xs[..n]` asks
abbrev pub Front : {A : Type 0} → ℕ → List A → Type 0
Front n xs = (n ≤ length xs) × (n ≡ length (take n xs))

pub front : {A : Type 0} (n : ℕ) (xs : List A) → n ≤ length xs → Front n xs
front n xs h = (h, sym (length-take-le n xs h))

-- the kind of a case: the word at a place, where nine bytes are left, and the place goes on behind them
abbrev pub KindAt : List ℕ → (old new : ℕ) → Option ℕ → Type 0
KindAt text old new (Some kind) = (9 ≤ length text - old) × (kind ≡ word_at text old) × (new ≡ old + 9)
KindAt text old new None = (length text - old < 9) × (new ≡ old)

-- so many bytes at a place, where they and one more are left, and the place goes on behind that
abbrev pub BytesAt : List ℕ → (old size new : ℕ) → Option (Bor (List ℕ)) → Type 0
BytesAt text old size new (Some bytes) = (size < length text - old) × (bytes.now ≡ take size (drop old text)) × (new ≡ old + size + 1)
BytesAt text old size new None = (length text - old ≤ size) × (new ≡ old)
