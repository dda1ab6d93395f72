-- The workspace of a walk, and what is asked of it and of the quads. Marks of quads, the queue, and the first and the second words of the
-- corners' labels stand at its front, `span` words each. Then come the table of the sides, two words for each (key, number), and for each
-- side the place where its run of equal keys begins. Further on each run has a flag, which tells in which senses it was scanned.
use Rattle.std.specs.Prelude.{◌≡◌, cond, List, ℕ, ◌+◌, ◌*◌, ◌/◌, ◌%◌, ◌≤◌, ◌<◌, ltb, ℤ, pos, ◌-ℤ◌, length, get_or}
use Rattle.cells.specs.Cells.{cell}
use Rattle.cells.specs.Kind.{Pair, Reached}
use Rattle.cells.specs.Quads.{quads}
use Rattle.cells.specs.inner.Sides.{side_key}
use Rattle.mesh.specs.Lists.{most_corners}

-- ---- labels as words

-- the word of 0: far enough from the word 0, which is that of no label
abbrev pub centre : ℕ
centre = 16384

abbrev pub label : ℕ → ℤ
label word = pos word -ℤ pos centre

-- z is the label of a word
pub record Word (z : ℤ) (word : ℕ) : Type 0 where
  pub is : z ≡ label word
  pub small : word < 2 * centre

pub record InRange (z : ℤ) : Type 0 where
  pub word : ℕ
  pub of : Word z word

-- a word is at most t from that of 0
pub record Near (t word : ℕ) : Type 0 where
  pub low : centre ≤ word + t
  pub high : word ≤ centre + t

-- ---- the regions

abbrev pub mark : List ℕ → ℕ → ℕ
mark w q = get_or w q 0

abbrev pub queued : ℕ → List ℕ → ℕ → ℕ
queued span w i = get_or w (span + i) 0

abbrev pub first_word : ℕ → List ℕ → ℕ → ℕ
first_word span w c = get_or w (2 * span + c) 0

abbrev pub second_word : ℕ → List ℕ → ℕ → ℕ
second_word span w c = get_or w (3 * span + c) 0

-- the pair that the words of a corner stand for
abbrev pub pair_of : ℕ → List ℕ → ℕ → Pair
pair_of span w c = (label (first_word span w c), label (second_word span w c))

abbrev pub key_at : ℕ → List ℕ → ℕ → ℕ
key_at span w i = get_or w (4 * span + 2 * i) 0

abbrev pub number_at : ℕ → List ℕ → ℕ → ℕ
number_at span w i = get_or w (4 * span + 2 * i + 1) 0

-- the place where the run of side e begins
abbrev pub run_of : ℕ → ℕ → List ℕ → ℕ → ℕ
run_of span n w e = get_or w (4 * span + 8 * n + e) 0

abbrev pub flags_at : ℕ → ℕ → ℕ
flags_at span n = 4 * span + 22 * n

-- the flag of the run of side e
abbrev pub flag_of : ℕ → ℕ → List ℕ → ℕ → ℕ
flag_of span n w e = get_or w (flags_at span n + run_of span n w e) 0

-- ---- sides, numbered 4 for each quad

abbrev pub side_start : List ℕ → ℕ → ℕ
side_start cells e = cell 4 cells (e / 4) e

abbrev pub side_end : List ℕ → ℕ → ℕ
side_end cells e = cell 4 cells (e / 4) (e + 1)

-- sides e and g have the same ends, run in opposite senses
pub record Across (cells : List ℕ) (e g : ℕ) : Type 0 where
  pub start : side_start cells e ≡ side_end cells g
  pub end : side_end cells e ≡ side_start cells g

-- 1 for a side that runs from its lower to its higher corner, 2 for another
abbrev pub sense_from : ℕ → ℕ → ℕ
sense_from a b = cond (ltb a b) 1 2

abbrev pub sense : List ℕ → ℕ → ℕ
sense cells e = sense_from (side_start cells e) (side_end cells e)

-- a flag is set for a sense
abbrev pub Scanned : ℕ → ℕ → Type 0
Scanned flag s = flag / s % 2 ≡ 1

-- ---- what is asked

-- n quads of four distinct corners below span, and no more of them than that
pub record Given (span : ℕ) (cells : List ℕ) (n : ℕ) : Type 0 where
  pub whole : length cells ≡ 4 * n
  pub few : n ≤ span
  pub most : span ≤ most_corners
  pub below : (k : ℕ) → k < length cells → get_or cells k 0 < span
  pub distinct : (q i j : ℕ) → q < n → cell 4 cells q i ≡ cell 4 cells q j → i % 4 ≡ j % 4

-- side g stands in the run of side e
pub record InRun (span n : ℕ) (w : List ℕ) (e g : ℕ) : Type 0 where
  pub at : ℕ
  pub from : run_of span n w e ≤ at
  pub small : at < 4 * n
  pub is : number_at span w at ≡ g
  pub run : (i : ℕ) → run_of span n w e ≤ i → i ≤ at → key_at span w i ≡ key_at span w (run_of span n w e)

-- a table of sides, each run of which begins with the key of its sides, and every side that is across from e stands in the run of e
pub record Table (span : ℕ) (cells : List ℕ) (n : ℕ) (w : List ℕ) : Type 0 where
  pub room : 4 * span + 26 * n ≤ length w
  pub sides : (i : ℕ) → i < 4 * n → number_at span w i < 4 * n
  pub runs : (e : ℕ) → e < 4 * n → run_of span n w e < 4 * n
  pub key : (e : ℕ) → e < 4 * n → key_at span w (run_of span n w e) ≡ side_key 4 cells (e / 4) e
  pub meets : (e g : ℕ) → e < 4 * n → g < 4 * n → Across cells e g → InRun span n w e g

-- no quad is marked and no corner has words
pub record Blank (span n : ℕ) (w : List ℕ) : Type 0 where
  pub marks : (q : ℕ) → q < n → mark w q ≡ 0
  pub first : (c : ℕ) → c < span → first_word span w c ≡ 0
  pub second : (c : ℕ) → c < span → second_word span w c ≡ 0

-- no run of a side that is reached from the seed was scanned
pub record Unscanned (span : ℕ) (cells : List ℕ) (n seed : ℕ) (w : List ℕ) : Type 0 where
  pub none : (e : ℕ) → e < 4 * n → Reached quads cells seed (e / 4) → flag_of span n w e ≡ 0
