-- What a walk from a seed keeps: the marked quads are reached, are in the queue and go round under the words; every word is the label of
-- every assignment that fits; a flag that is set tells that all across from its sides is marked.
use Rattle.std.specs.Prelude.{◌≡◌, ◌≢◌, List, ℕ, zero, suc, ◌+◌, ◌*◌, ◌/◌, ◌<◌, get_or}
use Rattle.cells.specs.Cells.{cell}
use Rattle.cells.specs.Kind.{Pair, Reached, Fits}
use Rattle.cells.specs.Quads.{Round, quads}
use Rattle.laying.specs.inner.Layout.{Near, mark, queued, first_word, second_word, pair_of, flag_of, Across, sense, Scanned}

abbrev pub sign : ℕ → ℕ
sign zero = 0
sign (suc x) = 1

-- how many of the first n words are not 0
unfoldable pub count : List ℕ → ℕ → ℕ
count w zero = 0
count w (suc n) = count w n + sign (get_or w n 0)

-- q is in the queue
pub record Waits (span : ℕ) (w : List ℕ) (tail q : ℕ) : Type 0 where
  pub at : ℕ
  pub small : at < tail
  pub is : queued span w at ≡ q

-- c is a corner of a quad in the queue
pub record Cornered (span : ℕ) (cells w : List ℕ) (tail c : ℕ) : Type 0 where
  pub at : ℕ
  pub place : ℕ
  pub small : at < tail
  pub is : cell 4 cells (queued span w at) place ≡ c

-- of n quads `tail` are marked, they are in the queue, and only their corners have words
pub record Cover (span : ℕ) (cells : List ℕ) (n : ℕ) (w : List ℕ) (tail : ℕ) : Type 0 where
  pub counted : count w n ≡ tail
  pub within : (i : ℕ) → i < tail → queued span w i < n
  pub waits : (q : ℕ) → q < n → mark w q ≢ 0 → Waits span w tail q
  pub first : (c : ℕ) → c < span → first_word span w c ≢ 0 → Cornered span cells w tail c
  pub second : (c : ℕ) → c < span → second_word span w c ≢ 0 → Cornered span cells w tail c

-- the quad of side g is marked, if g is across from e
abbrev pub Meets : List ℕ → ℕ → ℕ → List ℕ → Type 0
Meets cells e g w = Across cells e g → mark w (g / 4) ≢ 0

-- all that is across from e is marked
abbrev pub Met : List ℕ → ℕ → ℕ → List ℕ → Type 0
Met cells n e w = (g : ℕ) → g < 4 * n → Meets cells e g w

-- the flags of the reached sides' runs tell what is met
pub record Flags (span : ℕ) (cells : List ℕ) (n seed : ℕ) (w : List ℕ) : Type 0 where
  pub small : (e : ℕ) → e < 4 * n → Reached quads cells seed (e / 4) → flag_of span n w e < 4
  pub met : (e : ℕ) → e < 4 * n → Reached quads cells seed (e / 4) → Scanned (flag_of span n w e) (sense cells e) → Met cells n e w

pub record State (span : ℕ) (cells : List ℕ) (n seed : ℕ) (w : List ℕ) (tail : ℕ) : Type 0 where
  pub cover : Cover span cells n w tail
  pub sound : (i : ℕ) → i < tail → Reached quads cells seed (queued span w i)
  pub marked : (i : ℕ) → i < tail → mark w (queued span w i) ≢ 0
  pub round : (q : ℕ) → q < n → mark w q ≢ 0 → Round (pair_of span w) (cell 4 cells q)
  pub full : (q : ℕ) → q < n → mark w q ≢ 0 → (k : ℕ) → first_word span w (cell 4 cells q k) ≢ 0
  pub agrees : (L : ℕ → Pair) → Fits quads cells seed L → (c : ℕ) → c < span → first_word span w c ≢ 0 → L c ≡ pair_of span w c
  pub near : (c : ℕ) → c < span → first_word span w c ≢ 0 → Near tail (first_word span w c) × Near tail (second_word span w c)
  pub flags : Flags span cells n seed w
