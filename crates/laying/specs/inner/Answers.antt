-- What the walk of a group answers, and what clearing leaves.
use Rattle.std.specs.Prelude.{◌≡◌, ◌≢◌, List, ℕ, ◌*◌, ◌≤◌, ◌<◌, length, get_or, Result, MatchResult}
use Rattle.cells.specs.Cells.{cell}
use Rattle.cells.specs.Kind.{Reached, ReachedCorner, Fits}
use Rattle.cells.specs.Quads.{quads}
use Rattle.laying.specs.declared.Clash.{Clash}
use Rattle.laying.specs.inner.Layout.{Near, mark, queued, first_word, second_word, pair_of, Blank}
use Rattle.laying.specs.inner.Invariant.{Cover}
use Rattle.laying.specs.inner.Moves.{Rest, Stuck}

-- the words are an assignment that fits from the seed; exactly the reached quads are marked, and they are the t of the queue; exactly the
-- reached corners have words
pub record Fitted (span : ℕ) (cells : List ℕ) (n seed : ℕ) (w : List ℕ) (t : ℕ) : Type 0 where
  pub fits : Fits quads cells seed (pair_of span w)
  pub all : (q : ℕ) → Reached quads cells seed q → mark w q ≢ 0
  pub only : (q : ℕ) → q < n → mark w q ≢ 0 → Reached quads cells seed q
  pub queue : (i : ℕ) → i < t → Reached quads cells seed (queued span w i)
  pub words : (c : ℕ) → ReachedCorner quads cells seed c → (first_word span w c ≢ 0) × (second_word span w c ≢ 0)
  pub only_first : (c : ℕ) → c < span → first_word span w c ≢ 0 → ReachedCorner quads cells seed c
  pub only_second : (c : ℕ) → c < span → second_word span w c ≢ 0 → ReachedCorner quads cells seed c
  pub near : (c : ℕ) → ReachedCorner quads cells seed c → Near t (first_word span w c) × Near t (second_word span w c)
  pub cover : Cover span cells n w t

-- Ok: the words are the labelling. Err: there is none. In both, so many quads are in the queue, and of the rest of the workspace only
-- flags of reached sides' runs may have changed.
pub record Labelled (span : ℕ) (cells : List ℕ) (n seed : ℕ) (xs ys : List ℕ) (r : Result ℕ Clash) : Type 0 where
  pub rest : Rest span cells n seed xs ys
  pub ended : MatchResult r (λ t. Fitted span cells n seed ys t) (λ c. Stuck span cells n seed ys c.queued)

-- the mark of q, and the words of its corners, are taken away, and no word but 0 was written
pub record Wiped (span : ℕ) (cells : List ℕ) (n : ℕ) (xs ys : List ℕ) (q : ℕ) : Type 0 where
  pub len : length ys ≡ length xs
  pub middle : (k : ℕ) → n ≤ k → k < 2 * span → get_or ys k 0 ≡ get_or xs k 0
  pub high : (k : ℕ) → 4 * span ≤ k → get_or ys k 0 ≡ get_or xs k 0
  pub zero : (k : ℕ) → get_or xs k 0 ≡ 0 → get_or ys k 0 ≡ 0
  pub gone : mark ys q ≡ 0
  pub first : (k : ℕ) → first_word span ys (cell 4 cells q k) ≡ 0
  pub second : (k : ℕ) → second_word span ys (cell 4 cells q k) ≡ 0

-- marks and words are gone, and all else is as it was
pub record Cleared (span n : ℕ) (xs ys : List ℕ) : Type 0 where
  pub len : length ys ≡ length xs
  pub middle : (k : ℕ) → n ≤ k → k < 2 * span → get_or ys k 0 ≡ get_or xs k 0
  pub high : (k : ℕ) → 4 * span ≤ k → get_or ys k 0 ≡ get_or xs k 0
  pub blank : Blank span n ys
