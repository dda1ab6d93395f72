-- What a part of the walk leaves. It answers the queue's length, or a clash with that length where no assignment fits.
use Rattle.std.specs.Prelude.{◌≡◌, ◌≢◌, List, ℕ, ◌+◌, ◌*◌, ◌/◌, ◌≤◌, ◌<◌, length, get_or, Result, MatchResult}
use Rattle.cells.specs.Cells.{cell}
use Rattle.cells.specs.Kind.{Pair, Reached, Fits}
use Rattle.cells.specs.Quads.{quads}
use Rattle.laying.specs.declared.Clash.{Clash}
use Rattle.laying.specs.inner.Layout.{centre, mark, queued, first_word, second_word, run_of, flags_at}
use Rattle.laying.specs.inner.Invariant.{Cover, Met, State}
use Rattle.laying.specs.inner.Settling.{Bears}

-- more is marked, queued and given words, and nothing less
pub record Grows (span : ℕ) (xs ys : List ℕ) (tail r : ℕ) : Type 0 where
  pub more : tail ≤ r
  pub kept : (i : ℕ) → i < tail → queued span ys i ≡ queued span xs i
  pub still : (q : ℕ) → q < span → mark xs q ≢ 0 → mark ys q ≢ 0
  pub words : (c : ℕ) → c < span → first_word span xs c ≢ 0 → Bears span ys c (first_word span xs c) (second_word span xs c)

-- past the walk's four regions all is as it was, but for the flags of the reached sides' runs
pub record Rest (span : ℕ) (cells : List ℕ) (n seed : ℕ) (xs ys : List ℕ) : Type 0 where
  pub len : length ys ≡ length xs
  pub rest : (k : ℕ) → 4 * span ≤ k → ((e : ℕ) → e < 4 * n → Reached quads cells seed (e / 4) → k ≢ flags_at span n + run_of span n xs e) → get_or ys k 0 ≡ get_or xs k 0

pub record Stuck (span : ℕ) (cells : List ℕ) (n seed : ℕ) (w : List ℕ) (tail : ℕ) : Type 0 where
  pub cover : Cover span cells n w tail
  pub none : (L : ℕ → Pair) → Fits quads cells seed L → ⊥

-- the walk goes on, and D is done
pub record Goes (span : ℕ) (cells : List ℕ) (n seed : ℕ) (xs ys : List ℕ) (tail r : ℕ) (D : List ℕ → Type 0) : Type 0 where
  pub state : State span cells n seed ys r
  pub grows : Grows span xs ys tail r
  pub done : D ys

-- what a part that answers r leaves: it goes on with D done, or is stuck
pub record Went (span : ℕ) (cells : List ℕ) (n seed : ℕ) (xs ys : List ℕ) (tail : ℕ) (r : Result ℕ Clash) (D : ℕ → List ℕ → Type 0) : Type 0 where
  pub rest : Rest span cells n seed xs ys
  pub ended : MatchResult r (λ t. Goes span cells n seed xs ys tail t (D t)) (λ c. Stuck span cells n seed ys c.queued)

-- all that is across from the first k sides of q is marked
abbrev pub MetRound : List ℕ → ℕ → ℕ → ℕ → List ℕ → Type 0
MetRound cells n q k w = (j : ℕ) → j < k → Met cells n (4 * q + j) w

-- all that is across from the first r quads of the queue is marked
abbrev pub Closed : ℕ → List ℕ → ℕ → ℕ → List ℕ → Type 0
Closed span cells n r w = (i : ℕ) → i < r → MetRound cells n (queued span w i) 4 w

-- the words of the seed's corners
pub record Seeded (span : ℕ) (cells : List ℕ) (seed : ℕ) (w : List ℕ) : Type 0 where
  pub a : Bears span w (cell 4 cells seed 0) centre centre
  pub b : Bears span w (cell 4 cells seed 1) (centre + 1) centre
  pub c : Bears span w (cell 4 cells seed 2) (centre + 1) (centre + 1)
  pub d : Bears span w (cell 4 cells seed 3) centre (centre + 1)

-- the walk can start
pub record Planted (span : ℕ) (cells : List ℕ) (n seed : ℕ) (xs ys : List ℕ) : Type 0 where
  pub rest : Rest span cells n seed xs ys
  pub state : State span cells n seed ys 1
  pub first : mark ys seed ≢ 0
  pub seeded : Seeded span cells seed ys
