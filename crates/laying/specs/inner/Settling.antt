-- What becomes of words that corners are given.
use Rattle.std.specs.Prelude.{◌≡◌, ◌≢◌, ◌⊎◌, Bool, true, false, List, ℕ, ◌+◌, ◌*◌, ◌-◌, ◌/◌, ◌≤◌, ◌<◌, length, get_or, set}
use Rattle.cells.specs.Cells.{cell}
use Rattle.mesh.specs.Lists.{most_corners}
use Rattle.laying.specs.inner.Layout.{Near, first_word, second_word, side_start, side_end}

-- corner c has the words x and y
pub record Bears (span : ℕ) (w : List ℕ) (c x y : ℕ) : Type 0 where
  pub first : first_word span w c ≡ x
  pub second : second_word span w c ≡ y

-- corner c is given x and y where it had none; else it is told whether it has them
pub data Settled (span : ℕ) (xs ys : List ℕ) (c x y : ℕ) (r : Bool) : Type 0 where
  fresh : first_word span xs c ≡ 0 → ys ≡ set (set xs (2 * span + c) x) (3 * span + c) y → r ≡ true → Settled span xs ys c x y r
  same : first_word span xs c ≢ 0 → Bears span xs c x y → ys ≡ xs → r ≡ true → Settled span xs ys c x y r
  other : first_word span xs c ≢ 0 → (Bears span xs c x y → ⊥) → ys ≡ xs → r ≡ false → Settled span xs ys c x y r

-- corner c has words, and others than x and y
pub record Differs (span : ℕ) (xs : List ℕ) (c x y : ℕ) : Type 0 where
  pub has : first_word span xs c ≢ 0
  pub apart : Bears span xs c x y → ⊥

-- c and d have their words, and every corner that had words has the same
pub record Good (span : ℕ) (xs ys : List ℕ) (c d xc yc xd yd : ℕ) : Type 0 where
  pub at_c : Bears span ys c xc yc
  pub at_d : Bears span ys d xd yd
  pub keeps : (k : ℕ) → k < span → first_word span xs k ≢ 0 → Bears span ys k (first_word span xs k) (second_word span xs k)

-- corners c and d were given words, or one of them has others; all else is as it was
pub record Placed (span : ℕ) (xs ys : List ℕ) (c d xc yc xd yd : ℕ) (r : Bool) : Type 0 where
  pub len : length ys ≡ length xs
  pub low : (k : ℕ) → k < 2 * span → get_or ys k 0 ≡ get_or xs k 0
  pub high : (k : ℕ) → 4 * span ≤ k → get_or ys k 0 ≡ get_or xs k 0
  pub others : (k : ℕ) → k < span → k ≢ c → k ≢ d → Bears span ys k (first_word span xs k) (second_word span xs k)
  pub good : r ≡ true → Good span xs ys c d xc yc xd yd
  pub bad : r ≡ false → Differs span xs c xc yc ⊎ Differs span xs d xd yd

-- the words at the two ends of a side, near enough that the far corners' are words
pub record Ends (xa ya xb yb : ℕ) : Type 0 where
  pub xa_near : Near most_corners xa
  pub ya_near : Near most_corners ya
  pub xb_near : Near most_corners xb
  pub yb_near : Near most_corners yb

abbrev pub EndsAt : ℕ → List ℕ → List ℕ → ℕ → Type 0
EndsAt span cells w g = Ends (first_word span w (side_start cells g)) (second_word span w (side_start cells g)) (first_word span w (side_end cells g)) (second_word span w (side_end cells g))

-- c, b and the step from a to b turned by a quarter, and d, a and the same, by the words of a and b
abbrev pub Spread : ℕ → List ℕ → List ℕ → (c d xa ya xb yb : ℕ) → Bool → Type 0
Spread span xs ys c d xa ya xb yb r = Placed span xs ys c d ((xb + ya) - yb) ((yb + xb) - xa) ((xa + ya) - yb) ((ya + xb) - xa) r

-- the same of the quad of side g
abbrev pub SpreadAt : ℕ → List ℕ → ℕ → List ℕ → List ℕ → Bool → Type 0
SpreadAt span cells g xs ys r = Spread span xs ys (cell 4 cells (g / 4) (g + 2)) (cell 4 cells (g / 4) (g + 3)) (first_word span xs (side_start cells g)) (second_word span xs (side_start cells g)) (first_word span xs (side_end cells g)) (second_word span xs (side_end cells g)) r
