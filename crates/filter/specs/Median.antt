-- The median of a list of lengths: place floor(n/2), counted from 0, of all in order. It is a rank, and no ordering is spoken of: so many
-- are less, and so many are not greater.
use Rattle.std.specs.Prelude.{◌≡◌, not, List, [], ◌∷◌, ℕ, ◌+◌, ◌/◌, ◌≤◌, ◌<◌, Float, length, get_or}
use Rattle.std.specs.Float.Ieee as Ieee
use Rattle.std.specs.Float.{nan}
use Rattle.words.specs.Sorting.{one}

-- how many are less than v
unfoldable pub less : List Float → Float → ℕ
less [] v = 0
less (x ∷ l) v = one (Ieee.lt x v) + less l v

-- how many are not greater than v
unfoldable pub up_to : List Float → Float → ℕ
up_to [] v = 0
up_to (x ∷ l) v = one (not (Ieee.lt v x)) + up_to l v

pub record Median (l : List Float) (v : Float) : Type 0 where
  pub at : ℕ
  pub at_lt : at < length l
  pub is : get_or l at nan ≡ v
  pub before : less l v ≤ length l / 2
  pub after : length l / 2 < up_to l v
