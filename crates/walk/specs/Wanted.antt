-- Rows 9 and 10: the records wanted are as many as the groups that have all that is demanded, the entries wanted the sum of their lone
-- corners; and what is answered by the room for them.
use Rattle.std.specs.Prelude.{Result, Err}
use Rattle.refusal.specs.declared.Refusal.{Refusal}
use Rattle.walk.specs.Call.{wrote}
use Rattle.std.specs.Prelude.{◌≡◌, List, ℕ, ◌≤◌, ◌<◌}
use Rattle.refusal.specs.declared.Refusal.TheVariants.{RecordsShort, EntriesShort}
use Rattle.cells.specs.Kind.{Pair, Fits, Lone}
use Rattle.cells.specs.Counted.{Exactly}
use Rattle.cells.specs.Sums.{total}
use Rattle.cells.specs.Quads.{quads}
use Rattle.walk.specs.declared.Labelled.{Labelled}
use Rattle.walk.specs.Input.{Input}
use Rattle.walk.specs.Demanded.{Seeds}

-- so many corners are lone in the group of lowest quad s
pub record LoneCorners (cells : List ℕ) (s count : ℕ) : Type 0 where
  pub L : ℕ → Pair
  pub fits : Fits quads cells s L
  pub exactly : Exactly (Lone quads cells s L) count

-- k groups have all that is demanded, and l is the sum of their lone corners
pub record Wanted (i : Input) (number : ℕ → ℕ) (k l : ℕ) : Type 0 where
  pub seed : ℕ → ℕ
  pub seeds : Seeds i number k seed
  pub lone : ℕ → ℕ
  pub counted : (j : ℕ) → j < k → LoneCorners i.quads (seed j) (lone j)
  pub sum : l ≡ total lone k

-- the answer where k records and l entries are wanted and there is room for so many
pub record ByRoom (records entries k l : ℕ) (answer : Result Labelled Refusal) : Type 0 where
  pub row_9 : records < k → answer ≡ Err (RecordsShort k)
  pub row_10 : k ≤ records → entries < l → answer ≡ Err (EntriesShort l)
  pub done : k ≤ records → l ≤ entries → answer ≡ wrote k l
