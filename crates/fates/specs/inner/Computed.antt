-- What stands in the workspace once every group is judged: the fate of every quad, and the records of its group's corners, of the lone ones
-- and of all that were reached.
use Rattle.std.specs.Prelude.{◌≡◌, true, List, ℕ, ◌*◌, ◌≤◌, ◌<◌, length}
use Rattle.words.specs.inner.Order.{grouped_of}
use Rattle.cells.specs.Cells.{Neighbours, everyone}
use Rattle.cells.specs.Groups.{Groups}
use Rattle.cells.specs.Listed.{grouping_by}
use Rattle.fates.specs.declared.LabelParams.{LabelParams}
use Rattle.fates.specs.inner.Fates.{records_at, lone_at, Laid, ReachedFrom, IsLoneFrom}
use Rattle.fates.specs.Judged.{Becomes}
use Rattle.fates.specs.inner.FateWords.{fate_at, is_labelled}
use Rattle.fates.specs.inner.Index.{Indexed}

-- m records of lone corners ascend by group, then pair, and `all` of reached corners so far as these differ
pub record Computed (span : ℕ) (cells : List ℕ) (n : ℕ) (params : LabelParams) (xs ys : List ℕ) : Type 0 where
  pub len : length ys ≡ length xs
  pub number : ℕ → ℕ
  pub groups : Groups (Neighbours 4 cells everyone) n number
  pub becomes : (q : ℕ) → q < n → Becomes cells (grouping_by n number params.quads params.corners) q (fate_at span n ys q)
  pub all : ℕ
  pub m : ℕ
  pub few_all : all ≤ 4 * n
  pub few : m ≤ 4 * n
  pub alls : (q : ℕ) → q < n → is_labelled (fate_at span n ys q) ≡ true → Laid cells (grouping_by n number params.quads params.corners) (ReachedFrom cells (grouping_by n number params.quads params.corners) q) q ys (records_at span n) all
  pub lones : (q : ℕ) → q < n → is_labelled (fate_at span n ys q) ≡ true → Laid cells (grouping_by n number params.quads params.corners) (IsLoneFrom cells (grouping_by n number params.quads params.corners) q) q ys (lone_at span) m
  pub ascends : (j k : ℕ) → j ≤ k → k < all → grouped_of ys (records_at span n) j ≤ grouped_of ys (records_at span n) k
  pub rises : (j k : ℕ) → j < k → k < m → grouped_of ys (lone_at span) j < grouped_of ys (lone_at span) k
  pub indexed : (q : ℕ) → q < n → Indexed span n ys all m q
