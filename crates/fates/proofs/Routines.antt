-- What the walks have left is what the picking asks for, what both have left is what the judging asks for, and what that leaves is what the
-- whole computation promises. Assumes nothing.
use mathlib.Core.Path.{◌≡◌, ◌∙◌}
use mathlib.Core.List.{List}
use Prim.Native.Nat.{ℕ, ◌+◌, ◌*◌, ◌≤◌}
use native.Mathlib.Omega.{arith}
use lib.ListN.{length}
use Rattle.laying.specs.inner.Layout.{Given}
use Rattle.cells.specs.Listed.{grouping_by}
use Rattle.fates.specs.declared.LabelParams.{LabelParams}
use Rattle.fates.specs.inner.Fates.{records_at, lone_at, Alone}
use Rattle.fates.specs.inner.Prepared.{Ready}
use Rattle.fates.specs.inner.Gathering.{numbers_in, Gathers}
use Rattle.fates.specs.inner.Singles.{Batch, LoneFrom}
use Rattle.fates.specs.inner.Judging.{Judges, Tabled}
use Rattle.fates.specs.inner.Computed.{Computed}
use Rattle.fates.proofs.LoneCorners.{batch_of, alone_from}
use Rattle.fates.proofs.Becoming.{tabled, computed}

module _ {span : ℕ} {cells : List ℕ} {n all : ℕ} {w0 w1 : List ℕ} (given : Given span cells n) (room : 4 * span + 27 * n ≤ length w0) (P : Ready span cells n w0) (G : Gathers span cells n all w0 w1) (params : LabelParams) where
  pub batch : Batch span n all w1
  batch = batch_of cells (grouping_by n (numbers_in span n w0) params.quads params.corners) span all w1 (G.gathered params) (omega (arith, G.len)) (omega (arith, given.few, given.most))

  module _ {m : ℕ} {w2 : List ℕ} (F : LoneFrom w1 w2 (records_at span n) (lone_at span) all m) where
    alone : Alone cells (grouping_by n (numbers_in span n w0) params.quads params.corners) span all m w2
    alone = alone_from cells (grouping_by n (numbers_in span n w0) params.quads params.corners) span all w1 (G.gathered params) w2 m F

    pub tables : Tabled span n all m w2
    tables = tabled span cells n params (numbers_in span n w0) all m w2 P.groups alone given (omega (arith, F.ordered.len, G.len))

    pub outcome : {ws ys : List ℕ} → length w0 ≡ length ws → Judges span n params all m n w2 ys → Computed span cells n params ws ys
    outcome {ws} {ys} len J = computed span cells n params (numbers_in span n w0) all m w2 P.groups alone ys tables J ws (F.ordered.len ∙ G.len ∙ len)
