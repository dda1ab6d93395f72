-- The third rule's mark of quad q reads its own word, its group's median and its lengths, which a sweep of the marks before it leaves.
-- Assumes nothing.
use mathlib.Core.Path.{◌≡◌, ap}
use mathlib.Core.List.{List}
use Prim.Native.Nat.{ℕ, ◌+◌, ◌<◌}
use native.Mathlib.Omega.{arith}
use lib.Ieee as Ieee
use lib.Ieee.{binary32}
use Rattle.words.specs.inner.Regions.{Filled}
use Rattle.words.proofs.Regions.{kept_past}
use Rattle.mesh.specs.Cells.{some}
use Rattle.filter.specs.declared.FilterParams.{FilterParams}
use Rattle.filter.specs.Size.{off_size}
use Rattle.filter.specs.inner.Steps.{median_in, size_mark}
use Rattle.filter.proofs.Skew.{length_later}

median_later : {xs ys : List ℕ} {f : ℕ → ℕ} (n q : ℕ) → Filled xs ys 0 q q f → q < n → median_in ys n q ≡ median_in xs n q
unfolding median_in
median_later n q s h = rw (kept_past s.kept (n + q) (omega arith)) (ap (λ (z : ℕ). Ieee.of_bits binary32 z) (kept_past s.kept _ (omega arith)))

pub size_later : {xs ys : List ℕ} {f : ℕ → ℕ} (p : FilterParams) (n q : ℕ) → Filled xs ys 0 q q f → q < n → size_mark p ys n q ≡ size_mark p xs n q
unfolding size_mark off_size some
size_later p n q s h = rw (kept_past s.kept q (omega arith), median_later n q s h, length_later n q 0 s h, length_later n q 1 s h, length_later n q 2 s h, length_later n q 3 s h)
