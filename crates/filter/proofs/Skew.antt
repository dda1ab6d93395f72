-- The second rule's mark of quad q reads its own word and its lengths, which a sweep of the marks before it leaves. Assumes nothing.
use mathlib.Core.Path.{◌≡◌, ap}
use mathlib.Core.List.{List}
use Prim.Native.Nat.{ℕ, ◌+◌, ◌*◌, ◌<◌}
use native.Mathlib.Omega.{arith}
use lib.Ieee as Ieee
use lib.Ieee.{Float, binary32}
use Rattle.words.specs.inner.Regions.{Filled}
use Rattle.words.proofs.Regions.{kept_past}
use Rattle.filter.specs.inner.Layout.{lengths_at}
use Rattle.filter.specs.Opposing.{uneven}
use Rattle.filter.specs.inner.Steps.{length_in, skew_mark}

pub length_later : {xs ys : List ℕ} {f : ℕ → ℕ} (n q k : ℕ) → Filled xs ys 0 q q f → q < n → length_in ys n q k ≡ length_in xs n q k
unfolding length_in
length_later n q k s h = ap (λ (z : ℕ). Ieee.of_bits binary32 z) (kept_past s.kept (lengths_at n + (4 * q + k)) (omega arith))

pub skew_later : {xs ys : List ℕ} {f : ℕ → ℕ} (limit : Float) (n q : ℕ) → Filled xs ys 0 q q f → q < n → skew_mark limit ys n q ≡ skew_mark limit xs n q
unfolding skew_mark uneven
skew_later limit n q s h = rw (kept_past s.kept q (omega arith), length_later n q 0 s h, length_later n q 1 s h, length_later n q 2 s h, length_later n q 3 s h)
