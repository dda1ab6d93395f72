-- No side's length is refused: each is the IEEE root of its squares (`side_root`), of positions in range by itself (`standing_root`).
-- Assumes nothing.
use Rattle.std.specs.Prelude.{Ok}
use mathlib.Core.Path.{◌≡◌, subst}
use mathlib.Core.List.{List}
use Prim.Native.Nat.{ℕ, ◌+◌, ◌*◌, ◌%◌, ◌<◌}
use native.Mathlib.Omega.{arith}
use lib.Ieee.{Float, binary32}
use lib.Ieee.Fits.{add-fits}
use lib.ListN.{length}
use Rattle.std.specs.Prelude.{Ok}
use Rattle.measure.specs.Root.{RootOf}
use Rattle.measure.proofs.Length.{length_known}
use Rattle.measure.proofs.Positions.{difference_in_reach}
use Rattle.measure.proofs.RootComputed.{root_of_rule}
use Rattle.quads.specs.inner.Ordering.{Standing}
use Rattle.filter.specs.Input.{Input, quad_count, length_between, length_of_side}
use Rattle.filter.specs.Rooted.{squares_between, Rooted}
use Rattle.filter.specs.Call.{gate_of}
use Rattle.filter.specs.inner.Steps.{Sound}
use Rattle.filter.proofs.Sound.{gate_standing, gate_sound}

between_root : (xs ys : List Float) → Standing xs ys → (a b : ℕ) → a < length xs → b < length xs → RootOf (squares_between xs ys a b) (Ok (length_between xs ys a b))
unfolding length_between
between_root xs ys s a b ha hb =
    let p = s.placed a ha in
    let q = s.placed b hb in
    subst (RootOf (squares_between xs ys a b)) (length_known _ _ (difference_in_reach _ _ q.0 p.0) (difference_in_reach _ _ q.1 p.1)) (root_of_rule _ (add-fits binary32 _ _))

pub standing_root : (i : Input) → Standing i.xs i.ys → Sound i → (q k : ℕ) → q < quad_count i → Rooted i q k
unfolding length_of_side
standing_root i standing sound q k h =
    let there : (n : ℕ) → 4 * q + n % 4 < length i.quads = λ n. omega (arith, h) in
    between_root i.xs i.ys standing _ _ (sound.named (4 * q + k % 4) (there k)) (sound.named (4 * q + (k + 1) % 4) (there (k + 1)))

pub side_root : (i : Input) → gate_of i ≡ Ok tt → (q k : ℕ) → q < quad_count i → Rooted i q k
side_root i e = standing_root i (gate_standing i e) (gate_sound i e)
