-- A quad is crowded exactly when, in a table of every corner's incidence, at least two of its four corners stand above 8.
-- Assumes nothing.
use mathlib.Core.Path.{◌≡◌, refl, ap, ◌∙◌}
use mathlib.Core.Bool.{Bool, true, false}
use mathlib.Core.List.{List}
use Prim.Native.Nat.{ℕ, ◌+◌, ◌*◌, ◌≤◌, ◌<◌}
use native.Mathlib.Omega.{arith}
use lib.Dec.{leb, ltb}
use lib.ListN.{length, get_or}
use Rattle.std.specs.Int.{from_bool}
use Rattle.words.specs.Sorting.{one}
use Rattle.filter.specs.Topology.{incidence, illegal, crowded}

one_is : (b : Bool) → from_bool b ≡ one b
unfolding one
one_is true = refl
one_is false = refl

module _ (quads table : List ℕ) (q : ℕ) (whole : 4 * q + 4 ≤ length quads) (named : (k : ℕ) → k < length quads → get_or quads k 0 < length table) (counted : (c : ℕ) → c < length table → get_or table c 0 ≡ incidence quads c) where
  -- 1 where the corner at place k of the list stands above 8
  abbrev pub flag : ℕ → ℕ
  flag k = one (ltb 8 (get_or table (get_or quads k 0) 0))

  flag_is : (i k : ℕ) → i < 4 → k ≡ 4 * q + i → flag k ≡ one (illegal quads (get_or quads (4 * q + i) 0))
  unfolding illegal
  flag_is i k h e = let l : k < length quads = omega arith in rw (counted (get_or quads k 0) (named k l), e)

  pub crowded_is : (a b c d m : ℕ) → a ≡ flag (4 * q) → b ≡ flag (4 * q + 1) → c ≡ flag (4 * q + 2) → d ≡ flag (4 * q + 3) → m ≡ from_bool (leb 2 (a + b + (c + d))) → m ≡ one (crowded quads q)
  unfolding crowded
  crowded_is a b c d m ea eb ec ed e =
      e ∙ one_is _ ∙ ap (λ (n : ℕ). one (leb 2 n)) (omega (arith, flag_is 0 (4 * q) (omega arith) (omega arith), flag_is 1 (4 * q + 1) (omega arith) refl, flag_is 2 (4 * q + 2) (omega arith) refl, flag_is 3 (4 * q + 3) (omega arith) refl))
