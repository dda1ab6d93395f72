-- Keys of sides: two sides of corners below 4,096 have one key exactly when they join the same two corners, and no side that joins two
-- has the key 0. Assumes nothing.
use mathlib.Core.Path.{◌≡◌}
use mathlib.Core.Logic.{◌⊎◌, inl, inr}
use mathlib.Core.List.{List}
use Prim.Native.Nat.{ℕ, ◌+◌, ◌*◌, ◌%◌, ◌<◌}
use native.Mathlib.Nat.{mod-eq_of_lt}
use native.Mathlib.Decide.{ℕ_discrete}
use native.Mathlib.Omega.{arith}
use lib.ListN.{get_or}
use Rattle.cells.specs.inner.Sides.{ends_key, side_key}

pub side_key_is : (size : ℕ) (cells : List ℕ) (q i next : ℕ) → i < size → next ≡ (i + 1) % size → ends_key (get_or cells (size * q + i) 0) (get_or cells (size * q + next) 0) ≡ side_key size cells q i
side_key_is size cells q i next h e =
    let own : i % size ≡ i = mod-eq_of_lt h in
    rw (own, e)

pub equal_ends : (a b c d : ℕ) → a < 4096 → b < 4096 → c < 4096 → d < 4096 → ends_key a b ≡ ends_key c d → ((a ≡ c) × (b ≡ d)) ⊎ ((a ≡ d) × (b ≡ c))
equal_ends a b c d ha hb hc hd e = go (ℕ_discrete a c)
  where
    go : Dec (a ≡ c) → ((a ≡ c) × (b ≡ d)) ⊎ ((a ≡ d) × (b ≡ c))
    go (yes f) = inl (f, omega arith)
    go (no f) = inr (omega arith, omega arith)

pub turned_ends : (a b : ℕ) → ends_key a b ≡ ends_key b a
turned_ends a b = omega arith

pub proper_key : (a b : ℕ) → (a ≡ b → ⊥) → 0 < ends_key a b
proper_key a b n = omega (arith, n)

pub small_key : (a b : ℕ) → a < 4096 → b < 4096 → ends_key a b < 16777216
small_key a b ha hb = omega arith
