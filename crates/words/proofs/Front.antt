-- What a loop that writes a list from the front knows: its first n elements are right, and one more store makes it n + 1. Assumes nothing.
use mathlib.Core.Path.{◌≡◌, ◌∙◌}
use mathlib.Core.List.{List}
use Prim.Native.Nat.{ℕ, ◌+◌, ◌<◌}
use native.Mathlib.Decide.{ℕ_discrete}
use native.Mathlib.Omega.{arith}
use lib.ListN.{length, get_or, set}
use lib.Seq.{get_or-set_same, get_or-set_other}

-- `none` is read past the end of the list
module _ {A : Type 0} (none : A) where
  abbrev pub Front : List A → ℕ → (ℕ → A) → Type 0
  Front l n f = (k : ℕ) → k < n → get_or l k none ≡ f k

  pub front_more : (l : List A) (n : ℕ) (v : A) (f : ℕ → A) → n < length l → Front l n f → v ≡ f n → Front (set l n v) (n + 1) f
  front_more l n v f h front e k b = go (ℕ_discrete k n)
    where
      go : Dec (k ≡ n) → get_or (set l n v) k none ≡ f k
      go (yes s) = rw (s, get_or-set_same) e
      go (no s) = get_or-set_other l n k v none s ∙ front k (omega (arith, s))
