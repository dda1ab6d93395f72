-- A list filled from its front, one value after the other, and an array so filled. Assumes nothing.
use mathlib.Core.Path.{◌≡◌, refl, sym, ap, ◌∙◌}
use mathlib.Core.List.{List, [], ◌∷◌, ◌++◌}
use Prim.Native.Nat.{ℕ, zero, suc, ◌+◌, ◌<◌, ◌≤◌}
use native.Mathlib.Numerals.{add-one}
use native.Mathlib.Omega.{arith}
use lib.ListN.{length, set, drop, take, replicate, length-append, length-drop, length-replicate}
use lib.Seq.{take_at}
use Rattle.words.specs.Listing.{listing}
use Rattle.words.proofs.Listing.{length_listing}
use Rattle.gridtext.specs.inner.Unpacked.{Front}

module _ {A : Type 0} where
  pub filled_none : (value : ℕ → A) (l : List A) → l ≡ listing 0 value ++ drop 0 l
  unfolding listing
  filled_none value l = refl

  next : (n : ℕ) (value : ℕ → A) (l : List A) → n < length l → set (listing n value ++ drop n l) n (value n) ≡ listing (suc n) value ++ drop (suc n) l
  unfolding listing
  next n value [] h = absurd (omega arith)
  next zero value (a ∷ l) h = refl
  next (suc n) value (a ∷ l) h = ap (λ (r : List A). value 0 ∷ r) (next n (λ (k : ℕ). value (suc k)) l (omega arith))

  pub filled_more : (n : ℕ) (value : ℕ → A) (l out : List A) (v : A) → n < length l → out ≡ listing n value ++ drop n l → v ≡ value n → set out n v ≡ listing (n + 1) value ++ drop (n + 1) l
  filled_more n value l out v h e is = rw (e, is, add-one) (next n value l h)

module _ {A : Type 0} (n room : ℕ) (none : A) (value : ℕ → A) where
  front_length : n ≤ room → length (listing n value ++ drop n (replicate room none)) ≡ room
  front_length h = length-append (listing n value) (drop n (replicate room none)) ∙ omega (arith, length_listing n value, length-drop n (replicate room none), length-replicate room none)

-- an array with n values at its front
module _ {A : Type 0} (n room : ℕ) (none : A) (value : ℕ → A) (r : List A) (e : Front n room none value r) where
  pub front_taken : take n r ≡ listing n value
  front_taken = ap (take n) e ∙ take_at (listing n value) (drop n (replicate room none)) n (length_listing n value)

  pub front_counted : n ≡ length (take n r)
  front_counted = sym (ap length front_taken ∙ length_listing n value)

  pub front_in : n ≤ room → n ≤ length r
  front_in h = omega (arith, ap length e, front_length n room none value h)
