-- A list is a listing when it has the length and at each place the value; and what holds at each place of a list with one more. Assumes nothing.
use mathlib.Core.Path.{◌≡◌, refl, sym, ap, ◌∙◌, subst}
use mathlib.Core.List.{List}
use Prim.Native.Nat.{ℕ, zero, suc, ◌+◌, ◌<◌}
use native.Mathlib.Decide.{dec_lt}
use native.Mathlib.Omega.{arith}
use native.Mathlib.Nat.{not-suc-le-zero, le_of_suc-le-suc}
use lib.ListN.{length, get_or}
use lib.Seq.{ext_get_or}
use Rattle.words.specs.Listing.{listing}

module _ {A : Type 0} where
  pub length_listing : (n : ℕ) (f : ℕ → A) → length (listing n f) ≡ n
  unfolding listing
  length_listing zero f = refl
  length_listing (suc n) f = ap suc (length_listing n (λ (k : ℕ). f (suc k)))

  pub get_d_listing : (n : ℕ) (f : ℕ → A) (i : ℕ) (d : A) → i < n → get_or (listing n f) i d ≡ f i
  unfolding listing
  get_d_listing zero f i d h = absurd (not-suc-le-zero h)
  get_d_listing (suc n) f zero d h = refl
  get_d_listing (suc n) f (suc i) d h = get_d_listing n (λ (k : ℕ). f (suc k)) i d (le_of_suc-le-suc h)

  pub is_listing : (d : A) (l : List A) (n : ℕ) (f : ℕ → A) → length l ≡ n → ((i : ℕ) → i < n → get_or l i d ≡ f i) → l ≡ listing n f
  is_listing d l n f e h = ext_get_or d l (listing n f) (e ∙ sym (length_listing n f)) (λ i b. let k : i < n = rw e at b in h i k ∙ sym (get_d_listing n f i d k))

-- a place of a list that has one more than n is one of the n, or the last
pub each_more : (n m : ℕ) → m ≡ n + 1 → (P : ℕ → Type 0) → ((k : ℕ) → k < n → P k) → P n → (k : ℕ) → k < m → P k
each_more n m e P before last k h = go (dec_lt k n)
  where
    go : Dec (k < n) → P k
    go (yes l) = before k l
    go (no l) = let same : n ≡ k = omega (arith, e) in subst P same last
