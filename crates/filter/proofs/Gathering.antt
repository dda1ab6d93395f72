-- What the loop that gathers the lengths by group reads stands outside the region that it fills, so each length is the one that it was.
-- Assumes nothing.
use mathlib.Core.Path.{◌≡◌, ap, ◌∙◌}
use mathlib.Core.List.{List}
use Prim.Native.Nat.{ℕ, ◌+◌, ◌*◌, ◌/◌, ◌%◌, ◌<◌}
use native.Mathlib.Omega.{arith}
use lib.ListN.{get_or}
use Rattle.words.specs.inner.Order.{word_of}
use Rattle.words.specs.inner.Regions.{Filled}
use Rattle.filter.specs.inner.Layout.{records_at, gathered_at, lengths_at}

-- the length that goes to place e
abbrev pub length_to : List ℕ → ℕ → ℕ → ℕ
length_to xs n e = get_or xs (lengths_at n + (4 * word_of xs (records_at n) 0 (e / 4) + e % 4)) 0

module _ {xs ys : List ℕ} {n e q : ℕ} {f : ℕ → ℕ} (filled : Filled xs ys (gathered_at n) (4 * n) e f) (small : (k : ℕ) → k < n → word_of xs (records_at n) 0 k < n) (h : e < 4 * n) (is : q ≡ get_or ys (records_at n + 2 * (e / 4)) 0) where
  -- the quad that is read
  number_is : q ≡ word_of xs (records_at n) 0 (e / 4)
  number_is = is ∙ ap (λ (i : ℕ). get_or ys i 0) (omega arith) ∙ filled.kept.rest (records_at n + 2 * (e / 4) + 0) (λ j l i. omega arith)

  pub number_lt : q < n
  number_lt = omega (arith, number_is, small (e / 4) (omega arith))

  pub length_next : get_or ys (lengths_at n + (4 * q + e % 4)) 0 ≡ length_to xs n e
  length_next =
      filled.kept.rest (lengths_at n + (4 * q + e % 4)) (λ j l i. omega arith) ∙ ap (λ (z : ℕ). get_or xs (lengths_at n + (4 * z + e % 4)) 0) number_is
