-- The three lists that a call that labels is lent: they stand one after the other in a text, and are read to the fronts of three arrays.
use Rattle.std.specs.Prelude.{List, ◌≡◌, ℕ, length}
use Rattle.vectors.specs.inner.Lists.{length_at, next_at, element_at, Laid}
use Rattle.told.specs.declared.inner.Lent.{Lent}

pub record Arrays : Type 0 where
  pub work : List ℕ
  pub components : List ℕ
  pub entries : List ℕ

-- the first n words of an array are the list at `at`, and all others are as they were
abbrev pub Reads : List ℕ → ℕ → (before after : List ℕ) → ℕ → Type 0
Reads text at before after n = (n ≡ length_at text at (length before)) × Laid 0 before after n (element_at text at (length before))

-- where the second list stands, and the third
abbrev pub second_at : List ℕ → ℕ → Arrays → ℕ
second_at text at arrays = next_at text at (length arrays.work)

abbrev pub third_at : List ℕ → ℕ → Arrays → ℕ
third_at text at arrays = next_at text (second_at text at arrays) (length arrays.components)

pub record Lends (text : List ℕ) (at : ℕ) (before after : Arrays) (lent : Lent) (next : ℕ) : Type 0 where
  pub work : Reads text at before.work after.work lent.work
  pub components : Reads text (second_at text at before) before.components after.components lent.components
  pub entries : Reads text (third_at text at before) before.entries after.entries lent.entries
  pub on : next ≡ next_at text (third_at text at before) (length before.entries)
