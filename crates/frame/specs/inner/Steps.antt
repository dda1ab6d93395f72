-- What the stages leave in the lists that they are lent. Up to the filters the workspace is theirs and may hold anything, and so may the list
-- of the quads behind them; then every group of the quads kept has its fate in the workspace, and what they give is counted.
use Rattle.std.specs.Prelude.{◌≡◌, List, ℕ, ◌*◌, max, length, take}
use Rattle.classify.specs.Classes.{classes_of}
use Rattle.quads.specs.Merge.{merged_of}
use Rattle.quads.specs.Call.{words_of}
use Rattle.filter.specs.Input as filters
use Rattle.filter.specs.Marks.{Marked, kept_of}
use Rattle.fates.specs.inner.Computed.{Computed}
use Rattle.walk.specs.inner.Emitted.{out_to}
use Rattle.walk.specs.inner.Emitting.{Counted}
use Rattle.frame.specs.declared.inner.FrameCounts.{FrameCounts}
use Rattle.frame.specs.Stages.{Input, classing, merging, filtering}

-- the class list is written; n quads are made, and stand at the front of their list
pub record Made (i : Input) (classes : List ℕ) (n : ℕ) (quads : List ℕ) : Type 0 where
  pub classed : classes ≡ classes_of (classing i)
  pub count : n ≡ length (merged_of (merging i))
  pub front : take (4 * n) quads ≡ words_of (merged_of (merging i))

-- n quads are kept by the marks of the filters, and stand at the front of their list
pub record Sifted (f : filters.Input) (n : ℕ) (quads : List ℕ) : Type 0 where
  pub marks : List ℕ
  pub marked : Marked f marks
  pub count : n ≡ length (kept_of f marks)
  pub front : take (4 * n) quads ≡ words_of (kept_of f marks)

-- n quads are kept by the marks of the filters; of these, the fates and records stand in the workspace, whatever the filters left in it
pub record Fated (i : Input) (n : ℕ) (before after : List ℕ) : Type 0 where
  pub marks : List ℕ
  pub marked : Marked (filtering i) marks
  pub count : n ≡ length (kept_of (filtering i) marks)
  pub mid : List ℕ
  pub len : length mid ≡ length before
  pub computed : Computed (max n (length i.xs)) (words_of (kept_of (filtering i) marks)) n i.params.labels mid after

-- so many components, and entries in them, are what the fates in the workspace give
abbrev pub CountedFates : (corners : ℕ) → FrameCounts → List ℕ → Type 0
CountedFates corners counts work = Counted (out_to work (max counts.quads corners) counts.quads counts.quads) counts.quads counts.totals.components counts.totals.entries
