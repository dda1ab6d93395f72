-- What emission asks of the workspace, and what its parts leave in the lists that it writes.
use Rattle.std.specs.Prelude.{◌≡◌, true, List, ◌++◌, ℕ, ◌+◌, ◌*◌, ◌≤◌, ◌<◌, length, take, drop}
use Rattle.cells.specs.Listed.{Entry}
use Rattle.cells.specs.Holes.{height}
use Rattle.mesh.specs.Lists.{most_quads}
use Rattle.fates.specs.declared.Run.{Run}
use Rattle.fates.specs.inner.Fates.{key_in}
use Rattle.fates.specs.inner.FateWords.{fate_at}
use Rattle.fates.specs.Judged.{is_kept}
use Rattle.fates.specs.inner.Index.{runs_at}
use Rattle.walk.specs.inner.Emitted.{entries_of}
use Rattle.walk.specs.Call.{entry_words, all_entries, component_words}

-- a run of records, no more than four for each quad, whose keys are those of two words, the first of them not 0, and ascend
pub record Ascending (w : List ℕ) (run : Run) : Type 0 where
  pub room : run.at + 2 * run.count ≤ length w
  pub few : run.count ≤ 4 * most_quads
  pub x_not_0 : (k : ℕ) → k < run.count → 32768 ≤ key_in w run.at k
  pub keys : (k : ℕ) → k < run.count → key_in w run.at k < 1073741824
  pub rises : (j k : ℕ) → j < k → k < run.count → key_in w run.at j < key_in w run.at k

-- the fates and runs of n quads stand in the workspace, past the 4 * span words at its front, which are free; the lone records of the kept
-- ones can be written, and their rows fit there
pub record Writable (w : List ℕ) (span n : ℕ) : Type 0 where
  pub room : 4 * span + 27 * n ≤ length w
  pub quads : n ≤ most_quads
  pub few : (s : ℕ) → s < n → (runs_at span n w s).lone.count ≤ 4 * most_quads
  pub kept : (s : ℕ) → s < n → is_kept (fate_at span n w s) ≡ true → Ascending w (runs_at span n w s).lone
  pub past : (s : ℕ) → s < n → 4 * span ≤ (runs_at span n w s).lone.at
  pub rows : (s : ℕ) → s < n → is_kept (fate_at span n w s) ≡ true → height (entries_of w (runs_at span n w s).lone) ≤ 4 * span

-- a list with the words at a place
abbrev pub pasted : ℕ → List ℕ → List ℕ → List ℕ
pasted at words l = take at l ++ (words ++ drop (at + length words) l)

-- so many components and entries of n quads
pub record Counted (out : List (List Entry)) (n components entries : ℕ) : Type 0 where
  pub components_are : components ≡ length out
  pub entries_are : entries ≡ length (all_entries out)
  pub few_components : components ≤ n
  pub few_entries : entries ≤ 4 * most_quads * n

-- two lists with the components and their entries at their fronts, and the rest of both as it was
pub record Written (out : List (List Entry)) (components₀ entries₀ components entries : List ℕ) : Type 0 where
  pub components_are : components ≡ component_words 0 out ++ drop (3 * length out) components₀
  pub entries_are : entries ≡ entry_words (all_entries out) ++ drop (3 * length (all_entries out)) entries₀
