-- The components as the workspace says them once every quad has its fate: of each quad that is kept, its run of lone records as entries;
-- proofs/ shows that they are those of the definitions.
use Rattle.std.specs.Prelude.{cond, List, [], ◌∷◌, ◌++◌, ℕ, zero, suc, ◌-◌, ◌/◌, ◌%◌, min}
use Rattle.cells.specs.Listed.{Entry}
use Rattle.fates.specs.declared.Run.{Run}
use Rattle.fates.specs.inner.Fates.{key_in, corner_in}
use Rattle.fates.specs.inner.FateWords.{fate_at}
use Rattle.fates.specs.Judged.{is_kept}
use Rattle.fates.specs.inner.Index.{runs_at}

-- the least of m numbers, or a number above every word where there is none
unfoldable pub least_of : (ℕ → ℕ) → ℕ → ℕ
least_of f zero = 32768
least_of f (suc m) = min (f m) (least_of f m)

module _ (w : List ℕ) (a : ℕ) where
  abbrev pub x_in : ℕ → ℕ
  x_in k = key_in w a k / 32768

  abbrev pub y_in : ℕ → ℕ
  y_in k = key_in w a k % 32768

  -- record k as an entry, with its words less x0 and y0
  abbrev pub entry_in : ℕ → ℕ → ℕ → Entry
  entry_in x0 y0 k = record { u = x_in k - x0; v = y_in k - y0; corner = corner_in w a k }

  -- an entry for each of the first m records
  unfoldable pub entries_to : ℕ → ℕ → ℕ → List Entry
  entries_to x0 y0 zero = []
  entries_to x0 y0 (suc m) = entries_to x0 y0 m ++ (entry_in x0 y0 m ∷ [])

-- the least words of a run, and its entries
abbrev pub least_x : List ℕ → Run → ℕ
least_x w run = least_of (x_in w run.at) run.count

abbrev pub least_y : List ℕ → Run → ℕ
least_y w run = least_of (y_in w run.at) run.count

abbrev pub entries_of : List ℕ → Run → List Entry
entries_of w run = entries_to w run.at (least_x w run) (least_y w run) run.count

-- the components of the quads below s
unfoldable pub out_to : List ℕ → (span n s : ℕ) → List (List Entry)
out_to w span n zero = []
out_to w span n (suc s) = out_to w span n s ++ cond (is_kept (fate_at span n w s)) (entries_of w (runs_at span n w s).lone ∷ []) []
