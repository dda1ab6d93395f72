-- A record that names no corner twice has different ones. Assumes nothing.
use mathlib.Core.Path.{◌≡◌, sym, ◌∙◌}
use mathlib.Core.Bool.{false, false≢true}
use mathlib.Core.List.{List}
use Prim.Native.Nat.{ℕ, ◌+◌, ◌*◌, ◌<◌}
use borrow.Author.Tests.{eq-eqb}
use lib.Dec.{eqb}
use lib.ListN.{get_or}
use Rattle.mesh.specs.Cells.{some, names_twice}
use Rattle.mesh.proofs.Some.{some_hit}

pub corners_differ : (size : ℕ) (cells : List ℕ) (r j k : ℕ) → names_twice size cells r ≡ false → j < k → k < size → get_or cells (r * size + j) 0 ≡ get_or cells (r * size + k) 0 → ⊥
unfolding names_twice
corners_differ size cells r j k clear l h e =
    let same = eq-eqb (get_or cells (r * size + j) 0) (get_or cells (r * size + k) 0) e in
    let before = some_hit k j (λ (j : ℕ). eqb (get_or cells (r * size + j) 0) (get_or cells (r * size + k) 0)) l same in
    let twice = some_hit size k (λ (i : ℕ). some i (λ (j : ℕ). eqb (get_or cells (r * size + j) 0) (get_or cells (r * size + i) 0))) h before in
    false≢true (sym clear ∙ twice)
