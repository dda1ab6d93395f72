-- A run of the side table is of one group: sides with one run have the same two corners, so their quads are neighbours. A walk sets flags
-- of its own group's runs alone, and leaves another group's unscanned. Assumes nothing.
use mathlib.Core.Path.{◌≡◌, refl, sym, ap, ◌∙◌}
use mathlib.Core.Logic.{◌≢◌, ◌⊎◌, inl, inr}
use mathlib.Core.List.{List}
use Prim.Native.Nat.{ℕ, ◌+◌, ◌*◌, ◌/◌, ◌<◌}
use native.Mathlib.Omega.{arith}
use lib.ListN.{get_or}
use Rattle.cells.specs.Cells.{cell, Touch, everyone, Neighbours}
use Rattle.cells.specs.Cells.Touch.{alike, opposite}
use Rattle.cells.specs.Groups.{Groups}
use Rattle.cells.specs.Kind.{Reached}
use Rattle.cells.specs.Quads.{quads}
use Rattle.cells.proofs.Groups.{linked_equal}
use Rattle.cells.proofs.Keys.{equal_ends}
use Rattle.cells.proofs.Squares.{quad_laws}
use Rattle.cells.proofs.Unique.{reached_linked}
use Rattle.laying.specs.inner.Layout.{key_at, run_of, flags_at, side_start, side_end, Given, Table, Unscanned}
use Rattle.laying.proofs.Facing.{side_of, corner_below}

-- what is reached from a quad has its number
pub reached_number : {cells : List ℕ} {n : ℕ} {number : ℕ → ℕ} {s q : ℕ} → Groups (Neighbours 4 cells everyone) n number → Reached quads cells s q → number s ≡ number q
reached_number {cells} g r = linked_equal g (reached_linked quads quad_laws cells r)

module _ {span : ℕ} {cells : List ℕ} {n : ℕ} {w : List ℕ} (given : Given span cells n) (table : Table span cells n w) where
  one_run_touch : (e f : ℕ) → e < 4 * n → f < 4 * n → run_of span n w e ≡ run_of span n w f → Touch 4 (cell 4 cells (e / 4)) (cell 4 cells (f / 4))
  one_run_touch e f he hf s = go (equal_ends (side_start cells e) (side_end cells e) (side_start cells f) (side_end cells f) (small e e he) (small e (e + 1) he) (small f f hf) (small f (f + 1) hf)
      (sym (table.key e he) ∙ ap (key_at span w) s ∙ table.key f hf))
    where
      small : (e k : ℕ) → e < 4 * n → cell 4 cells (e / 4) k < 4096
      small e k h = omega (arith, corner_below given (e / 4) k (omega arith), given.most)

      go : ((side_start cells e ≡ side_start cells f) × (side_end cells e ≡ side_end cells f)) ⊎ ((side_start cells e ≡ side_end cells f) × (side_end cells e ≡ side_start cells f)) → Touch 4 (cell 4 cells (e / 4)) (cell 4 cells (f / 4))
      go (inl t) = alike (side_of cells e) (rw (t.0, t.1) (side_of cells f))
      go (inr t) = opposite (side_of cells e) (rw (t.0, t.1) (side_of cells f))

  pub one_run_number : {number : ℕ → ℕ} → Groups (Neighbours 4 cells everyone) n number → (e f : ℕ) → e < 4 * n → f < 4 * n → run_of span n w e ≡ run_of span n w f → number (e / 4) ≡ number (f / 4)
  one_run_number g e f he hf s = g.together (e / 4) (f / 4)
      (record { from = omega (arith, given.whole); to = omega (arith, given.whole); from_among = refl; to_among = refl; touch = one_run_touch e f he hf s })

  -- where only flags of the runs of what is reached from s have changed, a group of another number is as unscanned as it was
  pub other_unscanned : {number : ℕ → ℕ} {s q : ℕ} {ys : List ℕ} → Groups (Neighbours 4 cells everyone) n number → number s ≢ number q
      → ((e : ℕ) → e < 4 * n → run_of span n ys e ≡ run_of span n w e)
      → ((k : ℕ) → k < 4 * n → ((e : ℕ) → e < 4 * n → Reached quads cells s (e / 4) → k ≢ run_of span n w e) → get_or ys (flags_at span n + k) 0 ≡ get_or w (flags_at span n + k) 0)
      → Unscanned span cells n q w → Unscanned span cells n q ys
  other_unscanned {number} {s} {q} {ys} g apart runs flags u = record { none = λ e h r. ap (λ (z : ℕ). get_or ys (flags_at span n + z) 0) (runs e h) ∙ flags (run_of span n w e) (table.runs e h) (λ f l t same. clash e h r f l t same) ∙ u.none e h r }
    where
      clash : (e : ℕ) → e < 4 * n → Reached quads cells q (e / 4) → (f : ℕ) → f < 4 * n → Reached quads cells s (f / 4) → run_of span n w e ≡ run_of span n w f → ⊥
      clash e h r f l t same = apart (reached_number g t ∙ sym (one_run_number g e f h l same) ∙ sym (reached_number g r))
