-- A group whose fate is told has all that is demanded exactly when it is kept. Assumes nothing.
use mathlib.Core.Path.{◌≡◌, refl}
use mathlib.Core.Bool.{true, false≢true}
use Prim.Native.Nat.{ℕ}
use native.Mathlib.Omega.{arith}
use Rattle.cells.proofs.Squares.{no_crowd}
use Rattle.fates.specs.declared.Fate.{Fate}
use Rattle.fates.specs.Judged.{Becomes, is_kept}
use Rattle.walk.specs.Input.{Input, grouping}
use Rattle.walk.specs.Demanded.{Demanded}
use Rattle.walk.specs.Demanded.Lacks.{few_quads, no_assignment, few_lone}
use Rattle.walk.proofs.Reasons.{some_of, no_more_than, not_both}

module _ (i : Input) (number : ℕ → ℕ) (s : ℕ) where
  pub kept_demanded : (f : Fate) → Becomes i.quads (grouping i number) s f → is_kept f ≡ true → Demanded i number s
  unfolding is_kept
  kept_demanded f (Becomes.not_lowest l) e = absurd (false≢true e)
  kept_demanded f (Becomes.few_quads l b) e = absurd (false≢true e)
  kept_demanded f (Becomes.no_labelling l b r) e = absurd (false≢true e)
  kept_demanded f (Becomes.few_lone l b) e = absurd (false≢true e)
  kept_demanded f (Becomes.kept l b) e = record { enough = l.enough; L = l.L; fits = l.labelling.fits; corners = some_of l.lones b }

  pub demanded_kept : (f : Fate) → Becomes i.quads (grouping i number) s f → number s ≡ s → Demanded i number s → is_kept f ≡ true
  unfolding is_kept
  demanded_kept f (Becomes.not_lowest l) e d = absurd (l e)
  demanded_kept f (Becomes.few_quads l b) e d = absurd (not_both i number s (few_quads b) d)
  demanded_kept f (Becomes.no_labelling l b r) e d = absurd (not_both i number s (no_assignment b (λ L o. r L (no_crowd o))) d)
  demanded_kept f (Becomes.few_lone l b) e d = absurd (not_both i number s (few_lone l.enough l.L l.labelling.fits (λ a. omega (arith, no_more_than l.lones a))) d)
  demanded_kept f (Becomes.kept l b) e d = refl
