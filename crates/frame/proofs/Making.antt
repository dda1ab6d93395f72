-- The quads made by a class list that was written: what merging asks holds of it, and what merging leaves is `Made`. Assumes nothing.
use mathlib.Core.Path.{◌≡◌, sym, ap, ◌∙◌, subst}
use mathlib.Core.List.{List, ◌++◌}
use Prim.Native.Nat.{ℕ, ◌*◌, ◌≤◌}
use native.Mathlib.Omega.{arith}
use lib.ListN.{length, drop}
use Rattle.std.specs.Prelude.{Ok}
use Rattle.mesh.specs.Lists.{most_quads}
use Rattle.classify.specs.Classes.{classes_of}
use Rattle.quads.specs.Call.{words_of}
use Rattle.quads.specs.Merge as merge
use Rattle.quads.specs.inner.Merging as merge_inner
use Rattle.quads.specs.Merge.{merged_of}
use Rattle.frame.specs.Stages.{Input, classing, merging}
use Rattle.frame.specs.Call.{judge_of}
use Rattle.frame.specs.inner.Steps.{Made}
use Rattle.frame.proofs.Sound.{classing_sound, merging_sound, made_few}
use Rattle.frame.proofs.Fronts.{front_put}

-- what merging reads, by the class list that stands there
abbrev by : Input → List ℕ → merge.Input
by i list = record { xs = i.xs; ys = i.ys; mesh = record { triangles = i.triangles; twins = i.twins; classes = list } }

module _ (i : Input) (list : List ℕ) (classed : list ≡ classes_of (classing i)) where
  pub merge_asks : judge_of i ≡ Ok tt → (words : ℕ) → 4 * most_quads ≤ words → merge_inner.Sound (by i list) × (4 * length (merged_of (by i list)) ≤ words)
  merge_asks through words room =
      subst (λ (l : List ℕ). merge_inner.Sound (by i l) × (4 * length (merged_of (by i l)) ≤ words)) (sym classed)
      (merging_sound i through, omega (arith, made_few i through, (classing_sound i through).edges))

  pub made : (n : ℕ) (before after : List ℕ) → n ≡ length (merged_of (by i list)) → after ≡ words_of (merged_of (by i list)) ++ drop (4 * length (merged_of (by i list))) before → Made i list n after
  made n before after counted wrote =
      let same : merged_of (by i list) ≡ merged_of (merging i) = ap (λ (l : List ℕ). merged_of (by i l)) classed in
      record { classed = classed; count = counted ∙ ap length same; front = front_put (merged_of (by i list)) n after counted _ wrote ∙ ap words_of same }
