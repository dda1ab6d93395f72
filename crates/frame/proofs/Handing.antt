-- From the quads made to the filters: the front of their list is the filters' input, which is sound, and the workspace with the classes at
-- its front has room for their work. Assumes nothing.
use mathlib.Core.Path.{◌≡◌, sym, ap, ◌∙◌, subst}
use mathlib.Core.List.{List, ◌++◌}
use Prim.Native.Nat.{ℕ, ◌*◌, ◌≤◌}
use native.Mathlib.Omega.{arith}
use lib.ListN.{length, take, drop, length-append, length-drop}
use Rattle.std.specs.Prelude.{Ok}
use Rattle.mesh.specs.Lists.{quad_words, frame_words}
use Rattle.filter.specs.Input as filters
use Rattle.filter.specs.inner.Steps.{Sound}
use Rattle.frame.specs.Stages.{Input, filtering}
use Rattle.frame.specs.Call.{judge_of}
use Rattle.frame.specs.inner.Steps.{Made, Sifted}
use Rattle.frame.proofs.Fronts.{front_in}
use Rattle.frame.proofs.Sound.{merging_sound, made_few, filtering_sound}

-- what the filters read, by the quads that stand there
abbrev by : Input → List ℕ → filters.Input
by i quads = record { xs = i.xs; ys = i.ys; quads = quads; params = i.params.filters }

module _ (i : Input) (list : List ℕ) (n : ℕ) (quads : List ℕ) (made : Made i list n quads) where
  -- what the filters leave of the front, they leave of the quads made
  pub sifted_made : (k : ℕ) (kept : List ℕ) → Sifted (by i (take (4 * n) quads)) k kept → Sifted (filtering i) k kept
  sifted_made k kept s = subst (λ (l : List ℕ). Sifted (by i l) k kept) made.front s

  module _ (through : judge_of i ≡ Ok tt) where
    -- the workspace with the classes written at its front
    pub same_work : (work : List ℕ) → length i.triangles ≤ length work → length (list ++ drop (length i.triangles) work) ≡ length work
    same_work work h =
        length-append list (drop (length i.triangles) work)
        ∙ omega (arith, ap length made.classed, (merging_sound i through).mesh.classes, length-drop (length i.triangles) work)

    pub filters_ask : (work : List ℕ) → frame_words (length i.triangles) (length i.xs) ≤ length work
        → Sound (by i (take (4 * n) quads)) × (quad_words n (length i.xs) ≤ length (list ++ drop (length i.triangles) work)) × (4 * n ≤ length quads)
    filters_ask work wide = (
      subst (λ (l : List ℕ). Sound (by i l)) (sym made.front) (filtering_sound i through),
      omega (arith, made.count, made_few i through, same_work work (omega arith)),
      front_in _ n quads made.count made.front,
    )
