-- Of the first m quads of a list those kept by marks that stand in the workspace: what is left is `Sifted`. Assumes nothing.
use mathlib.Core.Path.{◌≡◌, sym, ap, ◌∙◌}
use mathlib.Core.List.{List, ◌++◌}
use Prim.Native.Nat.{ℕ, ◌*◌, ◌≤◌}
use native.Mathlib.Omega.{arith}
use lib.ListN.{length, get_or, take, drop}
use lib.Seq.{length-take-le, get_or-take}
use Rattle.quads.specs.Call.{words_of}
use Rattle.filter.specs.Input.{Input, quad_count}
use Rattle.filter.specs.Marks.{kept_to, kept_of}
use Rattle.filter.specs.inner.Steps.{Judged}
use Rattle.filter.proofs.Kept.{kept_same}
use Rattle.frame.specs.inner.Steps.{Sifted}
use Rattle.frame.proofs.Fronts.{front_put}

-- the filters read the front
module _ (f : Input) (quads : List ℕ) (m : ℕ) (front : f.quads ≡ take (4 * m) quads) (room : 4 * m ≤ length quads) where
  pub front_count : quad_count f ≡ m
  front_count = omega (arith, ap length front, length-take-le (4 * m) quads room)

  pub sifted : (work mid after : List ℕ) (n : ℕ) → Judged f work mid → n ≡ length (kept_to quads (λ (q : ℕ). get_or mid q 0) m)
      → after ≡ words_of (kept_to quads (λ (q : ℕ). get_or mid q 0) m) ++ drop (4 * n) quads → Sifted f n after
  unfolding kept_of
  sifted work mid after n j counted wrote =
      let mark : ℕ → ℕ = λ q. get_or j.marks q 0 in
      let same : kept_to quads (λ (q : ℕ). get_or mid q 0) m ≡ kept_of f j.marks =
      kept_same quads f.quads (λ (q : ℕ). get_or mid q 0) mark m (λ k h. sym (ap (λ (l : List ℕ). get_or l k 0) front ∙ get_or-take (4 * m) quads k 0 h)) (λ q h. j.held q (omega (arith, front_count)))
      ∙ ap (kept_to f.quads mark) (sym front_count) in
      record { marks = j.marks; marked = j.marked; count = counted ∙ ap length same; front = front_put _ n after counted _ wrote ∙ ap words_of same }
