-- What is told of the labelling is determined (`determined`), and so are the three lists after it; of a whole frame likewise
-- (`frame_determined`): the calls have one outcome each. Assumes nothing.
use mathlib.Core.Path.{◌≡◌, sym, ap, ◌∙◌}
use mathlib.Core.List.{List}
use Prim.Native.Nat.{ℕ}
use Rattle.walk.specs.Input.{Input}
use Rattle.walk.specs.Call.{Outcome, labelled_told}
use Rattle.walk.proofs.Determined as labelled
use Rattle.frame.specs.Stages as frame
use Rattle.frame.proofs.Determined as framed
use Rattle.abi.specs.declared.Counts.{Counts}
use Rattle.abi.specs.Answers.{counts_from, CountsTold, LabelTold, FrameTold}

-- where one outcome is allowed, one thing is told
told_once : (allows : Outcome → Type 0) → ((o p : Outcome) → allows o → allows p → o ≡ p) → (t u : Counts) (w v c d e f : List ℕ) → CountsTold allows t w c e → CountsTold allows u v d f → (t ≡ u) × (w ≡ v) × (c ≡ d) × (e ≡ f)
told_once allows one t u w v c d e f p q =
    let same = one _ _ p.allowed q.allowed in
    (p.tells ∙ ap (λ (o : Outcome). counts_from (labelled_told o.answer)) same ∙ sym q.tells, ap (λ (o : Outcome). o.work) same, ap (λ (o : Outcome). o.components) same, ap (λ (o : Outcome). o.entries) same)

pub determined : (i : Input) (work components entries : List ℕ) (t u : Counts) (w v c d e f : List ℕ) → LabelTold i work components entries t w c e → LabelTold i work components entries u v d f → (t ≡ u) × (w ≡ v) × (c ≡ d) × (e ≡ f)
determined i work components entries = told_once _ (labelled.determined i work components entries)

pub frame_determined : (i : frame.Input) (work components entries : List ℕ) (t u : Counts) (w v c d e f : List ℕ) → FrameTold i work components entries t w c e → FrameTold i work components entries u v d f → (t ≡ u) × (w ≡ v) × (c ≡ d) × (e ≡ f)
frame_determined i work components entries = told_once _ (framed.determined i work components entries)
