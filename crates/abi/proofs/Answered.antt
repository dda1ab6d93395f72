-- What is told of the filters is determined, and so are both lists after it. Assumes nothing.
use mathlib.Core.Path.{◌≡◌, sym, ap, ◌∙◌}
use mathlib.Core.List.{List}
use Prim.Native.Nat.{ℕ}
use Rattle.filter.specs.Input.{Input}
use Rattle.filter.specs.Call.{Outcome, filtered_told}
use Rattle.filter.proofs.Determined as filtered
use Rattle.abi.specs.declared.Count.{Count}
use Rattle.abi.specs.Answers.{count_from, FilterTold}

pub determined : (i : Input) (work kept : List ℕ) (t u : Count) (w v k l : List ℕ) → FilterTold i work kept t w k → FilterTold i work kept u v l → (t ≡ u) × (w ≡ v) × (k ≡ l)
determined i work kept t u w v k l p q =
    let same = filtered.determined i work kept _ _ p.allowed q.allowed in
    (p.tells ∙ ap (λ (o : Outcome). count_from (filtered_told o.answer)) same ∙ sym q.tells, ap (λ (o : Outcome). o.work) same, ap (λ (o : Outcome). o.kept) same)
