-- The six words of a quad: what is stored there is read there, and no other word changes. Assumes nothing.
use mathlib.Core.Path.{◌≡◌, ap₂, ◌∙◌}
use mathlib.Core.List.{List}
use Prim.Native.Nat.{ℕ, ◌+◌}
use native.Mathlib.Omega.{arith}
use lib.ListN.{length, get_or, set, length-set}
use Rattle.words.specs.inner.Regions.{Outside}
use Rattle.laying.proofs.Settling.{skip, put}
use Rattle.fates.specs.declared.Fate.{Fate}
use Rattle.fates.specs.declared.Runs.{Runs}
use Rattle.fates.specs.inner.Fates.{fates_at, walked_at}
use Rattle.fates.specs.inner.FateWords.{fate_number, claimed_in, fate_from, fate_at}
use Rattle.fates.specs.inner.Index.{index_at}
use Rattle.fates.specs.inner.Judging.{with_fate, with_runs, Spacious}
use Rattle.fates.proofs.FateWords.{read_back}

module _ (span n s : ℕ) (fate : Fate) (runs : Runs) (xs : List ℕ) (R : Spacious span n s xs) where
  abbrev i : ℕ
  i = index_at span n s

  -- one store after the other
  abbrev first : List ℕ
  first = set xs (fates_at span n + s) (fate_number fate)

  abbrev second : List ℕ
  second = set first (walked_at span n + s) (claimed_in fate)

  abbrev third : List ℕ
  third = set second i runs.lone.at

  abbrev fourth : List ℕ
  fourth = set third (i + 1) runs.lone.count

  abbrev fifth : List ℕ
  fifth = set fourth (i + 2) runs.all.at

  abbrev pub stored : List ℕ
  stored = with_runs span n s runs (with_fate span n s fate xs)

  pub stored_len : length stored ≡ length xs
  stored_len = simp length-set

  -- a word that is not among the quad's runs
  past_runs : (k : ℕ) → Outside i 4 k → get_or stored k 0 ≡ get_or second k 0
  past_runs k o =
      skip fifth (i + 3) runs.all.count k (o 3 (omega arith))
      ∙ skip fourth (i + 2) runs.all.at k (o 2 (omega arith))
      ∙ skip third (i + 1) runs.lone.count k (o 1 (omega arith))
      ∙ skip second i runs.lone.at k (λ e. o 0 (omega arith) (omega arith))

  pub elsewhere : (k : ℕ) → (k ≡ fates_at span n + s → ⊥) → (k ≡ walked_at span n + s → ⊥) → Outside i 4 k → get_or stored k 0 ≡ get_or xs k 0
  elsewhere k f w o = past_runs k o ∙ skip first (walked_at span n + s) (claimed_in fate) k w ∙ skip xs (fates_at span n + s) (fate_number fate) k f

  number_there : get_or stored (fates_at span n + s) 0 ≡ fate_number fate
  number_there = past_runs (fates_at span n + s) (λ j h e. omega (arith, R.small)) ∙ skip first (walked_at span n + s) (claimed_in fate) (fates_at span n + s) (λ e. omega (arith, R.small)) ∙ put xs (fates_at span n + s) (fate_number fate) (omega (arith, R.room, R.small))

  claims_there : get_or stored (walked_at span n + s) 0 ≡ claimed_in fate
  claims_there = past_runs (walked_at span n + s) (λ j h e. omega (arith, R.small)) ∙ put first (walked_at span n + s) (claimed_in fate) (simp length-set (omega (arith, R.room, R.small)))

  pub fate_there : fate_at span n stored s ≡ fate
  fate_there = ap₂ fate_from number_there claims_there ∙ read_back fate

  pub lone_at_lem : get_or stored i 0 ≡ runs.lone.at
  lone_at_lem =
      skip fifth (i + 3) runs.all.count i (λ e. omega arith)
      ∙ skip fourth (i + 2) runs.all.at i (λ e. omega arith)
      ∙ skip third (i + 1) runs.lone.count i (λ e. omega arith)
      ∙ put second i runs.lone.at (simp length-set (omega (arith, R.room, R.small)))

  pub lone_count : get_or stored (i + 1) 0 ≡ runs.lone.count
  lone_count =
      skip fifth (i + 3) runs.all.count (i + 1) (λ e. omega arith)
      ∙ skip fourth (i + 2) runs.all.at (i + 1) (λ e. omega arith)
      ∙ put third (i + 1) runs.lone.count (simp length-set (omega (arith, R.room, R.small)))

  pub all_at : get_or stored (i + 2) 0 ≡ runs.all.at
  all_at = skip fifth (i + 3) runs.all.count (i + 2) (λ e. omega arith) ∙ put fourth (i + 2) runs.all.at (simp length-set (omega (arith, R.room, R.small)))

  pub all_count : get_or stored (i + 3) 0 ≡ runs.all.count
  all_count = put fifth (i + 3) runs.all.count (simp length-set (omega (arith, R.room, R.small)))
