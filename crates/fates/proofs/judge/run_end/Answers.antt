-- `run_end`: the first record that is not of quad s, or the end of the table.
use mathlib.Core.Path.{◌≡◌}
use mathlib.Core.Logic.{◌≢◌}
use Prim.Native.Nat.{ℕ}
use borrow.Author.Rules.{rules}
use borrow.Author.Tests.{tests}
use Rattle.std.proofs.lemmas.Iterator.{first_from_Range}
use Rattle.fates.specs.inner.Fates.{seed_in}
use Rattle.fates.proofs.Stretches.{stretch_found}
use Rattle.fates.proofs.judge.run_end.Goals as goal

pub returns : goal.returns
returns c =
    let z = c.args in
    rw c.unwrap_or.ensures (stretch_found _ c.requires.0 c.requires.1 (first_from_Range _ _ _ c.find.result (λ (i : ℕ). seed_in z.work.now z.at i ≢ z.s) (λ (i : ℕ). seed_in z.work.now z.at i ≡ z.s)
    c.find.ensures.ran (λ x q k. search (rules, tests)) (λ x q k. search (rules, tests))))
