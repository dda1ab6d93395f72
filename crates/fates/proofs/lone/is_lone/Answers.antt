-- `is_lone`: by its two neighbours.
use native.Mathlib.Omega.{arith}
use borrow.Author.Tests.{eq-eqb}
use Rattle.std.proofs.lemmas.Bool.Decides.{not_from_Decides}
use Rattle.fates.proofs.Singles.{single_by_neighbours, single_by_next}
use Rattle.fates.proofs.lone.is_lone.Goals as goal

pub returns-then-k-m : goal.returns-then-k-m
returns-then-k-m c = (λ e. single_by_neighbours _ _ _ c.requires.seed_order _ (omega arith) (not_from_Decides _ c.follows.ensures c.if-not-follows.true) (λ l. absurd (omega arith)), λ s. eq-eqb _ _ c.if-k-m.true)

pub returns-else-k-m : goal.returns-else-k-m
returns-else-k-m c = single_by_next _ _ _ c.requires.seed_order _ (omega arith) (not_from_Decides _ c.follows.ensures c.if-not-follows.true) c.follows-else-k-m.ensures
