-- `named_before` is "some j below i".
use mathlib.Core.Path.{refl}
use borrow.Author.Rules.{rules}
use Rattle.std.proofs.Common.{tests}
use Rattle.mesh.proofs.Some.{some_from_any}
use Rattle.mesh.proofs.inner.cells.named_before.Goals as goal

pub returns : goal.returns
returns c = some_from_any c.args.i _ _ _ _ c.any.ensures.ran refl (λ x b q k. search (rules, tests))
