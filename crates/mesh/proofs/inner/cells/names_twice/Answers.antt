-- `names_twice` is the definition of its name: some corner is named before it.
use mathlib.Core.Path.{refl}
use borrow.Author.Rules.{rules}
use Rattle.std.proofs.Common.{tests}
use Rattle.mesh.specs.Cells.{names_twice}
use Rattle.mesh.proofs.Some.{some_from_any}
use Rattle.mesh.proofs.inner.cells.names_twice.Goals as goal

pub returns : goal.returns
unfolding names_twice
returns c = some_from_any c.args.size _ _ _ _ c.any.ensures.ran refl (λ x b q k. search (rules, tests))
