-- `count_kept`: the marks at the front that are 0.
use mathlib.Core.Path.{◌≡◌, ◌∙◌}
use Prim.Native.Nat.{ℕ}
use lib.Dec.{eqb}
use lib.ListN.{take}
use Rattle.std.specs.List.{count_by}
use borrow.Author.Rules.{rules}
use Rattle.filter.proofs.Kept.{zeros_counted}
use Rattle.filter.proofs.inner.count_kept.Goals as goal

pub returns : goal.returns
returns c =
    let e : c.count.result ≡ count_by (λ (x : ℕ). eqb x 0) (take c.args.n c.args.work.now) = search rules in
    e ∙ zeros_counted c.args.work.now c.args.n c.requires
