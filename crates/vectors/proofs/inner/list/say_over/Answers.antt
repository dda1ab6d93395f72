-- `say_over`: each turn takes the word that stands `given` before it.
use mathlib.Core.Path.{refl, ◌∙◌}
use Prim.Native.Nat.{◌-◌}
use native.Mathlib.Omega.{arith}
use lib.ListN.{get_or}
use lib.Seq.{get_or-set_other}
use Rattle.vectors.proofs.Laying.{laid_more}
use Rattle.vectors.proofs.Over.{over_given, over_next}
use Rattle.vectors.proofs.inner.list.say_over.Goals as goal

pub loop-i-init : goal.loop-i-init
loop-i-init c = (over_given _ _, λ k h. refl)

pub loop-i-preserved : goal.loop-i-preserved
loop-i-preserved c =
    let l = c.loop-i in (
      laid_more _ l.invariant.0 (omega (arith, l.invariant.0.len)) (over_next _ (omega arith) l.invariant.0),
      λ k h. get_or-set_other l.list l.i k (get_or l.list (l.i - c.args.given) 0) 0 (omega arith) ∙ l.invariant.1 k h,
    )
