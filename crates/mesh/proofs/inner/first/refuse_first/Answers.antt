-- `refuse_first` is the definition of its name: it ends at the first offender.
use mathlib.Core.Path.{sym, ◌∙◌}
use mathlib.Core.Bool.{false}
use borrow.Author.Count.{below_more}
use native.Mathlib.Nat.{lt_trans}
use native.Mathlib.Omega.{arith}
use Rattle.refusal.proofs.Rows.{refused_here, none_refused}
use Rattle.mesh.proofs.inner.first.refuse_first.Goals as goal

pub loop-k-preserved : goal.loop-k-preserved
loop-k-preserved g c = below_more _ _ c.loop-k.invariant c.if-offends.ensures

pub returns-then-offends : goal.returns-then-offends
returns-then-offends g c = λ bad why tells says.
    let here = c.loop-k-test.true in
    rw (says _ _ here c.fault.ensures)
    (refused_here bad c.args.n c.loop-k.k why (λ k h. sym (tells k false (lt_trans h here) (c.loop-k.invariant k h))) here (sym (tells _ _ here c.offends.ensures) ∙ c.if-offends.true))

pub returns : goal.returns
returns g c = λ bad why tells says. none_refused bad c.args.n c.loop-k.k why (λ k h. sym (tells k false (omega arith) (c.loop-k.invariant k h))) (omega arith) (omega arith)
