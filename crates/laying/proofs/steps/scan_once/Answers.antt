-- `scan_once`: a flag that is set tells that all is met; else the scan goes, and the flag is set.
use Rattle.std.proofs.Common.{refl, arith}
use Rattle.laying.specs.inner.Layout.{flag_of, sense, Scanned}
use Rattle.laying.specs.inner.Invariant.{Met}
use Rattle.laying.proofs.Stepping.{reached_at}
use Rattle.laying.proofs.Parts.{went_none}
use Rattle.laying.proofs.Once.{scanned_at}
use Rattle.laying.proofs.steps.scan_once.Goals as goal

pub returns-then-flag-sense-eq1 : goal.returns-then-flag-sense-eq1
returns-then-flag-sense-eq1 c =
    let s = c.args.sheet in
    let h : Scanned (flag_of s.span s.count c.args.work.now c.args.e) (sense s.quads.now c.args.e) = rw c.sense-sense.ensures at c.if-flag-sense-eq1.true in
    went_none (λ _. Met s.quads.now s.count c.args.e) c.requires.state (c.requires.state.flags.met c.args.e c.requires.e_bound.0 (reached_at c.requires.state (omega (arith, c.requires.e_bound.0)) c.requires.marked) h)

pub returns : goal.returns
returns c =
    let s = c.args.sheet in
    let q = c.requires in
    let unset : Scanned (flag_of s.span s.count c.args.work.now c.args.e) (sense s.quads.now c.args.e) → ⊥ = rw c.sense-sense.ensures at c.if-flag-sense-eq1.false in
    scanned_at s.span _ _ _ _ _ _ _ c.args.e s.given q.e_bound.1 q.e_bound.0 q.state.flags (reached_at q.state (omega (arith, q.e_bound.0)) q.marked) unset c.in_ok-t.ensures _ _ refl c.sense-sense.ensures
