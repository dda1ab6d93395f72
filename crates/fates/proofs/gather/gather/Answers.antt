-- `gather`: whatever the least quads and corners, the walks of the seeds passed are underway over the groups of the entry.
use mathlib.Core.Path.{◌≡◌, refl, ◌∙◌}
use native.Mathlib.Omega.{arith}
use Rattle.fates.specs.declared.LabelParams.{LabelParams}
use Rattle.fates.proofs.Fated.{underway_start}
use Rattle.fates.proofs.gather.gather.Goals as goal

-- the walks do not look at these
any : LabelParams
any = record { quads = 0; corners = 0 }

pub loop-seed-init : goal.loop-seed-init
loop-seed-init c = (refl, λ params. underway_start params c.requires.n_in_bounds c.requires.ready)

pub gather_seed-m-requires-clause-begun : goal.gather_seed-m-requires-clause-begun
gather_seed-m-requires-clause-begun c = record { number = _; params = any; underway = c.loop-seed.invariant.1 any }

pub loop-seed-preserved : goal.loop-seed-preserved
loop-seed-preserved c =
    let l = c.loop-seed in
    (c.gather_seed-m.auto.work ∙ l.invariant.0, λ params. c.gather_seed-m.ensures _ params (l.invariant.1 params))

pub returns : goal.returns
returns c =
    let l = c.loop-seed in
    let e : l.seed ≡ c.args.sheet.count = omega arith in
    record { len = l.invariant.0; numbers = (l.invariant.1 any).numbers; gathered = λ params. rw e at (l.invariant.1 params).gathered }
