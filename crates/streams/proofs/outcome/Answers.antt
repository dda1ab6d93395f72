-- `outcome` tells by three tests what `outcome_of` tells by cases.
use mir.Facts.{to_z-of_z}
use Rattle.streams.proofs.Outcomes.{interrupted, failed, nothing, some}
use Rattle.streams.proofs.outcome.Goals as goal

pub returns-then-error-eq-EINTR : goal.returns-then-error-eq-EINTR
returns-then-error-eq-EINTR c = interrupted _ _ _ (rw (to_z-of_z c.ranges.got) at c.if-got-lt0.true) c.ranges.error c.if-error-eq-EINTR.true

pub returns-then-got-lt0 : goal.returns-then-got-lt0
returns-then-got-lt0 c = failed _ _ _ (rw (to_z-of_z c.ranges.got) at c.if-got-lt0.true) c.ranges.error c.if-error-eq-EINTR.false

pub returns-then-n-eq0 : goal.returns-then-n-eq0
returns-then-n-eq0 c = nothing _ _ _ _ (rw (to_z-of_z c.ranges.got) at c.if-got-lt0.false) (rw (to_z-of_z c.ranges.got) at c.count-n.ensures.value) c.if-n-eq0.true

pub returns : goal.returns
returns c = some _ _ _ _ (rw (to_z-of_z c.ranges.got) at c.if-got-lt0.false) (rw (to_z-of_z c.ranges.got) at c.count-n.ensures.value) c.if-n-eq0.false
