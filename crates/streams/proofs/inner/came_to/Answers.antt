-- `came_to` counts what an answer counts, and takes an error by its number.
use Rattle.streams.proofs.Known.{counted, failed}
use Rattle.streams.proofs.inner.came_to.Goals as goal

pub returns-in-Ok : goal.returns-in-Ok
returns-in-Ok c = rw c.in-Ok.is (let h = rw c.in-Ok.is at c.requires in counted _ _ _ c.outcome.ensures h.0 h.1)

pub returns-in-Err : goal.returns-in-Err
returns-in-Err c = rw c.in-Err.is (_, failed _ _ _ c.outcome-in-Err.ensures)
