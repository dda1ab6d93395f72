-- `prepare`: what each routine leaves, put together.
use native.Mathlib.Omega.{arith}
use Rattle.words.proofs.Regions.{filled_zero}
use Rattle.fates.proofs.Members.{counted_in}
use Rattle.fates.proofs.Ready.{front_zero, ready}
use Rattle.fates.proofs.prepare.prepare.Goals as goal

pub returns : goal.returns
returns c =
    ready _ _ _ c.args.sheet.given _ _ c.requires c.list_groups.ensures _ _ c.tell_runs.ensures c.move_groups.ensures _ _ _ (counted_in _ _ _ _ (omega arith) c.count_members.ensures)
    (front_zero _ _ _ (omega arith) (c.fill.ensures.after (λ y e. e)))
    (filled_zero _ _ _ _ (omega arith) (c.fill-2.ensures.after (λ y e. e)))
