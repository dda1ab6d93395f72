-- `lines_at` reads a run of lines. The loop's invariant: those that were read stand, with their words laid.
use mathlib.Core.Path.{refl}
use native.Mathlib.Omega.{arith}
use Rattle.std.proofs.lemmas.Slice.{put_mid-paste}
use Rattle.gridtext.proofs.Runs.{room_left, far_none, far_ends, far_more, line_missing}
use Rattle.gridtext.proofs.inner.lines.lines_at.Goals as goal

pub loop-count-init : goal.loop-count-init
loop-count-init c = let a = c.args in far_none a.sort a.most a.text.now a.at a.out.now c.requires.0

pub returns-in_default : goal.returns-in_default
returns-in_default c = far_ends c.loop-count.invariant (λ l. line_missing c.in_default.ensures)

pub loop-count-preserved : goal.loop-count-preserved
loop-count-preserved c =
    let e = c.size-size.ensures in
    let part = c.copy_from_slice.new.self in
    let copied = c.copy_from_slice.ensures in
    let l = c.loop-count.invariant in
    let h = c.loop-count-test.true in
    far_more l _ _ _ h c.in-Some.ensures (rw e at copied.after) (room_left l h c.requires.1)
    (rw (← e) (put_mid-paste _ _ _ _ part c.size-size.result refl (omega arith) (omega (arith, copied.len))))
