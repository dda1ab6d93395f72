-- Each turn appends a part of the text, and the last leaves none to write.
use Rattle.std.proofs.Common.{◌≤◌, ◌+◌, length, arith, refl}
use borrow.Rule.Slice.PartMut.{mid_len}
use Rattle.streams.proofs.Known.{more_written}
use Rattle.streams.proofs.inner.write_whole.Goals as goal

pub loop-at-preserved : goal.loop-at-preserved
loop-at-preserved g c =
    let at = c.loop-at.at in
    let text = c.args.text.now in
    let few = c.in-Some.ensures.within in
    let long = mid_len at (length text) text (omega arith) in
    let within : at + c.in-Some.n ≤ length text = omega (arith, few, long) in
    (within, more_written _ _ _ at _ c.in-Some.n text within refl c.loop-at.invariant.1 c.in-Some.ensures.bytes)
