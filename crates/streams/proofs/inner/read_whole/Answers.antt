-- What ends a reader leaves what it has at the front of the list.
use Rattle.std.proofs.Common.{◌≡◌, ◌-◌, length, arith, rules, ◌∙◌}
use borrow.Rule.Slice.PartMut.{mid_len, same_len_mid}
use Rattle.streams.proofs.Known.{ended_reader, mapped, more_read}
use Rattle.streams.proofs.inner.read_whole.Goals as goal

pub loop-at-preserved : goal.loop-at-preserved
loop-at-preserved g c =
    let at = c.loop-at.at in
    let list = c.loop-at.list in
    let few = c.in-Some.ensures.within in
    let long : length c.read_some-came.new.part ≡ length list - at = c.read_some-came.auto.part ∙ mid_len at (length list) list (omega arith) in
    let same = same_len_mid at (length list - at) list c.read_some-came.new.part c.read_some-came.auto.part in
    (search rules, omega (arith, same, few, long), more_read _ _ _ at _ c.in-Some.n list _ (omega arith) (omega (arith, few, long)) c.loop-at.invariant.2 c.in-Some.ensures.bytes)

pub returns-in_default : goal.returns-in_default
returns-in_default g c =
    let at = c.loop-at.at in
    let list = c.loop-at.list in
    let long : length c.read_some-came.new.part ≡ length list - at = c.read_some-came.auto.part ∙ mid_len at (length list) list (omega arith) in
    let same = same_len_mid at (length list - at) list c.read_some-came.new.part c.read_some-came.auto.part in
    let whole = mapped _ _ _ _ _ _ (rw c.ended.ensures at c.map_err.ensures.cases) (ended_reader _ _ _ _ at _ list _ (omega arith) c.loop-at.invariant.2 c.read_some-came.ensures.bytes (omega (arith, long)) same) in
    record { front = whole.0; bytes = whole.1 }
