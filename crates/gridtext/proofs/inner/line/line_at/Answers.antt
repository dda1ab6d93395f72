-- `line_at` takes a line field by field. The loop's invariant: the first i fields are taken.
use Rattle.gridtext.specs.inner.Read.{LineAt}
use Rattle.gridtext.proofs.Fields.{pair_there, pair_not}
use Rattle.gridtext.proofs.Taking.{passed_none, no_letter, field_missing, room_more, passed_more, passed_all}
use Rattle.gridtext.proofs.inner.line.line_at.Goals as goal

pub returns-then-not-pair_at : goal.returns-then-not-pair_at
returns-then-not-pair_at c = LineAt.nothing (no_letter (rw c.letter.ensures at (pair_not c.pair_at.ensures c.if-not-pair_at.true)))

pub loop-i-init : goal.loop-i-init
loop-i-init c = passed_none _ (rw c.letter.ensures at (pair_there c.pair_at.ensures c.if-not-pair_at.false))

pub returns-in_err-few : goal.returns-in_err-few
returns-in_err-few c =
    let e = c.kinds-kinds.ensures in
    let none = field_missing c.loop-i.invariant (rw e at c.loop-i-test.true) (rw e at c.end_of.ensures) (rw e at c.in_err-few.ensures) in
    rw c.from_residual.ensures (LineAt.nothing none)

pub put_words-n-requires : goal.put_words-n-requires
put_words-n-requires c =
    let e = c.kinds-kinds.ensures in
    room_more c.loop-i.invariant (rw e at c.loop-i-test.true) (rw e at c.in_ok-few.ensures)

pub loop-i-preserved : goal.loop-i-preserved
loop-i-preserved c =
    let e = c.kinds-kinds.ensures in
    let p = c.put_words-n.ensures in
    passed_more c.loop-i.invariant (rw e at c.loop-i-test.true) _ (rw e at c.end_of.ensures) (rw e at c.in_ok-few.ensures) p.0 p.1

pub returns : goal.returns
returns c = passed_all c.loop-i.invariant (rw c.kinds-kinds.ensures at c.loop-i-test.false)
