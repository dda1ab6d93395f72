-- `note_rows`: the rows' words are those of the first k records.
use Rattle.walk.specs.inner.Rows.{Noted}
use Rattle.walk.proofs.emit.note_rows.Given as goal

abbrev pub invariant-loop-k : goal.invariant-loop-k
invariant-loop-k l = Noted l.initial.work l.work l.run l.k
