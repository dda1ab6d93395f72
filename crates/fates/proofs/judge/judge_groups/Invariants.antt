-- `judge_groups`: the quads below s are judged, and the runs of quad s begin at i and j.
use Rattle.fates.specs.inner.Fates.{records_at, lone_at}
use Rattle.fates.specs.inner.Judging.{Cursor, Judges}
use Rattle.fates.proofs.judge.judge_groups.Given as goal

abbrev pub invariant-loop-s : goal.invariant-loop-s
invariant-loop-s l = Judges l.span l.n l.params l.all l.m l.s l.initial.work l.work × Cursor l.initial.work (records_at l.span l.n) l.all l.s l.i × Cursor l.initial.work (lone_at l.span) l.m l.s l.j
