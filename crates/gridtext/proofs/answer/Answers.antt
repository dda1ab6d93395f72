-- `answer` is the program's answer: the first bad line, or what becomes of the frame read; and nothing in a list without room for it.
use Rattle.gridtext.specs.Gridlabel.{Answers}
use Rattle.gridtext.proofs.Answering.{answered, unanswered, read_bad, read_frame}
use Rattle.gridtext.proofs.answer.Goals as goal

pub returns-then-out-lt-MOST_TEXT : goal.returns-then-out-lt-MOST_TEXT
returns-then-out-lt-MOST_TEXT c = unanswered c.if-out-lt-MOST_TEXT.true

pub labelled-requires : goal.labelled-requires
labelled-requires c = let r = read_frame c.in-Ok.ensures in ((r.frame, r.standing), c.if-out-lt-MOST_TEXT.false)

pub returns-in-Err : goal.returns-in-Err
returns-in-Err c = answered c.if-out-lt-MOST_TEXT.false (Answers.bad _ (read_bad c.in-Err.ensures)) c.print_bad.ensures

pub returns-in-Ok : goal.returns-in-Ok
returns-in-Ok c = let r = read_frame c.in-Ok.ensures in c.labelled.ensures r.frame r.standing _ r.reads
