-- `work_gate` is row 8 by the words that a frame wants.
use Rattle.frame.proofs.inner.work_gate.Goals as goal

pub returns : goal.returns
returns c = rw (c.work_row.ensures, c.frame_words.ensures)
