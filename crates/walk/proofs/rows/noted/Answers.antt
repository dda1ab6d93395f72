-- `noted` goes by whether the row has a record.
use borrow.Author.Tests.{eq-eqb, ne_eqb}
use Rattle.walk.proofs.rows.noted.Goals as goal

pub returns-then-word-eq0 : goal.returns-then-word-eq0
returns-then-word-eq0 c = rw (eq-eqb _ _ c.if-word-eq0.true)

pub returns : goal.returns
returns c = rw (ne_eqb _ _ c.if-word-eq0.false)
