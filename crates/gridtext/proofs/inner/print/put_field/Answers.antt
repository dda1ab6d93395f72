-- `put_field` prints a blank, and the number after it.
use Rattle.gridtext.proofs.Printing.{printed_then}
use Rattle.gridtext.proofs.inner.print.put_field.Goals as goal

pub returns : goal.returns
returns c = printed_then c.put_bytes-next.ensures c.put_number.ensures
