-- `hex` is `hex_of`, digit by digit.
use borrow.Author.Rules.{rules}
use Rattle.vectors.proofs.hex.Goals as goal

pub returns : goal.returns
returns c = (cc, search rules)
