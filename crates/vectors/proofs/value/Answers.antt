-- `value` is `value_of`: the number of a digit, and 0 for any other byte.
use Rattle.vectors.proofs.Round.{counted}
use Rattle.vectors.proofs.value.Goals as goal

pub returns : goal.returns
returns c = counted _ _ c.value.ensures c.unwrap_or.ensures
