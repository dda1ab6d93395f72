-- What is printed for what was read is the answer to all of the input.
use Rattle.gridlabel.proofs.Outputs.{all_answered, on_ok}
use Rattle.gridlabel.proofs.run.Goals as goal

pub returns : goal.returns
returns g c = on_ok _ (all_answered _ _ _ _ _ _ _ _ c.map_err-text.ensures.cases c.read_whole.ensures.front c.read_whole.ensures.bytes) c.print.ensures
