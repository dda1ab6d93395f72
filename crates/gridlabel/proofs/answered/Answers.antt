-- `answered` answers the text that was read, which is the input's answer.
use Rattle.std.proofs.Common.{arith}
use Rattle.gridlabel.proofs.Inputs.{answer_some, input_answered}
use Rattle.gridlabel.proofs.answered.Goals as goal

pub returns : goal.returns
returns c =
    let is = c.answer.ensures in
    let a = is.answers c.requires.2 in
    (input_answered c.args.list.now c.args.n _ c.requires.0 a, omega (arith, answer_some a, is.whole), (is.within, is.whole))
