-- `word_at` is the definition of its name: its test asks whether the eight digits stand in the text.
use borrow.Author.Tests.{le-leb, lt-leb}
use Prim.Native.Nat.{◌+◌, ◌<◌}
use lib.ListN.{length}
use native.Mathlib.Omega.{arith}
use Rattle.vectors.specs.Hex.{word_at}
use borrow.Author.Rules.{rules}
use Rattle.vectors.proofs.word_at.Goals as goal
use Rattle.vectors.proofs.word_at.Goals.{then-text-lt8-via-then-text-lt8, then-text-lt8-via-else-text-lt8+then-text-at}

pub returns-then-text-lt8 : goal.returns-then-text-lt8
unfolding word_at
returns-then-text-lt8 c =
    let a = c.args in
    let short : length a.text.now < a.at + 8 =
    elim c.then-text-lt8.branch [ then-text-lt8-via-then-text-lt8 w ↦ omega arith | then-text-lt8-via-else-text-lt8+then-text-at w ↦ omega arith ] in
    rw (lt-leb (a.at + 8) (length a.text.now) short)

pub returns : goal.returns
unfolding word_at
returns c =
    let a = c.args in
    rw (le-leb (a.at + 8) (length a.text.now) (omega arith)) (search rules)
