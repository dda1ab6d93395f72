-- `shifted`: two labels differ by the difference of their words, which is no less than zero.
use mathlib.Core.Path.{◌≡◌, ap₂, ◌∙◌}
use Prim.Native.Nat.{◌-◌, ◌<◌}
use native.Mathlib.Omega.{arith}
use lib.IntN.{pos, ◌-ℤ◌}
use mir.Syntax.{w32}
use mir.Val.{SFits, to_z, of_z}
use mir.Facts.{to_z-of_z}
use Rattle.laying.proofs.Reading.{machine_label}
use Rattle.walk.proofs.Above.{difference}
use Rattle.walk.proofs.emit.shifted.Goals as goal
use Rattle.walk.proofs.emit.shifted.Goals.{After-from_word-2}

is : (c : After-from_word-2) → to_z w32 (of_z w32 c.from_word.result) -ℤ to_z w32 (of_z w32 c.from_word-2.result) ≡ pos (c.args.word - c.args.least)
is c =
    let z = c.args in
    ap₂ ◌-ℤ◌ (machine_label _ z.word c.from_word.ensures (omega arith)) (machine_label _ z.least c.from_word-2.ensures (omega arith))
    ∙ difference z.word z.least (omega arith)

fits : (c : After-from_word-2) → SFits w32 (to_z w32 (of_z w32 c.from_word.result) -ℤ to_z w32 (of_z w32 c.from_word-2.result))
fits c =
    let small : c.args.word - c.args.least < 2147483648 = omega arith in
    rw (is c) (record { sfits = small })

pub overflow_sub-result : goal.overflow_sub-result
overflow_sub-result c = fits (goal.at.overflow_sub-result c).After-from_word-2

pub overflow_cast-result : goal.overflow_cast-result
overflow_cast-result c =
    let small : c.args.word - c.args.least < 4294967296 = omega arith in
    rw (to_z-of_z (fits (goal.at.overflow_cast-result c).After-from_word-2), is (goal.at.overflow_cast-result c).After-from_word-2) (tt, record { fits = small })

pub returns : goal.returns
returns c = rw (to_z-of_z (fits (goal.at.returns c).After-from_word-2), is (goal.at.returns c).After-from_word-2)
