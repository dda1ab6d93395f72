-- `is_off_size` is `off_size`: of a median that is not 0, some side is off.
use mathlib.Core.Path.{◌≡◌, refl, ◌∙◌}
use mathlib.Core.Bool.{Bool, true, false, ◌||◌}
use Prim.Native.Nat.{ℕ}
use lib.Ieee.{ne}
use Rattle.std.proofs.lemmas.Iterator.{YieldsList-from_range}
use Rattle.std.proofs.lemmas.Iterator.Search.{any_from_yields_List}
use borrow.Author.Rules.{rules}
use borrow.Author.Tests.{tests}
use Rattle.mesh.specs.Cells.{some}
use Rattle.filter.specs.Size.{off_side, off_size}
use Rattle.filter.specs.inner.Steps.{length_in}
use Rattle.filter.proofs.Literal.{zero_bits}
use Rattle.filter.proofs.standing.Standing.is_off_size.Goals as goal

-- four tests, joined from the right and from the left
four : (a b c d : Bool) → (a || (b || (c || (d || false)))) ≡ (((a || b) || c) || d)
four true b c d = refl
four false true c d = refl
four false false true d = refl
four false false false true = refl
four false false false false = refl

pub returns-then-median : goal.returns-then-median
unfolding off_size some ne
returns-then-median c =
    let s = c.args.self in
    let side : ℕ → Bool = λ (k : ℕ). off_side c.args.params c.args.median (length_in s.work.now s.n s.q k) in
    any_from_yields_List side _ _ _ c.any.ensures.ran (YieldsList-from_range 0 4 4 refl refl) (λ x b q k. search (rules, tests))
    ∙ rw (← zero_bits, c.if-median.true) (four (side 0) (side 1) (side 2) (side 3))

pub returns-else-median : goal.returns-else-median
unfolding off_size ne
returns-else-median c = rw (← zero_bits, c.if-median.false)
