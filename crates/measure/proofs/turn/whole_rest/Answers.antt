-- `whole_rest` is the rest by pi: of a float below 2 that float, else so many parts as are left.
use mathlib.Core.Path.{sym, ap, ◌∙◌, subst}
use mathlib.Core.Bool.{false}
use Prim.Native.Nat.{ℕ, ◌-◌, ◌*◌, ◌^◌}
use native.Mathlib.Nat.{mod-lt}
use native.Mathlib.Omega.{arith}
use lib.Dec.{T, lit<}
use lib.Ieee.{binary32, fits, round}
use lib.Ieee.Positive.{positive}
use Rattle.measure.proofs.PatternFloats.{positive_no_nan}
use Rattle.measure.proofs.Whole.{whole_rest_is, own_rest, some_parts}
use Rattle.measure.proofs.turn.whole_rest.Goals as goal
use Rattle.measure.proofs.turn.whole_rest.Goals.{Start}

above : (c : Start) → T (positive c.args.d)
above c = subst T (sym c.requires) tt

held : (c : Start) → T (fits binary32 c.args.d)
held c = subst T (sym c.well_formed.0.1) tt

pub float_to_bits-b : goal.float_to_bits-b
float_to_bits-b c = positive_no_nan _ (above (goal.at.float_to_bits-b c).Start)

pub returns-then-e-lt127 : goal.returns-then-e-lt127
returns-then-e-lt127 c = own_rest c.args.d (held (goal.at.returns-then-e-lt127 c).Start) (above (goal.at.returns-then-e-lt127 c).Start) (omega (arith, c.exponent-e.ensures))

pub returns-else-e-lt127 : goal.returns-else-e-lt127
returns-else-e-lt127 c =
    let start = (goal.at.returns-else-e-lt127 c).Start in
    let is = whole_rest_is c.args.d (held start) (above start) (omega (arith, c.exponent-e.ensures, c.if-e-lt127.false)) in
    let left = rw (c.significand.ensures, c.exponent-e.ensures) at c.parts.ensures in
    let few = mod-lt (c.significand.result * 2 ^ (c.exponent-e.result - 127)) {m = 13176795} (lit< tt) in
    some_parts c.parts.result (omega (arith, few, c.parts.ensures)) ∙ sym (is ∙ ap (λ (r : ℕ). round binary32 false r 4194304) (sym left))
