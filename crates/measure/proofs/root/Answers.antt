-- `root` meets the Root rule, and so is `root_of`: zero is its own root, a float above 0 has the root of its pattern, the rest is refused.
use Rattle.std.specs.Prelude.{Result}
use Rattle.refusal.specs.declared.Refusal.{Refusal}
use Rattle.std.specs.Prelude.{Float}
use mathlib.Core.Path.{◌≡◌, sym, ◌∙◌, subst}
use native.Mathlib.Omega.{arith}
use lib.Dec.{T}
use lib.Ieee.{binary32, fits}
use lib.Ieee.Positive.{positive}
use Rattle.measure.specs.Root.{RootOf}
use Rattle.measure.specs.RootComputed.{root_of}
use Rattle.measure.proofs.PatternFloats.{positive_no_nan, positive_bits, bits_fine}
use Rattle.measure.proofs.RootRule.{is_root, positive_case, zero_case, refused_case}
use Rattle.measure.proofs.RootComputed.{root_only}
use Rattle.measure.proofs.root.Goals as goal
use Rattle.measure.proofs.root.Goals.{Start, Then-is_positive}

-- an answer of the rule is the function's answer too
answer : (c : Start) {r : Result Float Refusal} → RootOf c.args.x r → RootOf c.args.x r × (r ≡ root_of c.args.x)
answer c {r} h = (h, root_only c.args.x r (subst T (sym c.well_formed.0.1) tt) h)

above : (c : Then-is_positive) → T (positive c.args.x)
above c = subst T (sym c.if-is_positive.true ∙ c.is_positive.ensures) tt

held : (c : Then-is_positive) → T (fits binary32 c.args.x)
held c = subst T (sym c.well_formed.0.1) tt

pub returns-then-x : goal.returns-then-x
returns-then-x c = let h = answer (goal.at.returns-then-x c).Start (zero_case c.args.x c.if-x.true) in record { rule = h.0; only = h.1 }

pub float_to_bits-x : goal.float_to_bits-x
float_to_bits-x c = positive_no_nan _ (above (goal.at.float_to_bits-x c).Then-is_positive)

pub root_bits-requires : goal.root_bits-requires
root_bits-requires c = positive_bits _ (held (goal.at.root_bits-requires c).Then-is_positive) (above (goal.at.root_bits-requires c).Then-is_positive)

pub float_from_bits-result : goal.float_from_bits-result
float_from_bits-result c = bits_fine c.root_bits.result (omega (arith, c.root_bits.ensures.most))

pub returns-then-is_positive : goal.returns-then-is_positive
returns-then-is_positive c = let h = answer (goal.at.returns-then-is_positive c).Start (positive_case _ _ (above (goal.at.returns-then-is_positive c).Then-is_positive) (is_root _ _ (held (goal.at.returns-then-is_positive c).Then-is_positive) (above (goal.at.returns-then-is_positive c).Then-is_positive) c.root_bits.ensures)) in record { rule = h.0; only = h.1 }

pub returns-else-is_positive : goal.returns-else-is_positive
returns-else-is_positive c = let h = answer (goal.at.returns-else-is_positive c).Start (refused_case _ c.if-x.false (sym c.is_positive.ensures ∙ c.if-is_positive.false)) in record { rule = h.0; only = h.1 }
