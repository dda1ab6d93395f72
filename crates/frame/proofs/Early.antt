-- The rows of a frame before the ninth refuse with other numbers than 9 and 10. Assumes nothing.
use mathlib.Core.Path.{◌≡◌, refl}
use mathlib.Core.Bool.{Bool, true, false, cond, not, ◌||◌}
use mathlib.Core.List.{List}
use Prim.Native.Nat.{ℕ, ◌*◌, ◌%◌}
use lib.Dec.{eqb}
use lib.Ieee.{Float, is_nan}
use lib.ListN.{length, get_or}
use Rattle.refusal.specs.declared.Refusal.TheVariants.{ParameterNan, NoSuchRule, OutOfRange, TwinPastEnd, TwinNotBack, TwinElsewhere}
use Rattle.measure.specs.Parameter.{parameter_row}
use Rattle.axis.specs.declared.SpreadRule.{SpreadRule}
use Rattle.axis.specs.Cache.{rule_row}
use Rattle.mesh.specs.Lists.{most_corners, most_half_edges, frame_words}
use Rattle.mesh.specs.Positions.{misplaced, positions_row}
use Rattle.mesh.specs.Twins.{past_end, points_back, twin_offends, twin_fault, twins_row}
use Rattle.walk.proofs.Early.{of_room, Early, early_if, early_first, early_then, early_paired, early_limit, early_corners, early_twice, early_work}
use Rattle.frame.specs.declared.Params.{Params}
use Rattle.frame.specs.Stages.{Input}
use Rattle.classify.specs.Call.{lengths_gate}
use Rattle.frame.specs.Call.{params_gate, values_gate, judge_of, entry_gate}

early_parameter : (parameter : Float) (number : ℕ) → Early (parameter_row parameter number)
early_parameter parameter number = early_if (is_nan parameter) (ParameterNan number) refl

early_rule : (rule : SpreadRule) → Early (rule_row rule)
early_rule rule = early_if (not (eqb rule.number 1 || eqb rule.number 2)) NoSuchRule refl

early_positions : (xs ys : List Float) → Early (positions_row xs ys)
unfolding positions_row
early_positions xs ys = early_first (misplaced xs ys) (length xs) OutOfRange (λ k. refl)

-- whichever of the three faults
fault_early : (past back : Bool) (e w : ℕ) → of_room (cond past (TwinPastEnd e w) (cond back (TwinElsewhere e w) (TwinNotBack e w))) ≡ false
fault_early true back e w = refl
fault_early false true e w = refl
fault_early false false e w = refl

early_twins : (triangles twins : List ℕ) → Early (twins_row triangles twins)
unfolding twins_row twin_fault
early_twins triangles twins = early_first (twin_offends triangles twins) (length twins) (twin_fault twins) (λ e. fault_early (past_end twins (get_or twins e 0)) (points_back twins e (get_or twins e 0)) e (get_or twins e 0))

early_lengths : (x y angles marks spreads triangles twins : ℕ) → Early (lengths_gate x y angles marks spreads triangles twins)
unfolding lengths_gate
early_lengths x y angles marks spreads triangles twins =
    early_then _ _ (early_paired y x)
    (early_then _ _ (early_paired angles (2 * x))
    (early_then _ _ (early_paired marks (2 * x))
    (early_then _ _ (early_paired spreads (2 * x))
    (early_then _ _ (early_paired (triangles % 3) 0)
    (early_then _ _ (early_paired twins triangles)
    (early_then _ _ (early_limit x most_corners) (early_limit triangles most_half_edges)))))))

early_params : (p : Params) → Early (params_gate p)
unfolding params_gate
early_params p =
    early_then _ _ (early_parameter p.edges.tolerance 0)
    (early_then _ _ (early_parameter p.filters.ratio 1)
    (early_then _ _ (early_parameter p.filters.least 2)
    (early_then _ _ (early_parameter p.filters.greatest 3)
    (early_then _ _ (early_parameter p.edges.spread.limit 4) (early_rule p.edges.spread)))))

early_values : (xs ys : List Float) (triangles twins : List ℕ) → Early (values_gate xs ys triangles twins)
unfolding values_gate
early_values xs ys triangles twins =
    early_then _ _ (early_positions xs ys)
    (early_then _ _ (early_corners (length xs) triangles)
    (early_then _ _ (early_twice 3 triangles) (early_twins triangles twins)))

pub entry_early : (i : Input) (words : ℕ) → Early (entry_gate i words)
unfolding entry_gate judge_of
entry_early i words =
    early_then _ _
    (early_then _ _ (early_lengths (length i.xs) (length i.ys) (length i.angles) (length i.marks) (length i.spreads) (length i.triangles) (length i.twins))
    (early_then _ _ (early_params i.params) (early_values i.xs i.ys i.triangles i.twins)))
    (early_work words (frame_words (length i.triangles) (length i.xs)))
