-- Document 01, "Axis cache": one record per corner with its two angles and two informative marks; informative by document 02's two rules.
use Rattle.std.specs.Prelude.{Bool, false, cond, not, ◌&&◌, ◌||◌, List, ℕ, ◌+◌, ◌*◌, eqb, Float, get_or}
use Rattle.std.specs.Float.Ieee as Ieee
use Rattle.std.specs.Float.{nan}
use Rattle.std.specs.Float.Ieee.Scale.{finite}
use Rattle.refusal.specs.InNumbers.{InNumbers, gives, refuses}
use Rattle.measure.specs.Float.{bits}
use Rattle.measure.specs.Parameter.{parameter_row}
use Rattle.std.specs.Prelude.{Result, Ok, Err}
use Rattle.refusal.specs.declared.Refusal.{Refusal}
use Rattle.refusal.specs.declared.Refusal.TheVariants.{NoSuchRule}
use Rattle.refusal.specs.Rows.{Gate, refuse_if, ◌then◌}
use Rattle.axis.specs.declared.Spread.{Spread}
use Rattle.axis.specs.declared.Spread.TheVariants as spread
use Rattle.axis.specs.declared.SpreadRule.{SpreadRule}
use Rattle.axis.specs.declared.AxisCache.{AxisCache}

-- missing is informative by rule 1 and not by rule 2; by either a number is so if finite and strictly below the limit (negative ones too);
-- row 18 keeps other rules away
unfoldable pub informative_of : SpreadRule → Spread → Bool
informative_of rule spread.Missing = eqb rule.number 1
informative_of rule (spread.Known x) = finite x && Ieee.lt x rule.limit

abbrev pub cache_of : SpreadRule → Float → Spread → Float → Spread → AxisCache
cache_of rule angle0 spread0 angle1 spread1 =
    record { angle0 = angle0; angle1 = angle1; informative0 = informative_of rule spread0; informative1 = informative_of rule spread1 }

-- in a lent list a mark stands beside a spread, 0 for missing, any other for present
unfoldable pub spread_from : ℕ → Float → Spread
spread_from mark x = cond (eqb mark 0) spread.Missing (spread.Known x)

-- the cache of corner k, from lists with two slots a corner
unfoldable pub cache_at : SpreadRule → List Float → List ℕ → List Float → ℕ → AxisCache
cache_at rule angles marks spreads k =
    cache_of rule
    (get_or angles (2 * k) nan) (spread_from (get_or marks (2 * k) 0) (get_or spreads (2 * k) nan))
    (get_or angles (2 * k + 1) nan) (spread_from (get_or marks (2 * k + 1) 0) (get_or spreads (2 * k + 1) nan))

-- row 18: a rule number that is neither 1 nor 2
abbrev pub rule_row : SpreadRule → Gate
rule_row rule = refuse_if (not (eqb rule.number 1 || eqb rule.number 2)) NoSuchRule

-- the call: row 3, of which the spread limit is parameter 4, and row 18
abbrev pub cached_by : Gate → AxisCache → Result AxisCache Refusal
cached_by (Ok _) cache = Ok cache
cached_by (Err why) cache = Err why

unfoldable pub cache_call : SpreadRule → Float → Spread → Float → Spread → Result AxisCache Refusal
cache_call rule angle0 spread0 angle1 spread1 = cached_by (parameter_row rule.limit 4 then rule_row rule) (cache_of rule angle0 spread0 angle1 spread1)

-- the answer in 01's numbers
abbrev pub cached_told : Result AxisCache Refusal → InNumbers AxisCache
cached_told (Ok cache) = gives cache
cached_told (Err why) = refuses (record { angle0 = bits 0; angle1 = bits 0; informative0 = false; informative1 = false }) why
