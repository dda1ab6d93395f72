-- The root as a function that computes, for definitions that take a root: the greatest pattern whose lower half-way point the root reaches.
-- `RootOf` is the meaning; proofs/RootComputed shows that this is its only answer.
use Rattle.std.specs.Prelude.{Result, Ok, Err}
use Rattle.refusal.specs.declared.Refusal.{Refusal}
use Rattle.std.specs.Prelude.{Bool, true, false, cond, ℕ, zero, suc, ◌+◌, ◌-◌, ◌*◌, ◌^◌, leb, Float}
use Rattle.std.specs.Float.{nan, inf, fin}
use Rattle.measure.specs.Float.{bits}
use Rattle.measure.specs.Pattern.{units}
use Rattle.measure.specs.Root.{units_of}
use Rattle.refusal.specs.declared.Refusal.TheVariants.{OutOfRange}

-- a number from q on, below q + 2^k, that passes while the next does not, where q passes and q + 2^k does not
unfoldable pub greatest : ℕ → (ℕ → Bool) → ℕ → ℕ
greatest zero t q = q
greatest (suc k) t q = greatest k t (cond (t (q + 2 ^ k)) (q + 2 ^ k) q)

unfoldable pub reaches : ℕ → ℕ → Bool
reaches v b = leb ((units (b - 1) + units b) * (units (b - 1) + units b)) v

unfoldable pub root_pattern : ℕ → ℕ
root_pattern v = greatest 31 (reaches v) 0

unfoldable pub root_of : Float → Result Float Refusal
root_of nan = Err (OutOfRange 0)
root_of (inf s) = Err (OutOfRange 0)
root_of (fin s zero e) = Ok (fin s zero e)
root_of (fin true (suc m) e) = Err (OutOfRange 0)
root_of (fin false (suc m) e) = Ok (bits (root_pattern (2 ^ 151 * units_of (fin false (suc m) e))))
