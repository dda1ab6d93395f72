-- Document 01, "Root": the IEEE 754 square root stated over whole numbers, and not by the steps of the code.
use Rattle.std.specs.Prelude.{Result, Ok, Err}
use Rattle.refusal.specs.declared.Refusal.{Refusal}
use Rattle.std.specs.Prelude.{◌≡◌, true, false, ℕ, zero, suc, ◌+◌, ◌*◌, ◌/◌, ◌^◌, ◌≤◌, ◌<◌, T, Float}
use Rattle.std.specs.Float.Ieee as Ieee
use Rattle.std.specs.Float.{nan, inf, fin, binary32}
use Rattle.std.specs.Float.Ieee.{up, down}
use Rattle.std.specs.Float.Ieee.Scale.{finite}
use Rattle.std.specs.Float.Ieee.Positive.{positive}
use Rattle.refusal.specs.declared.Refusal.TheVariants.{OutOfRange}

-- the whole multiple of 2^-149 that a finite float's magnitude is
unfoldable pub units_of : Float → ℕ
units_of nan = 0
units_of (inf s) = 0
units_of (fin s m e) = m * up e * 2 ^ 149 / down e

-- the multiples that floats have; after the greatest float's comes 2^277, where the floats would go on if their exponents did
pub data Multiple : ℕ → Type 0 where
  float : (x : Float) → T (Ieee.fits binary32 x) → T (finite x) → Multiple (units_of x)
  beyond : Multiple (2 ^ 277)

-- a is the float's multiple next below y, and b next above: none stands between
pub record NextBelow (y a : ℕ) : Type 0 where
  pub held : Multiple a
  pub lower : a < y
  pub next : (k : ℕ) → Multiple k → k < y → k ≤ a

pub record NextAbove (y b : ℕ) : Type 0 where
  pub held : Multiple b
  pub higher : y < b
  pub next : (k : ℕ) → Multiple k → y < k → b ≤ k

-- y is the root of x, both above 0 and finite: (A + Y)² ≤ 2^151·X ≤ (Y + B)²
pub record IsRoot (x y : Float) : Type 0 where
  pub held : T (Ieee.fits binary32 y)
  pub positive : T (positive y)
  pub a : ℕ
  pub b : ℕ
  pub below : NextBelow (units_of y) a
  pub above : NextAbove (units_of y) b
  pub low : (a + units_of y) * (a + units_of y) ≤ 2 ^ 151 * units_of x
  pub high : 2 ^ 151 * units_of x ≤ (units_of y + b) * (units_of y + b)

-- the call: refusal 4 for a value NaN, infinite or below zero; of 0 it is 0, and -0 gives -0
abbrev pub RootOf : Float → Result Float Refusal → Type 0
RootOf nan r = r ≡ Err (OutOfRange 0)
RootOf (inf s) r = r ≡ Err (OutOfRange 0)
RootOf (fin s zero e) r = r ≡ Ok (fin s zero e)
RootOf (fin true (suc m) e) r = r ≡ Err (OutOfRange 0)
RootOf (fin false (suc m) e) r = (y : Float) × (r ≡ Ok y) × IsRoot (fin false (suc m) e) y
