-- The multiples of floats are the units of the patterns up to an infinity's, so a pattern's neighbours are the next ones in order. Assumes nothing.
use mathlib.Core.Path.{◌≡◌, refl, ap, ◌∙◌, subst}
use mathlib.Core.Bool.{Bool, true, false}
use Prim.Native.Nat.{ℕ, zero, suc, ◌+◌, ◌-◌, ◌*◌, ◌/◌, ◌^◌, ◌≤◌, ◌<◌}
use native.Mathlib.Nat.{le_antisymm, le_of_lt, le_refl, zero-lt-suc, zero-div}
use native.Mathlib.Omega.{arith}
use borrow.Author.Tests.{ltb-true, ltb-false}
use lib.Dec.{T, ltb, lt→ltb}
use lib.IntN.{ℤ}
use lib.Ieee.{Float, nan, inf, fin, binary32, of_bits, to_bits, fits, up, down}
use lib.Ieee.Bits.{of_bits-fits}
use lib.Ieee.Exact.{HasValue}
use lib.Ieee.Scale.{finite}
use Rattle.measure.specs.Pattern.{sig_of, exp_of, units}
use Rattle.measure.specs.Root.{units_of, Multiple, float, beyond, NextBelow, NextAbove}
use Rattle.measure.proofs.Squares.{zero_product}
use Rattle.measure.proofs.Patterns.{units_mono, units_lt, units_order}
use Rattle.measure.proofs.PatternFloats.{bits_value, bits_units, own_units, positive_bits}

-- ---- a multiple is the units of a pattern

-- the pattern of an infinity is where the floats would go on
pub infinity : 2 ^ 277 ≡ units 2139095040
unfolding units sig_of exp_of
infinity = refl

nothing : (e : ℤ) → zero * up e * 2 ^ 149 / down e ≡ units 0
unfolding units sig_of exp_of
nothing e = ap (λ (n : ℕ). n / down e) (zero_product (up e) (2 ^ 149)) ∙ zero-div (down e)

unsigned : (s : Bool) (m : ℕ) (e : ℤ) → T (fits binary32 (fin s (suc m) e)) → T (fits binary32 (fin false (suc m) e))
unfolding fits
unsigned s m e f = f

float_pattern : (x : Float) → T (fits binary32 x) → T (finite x) → (c : ℕ) × (c ≤ 2139095040) × (units_of x ≡ units c)
unfolding units_of
float_pattern nan f h = absurd h
float_pattern (inf s) f h = absurd h
float_pattern (fin s zero e) f h = (0, omega arith, nothing e)
float_pattern (fin s (suc m) e) f h =
    let x = fin false (suc m) e in
    let g = unsigned s m e f in
    let p = lt→ltb 0 (suc m) (zero-lt-suc m) in
    (to_bits binary32 x, le_of_lt (positive_bits x g p).1, own_units x g p)

pub multiple_pattern : (k : ℕ) → Multiple k → (c : ℕ) × (c ≤ 2139095040) × (k ≡ units c)
multiple_pattern k (float x f h) = float_pattern x f h
multiple_pattern k beyond = (2139095040, le_refl 2139095040, infinity)

value_finite : (x : Float) (s : Bool) (a c : ℕ) → HasValue x s a c → T (finite x)
value_finite nan s a c h = absurd h
value_finite (inf t) s a c h = absurd h
value_finite (fin t m e) s a c h = tt

pattern_multiple : (c : ℕ) → c ≤ 2139095040 → Multiple (units c)
pattern_multiple c h = go (ltb c 2139095040) refl
  where
    go : (t : Bool) → ltb c 2139095040 ≡ t → Multiple (units c)
    go true e =
        let l = ltb-true c 2139095040 e in
        subst Multiple (bits_units c l) (float (of_bits binary32 c) (of_bits-fits binary32 c) (value_finite (of_bits binary32 c) false (units c) (2 ^ 149) (bits_value c l)))
    go false e =
        let top : 2139095040 ≡ c = omega (arith, ltb-false c 2139095040 e) in
        subst Multiple (infinity ∙ ap units top) beyond

-- ---- the patterns one less and one more

pub next_above : (b : ℕ) → b < 2139095040 → NextAbove (units b) (units (b + 1))
next_above b h =
    record {
      held = pattern_multiple (b + 1) (omega arith);
      higher = units_lt b (b + 1) (omega arith);
      next = λ k m l. least k (multiple_pattern k m) l;
    }
  where
    least : (k : ℕ) → (c : ℕ) × (c ≤ 2139095040) × (k ≡ units c) → units b < k → units (b + 1) ≤ k
    least k (c, top, e) l =
        let more : b < c = units_order b c (subst (λ (n : ℕ). units b < n) e l) in
        rw e (units_mono (b + 1) c (omega arith))

pub next_below : (b : ℕ) → 0 < b → b ≤ 2139095040 → NextBelow (units b) (units (b - 1))
next_below b z h =
    record {
      held = pattern_multiple (b - 1) (omega arith);
      lower = units_lt (b - 1) b (omega arith);
      next = λ k m l. most k (multiple_pattern k m) l;
    }
  where
    most : (k : ℕ) → (c : ℕ) × (c ≤ 2139095040) × (k ≡ units c) → k < units b → k ≤ units (b - 1)
    most k (c, top, e) l =
        let less : c < b = units_order c b (subst (λ (n : ℕ). n < units b) e l) in
        rw e (units_mono c (b - 1) (omega arith))

-- ---- there is one on each side

pub below_unique : (y a c : ℕ) → NextBelow y a → NextBelow y c → a ≡ c
below_unique y a c p q = le_antisymm (q.next a p.held p.lower) (p.next c q.held q.lower)

pub above_unique : (y b c : ℕ) → NextAbove y b → NextAbove y c → b ≡ c
above_unique y b c p q = le_antisymm (p.next c q.held q.higher) (q.next b p.held p.higher)
