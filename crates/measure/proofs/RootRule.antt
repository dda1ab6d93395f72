-- The Root rule: what the code's cases give, and that the rule leaves one answer. Assumes nothing.
use Rattle.std.specs.Prelude.{Result, Ok, Err}
use Rattle.refusal.specs.declared.Refusal.{Refusal}
use mathlib.Core.Path.{◌≡◌, refl, sym, ap, ◌∙◌, subst}
use mathlib.Core.Bool.{Bool, true, false, false≢true}
use Prim.Native.Nat.{ℕ, zero, suc, ◌+◌, ◌-◌, ◌*◌, ◌%◌, ◌^◌, ◌≤◌, ◌<◌}
use native.Mathlib.Nat.{mul-pos, zero-lt-suc, add-le-add, le_antisymm, le_trans}
use native.Mathlib.Omega.{arith}
use borrow.Author.Tests.{lt-ltb, ltb-true, ltb-false}
use lib.Dec.{T, ltb, lt→ltb}
use lib.Pow.{pow_pos}
use lib.Ieee.{Float, nan, inf, fin, binary32, of_bits, to_bits, fits, eq}
use lib.Ieee.Bits.{of_bits-to_bits, of_bits-fits}
use lib.Ieee.Positive.{positive, positive_of_value}
use Rattle.refusal.specs.declared.Refusal.TheVariants.{OutOfRange}
use Rattle.measure.specs.Pattern.{exp_of, units}
use Rattle.measure.specs.inner.RootSteps.{RootBits}
use Rattle.measure.specs.Root.{NextBelow, NextAbove, IsRoot, RootOf}
use Rattle.measure.proofs.Ranges.{eq_some, eq_none}
use Rattle.measure.proofs.Squares.{square_le}
use Rattle.measure.proofs.Patterns.{large_sig, units_is, units_mono}
use Rattle.measure.proofs.PatternFloats.{bits_value, bits_units, own_units, positive_bits}
use Rattle.measure.proofs.Neighbours.{next_above, next_below, below_unique, above_unique}
use Rattle.measure.proofs.NoTie.{no_half_way}

-- ---- the float of a root's pattern is the root

pub is_root : (x : Float) (r : ℕ) → T (fits binary32 x) → T (positive x) → RootBits (2 ^ 151 * units (to_bits binary32 x)) r → IsRoot x (of_bits binary32 r)
is_root x r f p w =
    let r0 : r < 2139095040 = omega (arith, w.most) in
    let y = bits_units r r0 in
    record {
      held = of_bits-fits binary32 r;
      positive = positive_of_value (of_bits binary32 r) (units r) (2 ^ 149) (bits_value r r0) some;
      a = units (r - 1);
      b = units (r + 1);
      below = rw y (next_below r (omega (arith, w.least)) (omega arith));
      above = rw y (next_above r r0);
      low = rw (y, own_units x f p) w.low;
      high = rw (y, own_units x f p) w.high;
    }
  where
    some : 0 < units r
    some = rw (units_is r, large_sig r w.least) (mul-pos {m = r % 8388608 + 8388608} {n = 2 ^ exp_of r} (omega arith) (pow_pos (exp_of r)))

-- ---- the rule's cases

pub positive_case : (x y : Float) → T (positive x) → IsRoot x y → RootOf x (Ok y)
positive_case nan y p h = absurd p
positive_case (inf t) y p h = absurd p
positive_case (fin true m e) y p h = absurd p
positive_case (fin false zero e) y p h = absurd p
positive_case (fin false (suc m) e) y p h = (y, refl, h)

pub zero_case : (x : Float) → eq x (of_bits binary32 0) ≡ true → RootOf x (Ok x)
unfolding eq of_bits
zero_case nan h = absurd (false≢true h)
zero_case (inf t) h = absurd (false≢true h)
zero_case (fin s zero e) h = refl
zero_case (fin s (suc m) e) h = absurd (false≢true (sym (eq_some s m e) ∙ h))

pub refused_case : (x : Float) → eq x (of_bits binary32 0) ≡ false → positive x ≡ false → RootOf x (Err (OutOfRange 0))
refused_case nan h p = refl
refused_case (inf t) h p = refl
refused_case (fin s zero e) h p = absurd (false≢true (sym h ∙ eq_none s e))
refused_case (fin true (suc m) e) h p = refl
refused_case (fin false (suc m) e) h p = absurd (false≢true (sym p ∙ lt-ltb 0 (suc m) (zero-lt-suc m)))

-- ---- one answer: of two answers neither has the lower pattern, since no tie occurs

-- the rule's bounds at the pattern of the answer
module _ (x y : Float) (fx : T (fits binary32 x)) (px : T (positive x)) (r : IsRoot x y) where
  pattern_low : (units (to_bits binary32 y - 1) + units (to_bits binary32 y)) * (units (to_bits binary32 y - 1) + units (to_bits binary32 y)) ≤ 2 ^ 151 * units (to_bits binary32 x)
  pattern_low =
      let p = positive_bits y r.held r.positive in
      let u = own_units y r.held r.positive in
      let e : r.a ≡ units (to_bits binary32 y - 1) = below_unique (units (to_bits binary32 y)) r.a (units (to_bits binary32 y - 1)) (subst (λ (n : ℕ). NextBelow n r.a) u r.below) (next_below (to_bits binary32 y) p.0 (omega (arith, p.1))) in
      rw (e, u, own_units x fx px) at r.low

  pattern_high : 2 ^ 151 * units (to_bits binary32 x) ≤ (units (to_bits binary32 y) + units (to_bits binary32 y + 1)) * (units (to_bits binary32 y) + units (to_bits binary32 y + 1))
  pattern_high =
      let p = positive_bits y r.held r.positive in
      let u = own_units y r.held r.positive in
      let e : r.b ≡ units (to_bits binary32 y + 1) = above_unique (units (to_bits binary32 y)) r.b (units (to_bits binary32 y + 1)) (subst (λ (n : ℕ). NextAbove n r.b) u r.above) (next_above (to_bits binary32 y) p.1) in
      rw (e, u, own_units x fx px) at r.high

module _ (x y z : Float) (fx : T (fits binary32 x)) (px : T (positive x)) (ry : IsRoot x y) (rz : IsRoot x z) where
  not_lower : to_bits binary32 y < to_bits binary32 z → ⊥
  not_lower h =
      let b = to_bits binary32 y in
      let d = to_bits binary32 z in
      let le : units b + units (b + 1) ≤ units (d - 1) + units d = add-le-add (units_mono b (d - 1) (omega arith)) (units_mono (b + 1) d (omega arith)) in
      no_half_way b (to_bits binary32 x) (le_antisymm (pattern_high x y fx px ry) (le_trans (square_le le) (pattern_low x z fx px rz)))

same_float : (x y z : Float) → T (fits binary32 x) → T (positive x) → IsRoot x y → IsRoot x z → y ≡ z
same_float x y z fx px ry rz = go (ltb (to_bits binary32 y) (to_bits binary32 z)) (ltb (to_bits binary32 z) (to_bits binary32 y)) refl refl
  where
    go : (s t : Bool) → ltb (to_bits binary32 y) (to_bits binary32 z) ≡ s → ltb (to_bits binary32 z) (to_bits binary32 y) ≡ t → y ≡ z
    go true t e f = absurd (not_lower x y z fx px ry rz (ltb-true (to_bits binary32 y) (to_bits binary32 z) e))
    go false true e f = absurd (not_lower x z y fx px rz ry (ltb-true (to_bits binary32 z) (to_bits binary32 y) f))
    go false false e f =
        let same : to_bits binary32 y ≡ to_bits binary32 z = omega (arith, ltb-false (to_bits binary32 y) (to_bits binary32 z) e, ltb-false (to_bits binary32 z) (to_bits binary32 y) f) in
        sym (of_bits-to_bits binary32 y ry.held) ∙ ap (of_bits binary32) same ∙ of_bits-to_bits binary32 z rz.held

pub determined : (x : Float) (r s : Result Float Refusal) → T (fits binary32 x) → RootOf x r → RootOf x s → r ≡ s
determined nan r s f p q = p ∙ sym q
determined (inf t) r s f p q = p ∙ sym q
determined (fin t zero e) r s f p q = p ∙ sym q
determined (fin true (suc m) e) r s f p q = p ∙ sym q
determined (fin false (suc m) e) r s f p q = p.1 ∙ ap Ok (same_float (fin false (suc m) e) p.0 q.0 f (lt→ltb 0 (suc m) (zero-lt-suc m)) p.2 q.2) ∙ sym q.1
