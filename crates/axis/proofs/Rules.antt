-- The two spread rules beside each other: what rule 2 calls informative rule 1 calls so too (`two_then_one`), and they differ exactly on
-- missing spreads (`differ_on_missing`). A third rule is refused, behind a limit that is NaN. Assumes nothing.
use mathlib.Core.Bool.{true, false, false≢true}
use mathlib.Core.Logic.{◌↔◌}
use mathlib.Core.Path.{◌≡◌, refl, sym}
use Prim.Native.Nat.{ℕ}
use native.Mathlib.Omega.{arith}
use lib.Ieee.{Float, nan, is_nan, of_bits, lt}
use Rattle.refusal.specs.declared.Refusal.TheVariants.{ParameterNan, NoSuchRule}
use Rattle.measure.specs.Float.{bits}
use Rattle.axis.specs.declared.SpreadRule.{SpreadRule}
use Rattle.std.specs.Prelude.{Err}
use Rattle.axis.specs.declared.Spread.{Spread}
use Rattle.axis.specs.declared.Spread.TheVariants.{Missing, Known}
use Rattle.axis.specs.Cache.{informative_of, cache_call}

abbrev pub rule : ℕ → Float → SpreadRule
rule number limit = record { number = number; limit = limit }

-- ---- over every spread and every limit

pub two_then_one : (limit : Float) (s : Spread) → informative_of (rule 2 limit) s ≡ true → informative_of (rule 1 limit) s ≡ true
unfolding informative_of
two_then_one limit Missing e = refl
two_then_one limit (Known x) e = e

pub differ_on_missing : (limit : Float) (s : Spread) → (informative_of (rule 1 limit) s ≡ informative_of (rule 2 limit) s → ⊥) ↔ (s ≡ Missing)
unfolding informative_of
differ_on_missing limit Missing = (λ differ. refl, λ e same. false≢true (sym same))
differ_on_missing limit (Known x) = (λ differ. absurd (differ refl), λ e same. known_is_not x e)
  where
    known_is_not : (x : Float) → Known x ≡ Missing → ⊥
    known_is_not x e = let z : ◌≡◌ {A = ℕ} 0 1 = cc in omega arith

-- ---- computed: a missing spread; a spread below the limit 1, at it, and -1

pub missing : (informative_of (rule 1 (bits 0x3F800000)) Missing ≡ true) × (informative_of (rule 2 (bits 0x3F800000)) Missing ≡ false)
unfolding informative_of
missing = (refl, refl)

pub below : (informative_of (rule 1 (bits 0x3F800000)) (Known (bits 0x3F000000)) ≡ true) × (informative_of (rule 2 (bits 0x3F800000)) (Known (bits 0x3F000000)) ≡ true)
unfolding informative_of of_bits lt
below = (refl, refl)

pub at_limit : (informative_of (rule 1 (bits 0x3F800000)) (Known (bits 0x3F800000)) ≡ false) × (informative_of (rule 2 (bits 0x3F800000)) (Known (bits 0x3F800000)) ≡ false)
unfolding informative_of of_bits lt
at_limit = (refl, refl)

pub negative : informative_of (rule 2 (bits 0x3F800000)) (Known (bits 0xBF800000)) ≡ true
unfolding informative_of of_bits lt
negative = refl

-- ---- rule 3, beside a limit of 1 and beside NaN

pub no_third : (a b : Float) (s t : Spread) → cache_call (rule 3 (bits 0x3F800000)) a s b t ≡ Err NoSuchRule
unfolding cache_call of_bits is_nan
no_third a b s t = refl

pub limit_first : (a b : Float) (s t : Spread) → cache_call (rule 3 nan) a s b t ≡ Err (ParameterNan 4)
unfolding cache_call is_nan
limit_first a b s t = refl
