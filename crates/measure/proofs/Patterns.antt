-- Patterns and their units: k * 2 ^ 23 + q stands for q * 2 ^ k units, and the next pattern for 2 ^ exponent more. Assumes nothing.
use mathlib.Core.Path.{◌≡◌, refl, sym, ap, ◌∙◌, subst}
use mathlib.Core.Bool.{Bool, true, false}
use Prim.Native.Nat.{ℕ, zero, suc, ◌+◌, ◌-◌, ◌*◌, ◌/◌, ◌%◌, ◌^◌, ◌≤◌, ◌<◌}
use native.Mathlib.Nat.{add-mul, le_trans, one-mul, pow-succ', add-zero, le_refl, le-add_right, add-suc, lt_irrefl, lt_of_lt_of_le}
use native.Mathlib.Numerals.{add-one}
use native.Mathlib.Omega.{arith}
use borrow.Author.Tests.{lt-ltb, le-ltb, ltb-true, ltb-false}
use lib.Dec.{ltb}
use lib.Pow.{pow_pos}
use Rattle.measure.specs.Pattern.{sig_of, exp_of, units}

-- ---- the parts of a pattern, below and from 2^23 on

pub small_sig : (b : ℕ) → b < 8388608 → sig_of b ≡ b
unfolding sig_of
small_sig b h = rw (lt-ltb b 8388608 h)

pub small_exp : (b : ℕ) → b < 8388608 → exp_of b ≡ 0
unfolding exp_of
small_exp b h = rw (lt-ltb b 8388608 h)

pub large_sig : (b : ℕ) → 8388608 ≤ b → sig_of b ≡ b % 8388608 + 8388608
unfolding sig_of
large_sig b h = rw (le-ltb b 8388608 h)

pub large_exp : (b : ℕ) → 8388608 ≤ b → exp_of b ≡ b / 8388608 - 1
unfolding exp_of
large_exp b h = rw (le-ltb b 8388608 h)

-- ---- their ranges

pub sig_pos : (b : ℕ) → 0 < b → 0 < sig_of b
sig_pos b h = go (ltb b 8388608) refl
  where
    go : (t : Bool) → ltb b 8388608 ≡ t → 0 < sig_of b
    go true e = rw (small_sig b (ltb-true b 8388608 e)) h
    go false e = rw (large_sig b (ltb-false b 8388608 e)) (omega arith)

pub exp_le : (b : ℕ) → b < 2139095040 → exp_of b ≤ 253
exp_le b h = go (ltb b 8388608) refl
  where
    go : (t : Bool) → ltb b 8388608 ≡ t → exp_of b ≤ 253
    go true e = rw (small_exp b (ltb-true b 8388608 e)) (omega arith)
    go false e = rw (large_exp b (ltb-false b 8388608 e)) (omega arith)

pub sig_lt : (b : ℕ) → sig_of b < 16777216
sig_lt b = go (ltb b 8388608) refl
  where
    go : (t : Bool) → ltb b 8388608 ≡ t → sig_of b < 16777216
    go true e = let l = ltb-true b 8388608 e in rw (small_sig b l) (omega arith)
    go false e = rw (large_sig b (ltb-false b 8388608 e)) (omega arith)

pub sig_large : (b : ℕ) → 0 < exp_of b → 8388608 ≤ sig_of b
sig_large b h = go (ltb b 8388608) refl
  where
    go : (t : Bool) → ltb b 8388608 ≡ t → 8388608 ≤ sig_of b
    go true e = let z : exp_of b ≡ 0 = small_exp b (ltb-true b 8388608 e) in absurd (omega arith)
    go false e = rw (large_sig b (ltb-false b 8388608 e)) (omega arith)

-- ---- units

pub units_is : (b : ℕ) → units b ≡ sig_of b * 2 ^ exp_of b
unfolding units
units_is b = refl

-- with 2 ^ 23 ≤ q ≤ 2 ^ 24
pub units_at : (k q : ℕ) → 8388608 ≤ q → q ≤ 16777216 → units (k * 8388608 + q) ≡ q * 2 ^ k
unfolding units
units_at k q lo hi = go (ltb q 16777216) refl
  where
    go : (t : Bool) → ltb q 16777216 ≡ t → units (k * 8388608 + q) ≡ q * 2 ^ k
    go true e =
        let h = ltb-true q 16777216 e in
        let l : 8388608 ≤ k * 8388608 + q = omega arith in
        let s : (k * 8388608 + q) % 8388608 + 8388608 ≡ q = omega arith in
        let x : (k * 8388608 + q) / 8388608 - 1 ≡ k = omega arith in
        rw (large_sig (k * 8388608 + q) l, large_exp (k * 8388608 + q) l, s, x)
    go false e =
        let h = ltb-false q 16777216 e in
        let l : 8388608 ≤ k * 8388608 + q = omega arith in
        let s : (k * 8388608 + q) % 8388608 + 8388608 ≡ 8388608 = omega arith in
        let x : (k * 8388608 + q) / 8388608 - 1 ≡ suc k = omega arith in
        let y : q ≡ 16777216 = omega arith in
        rw (large_sig (k * 8388608 + q) l, large_exp (k * 8388608 + q) l, s, x, y, pow-succ') (omega arith)

top_step : units (8388607 + 1) ≡ units 8388607 + 2 ^ exp_of 8388607
unfolding units sig_of exp_of
top_step = refl

pub units_step : (b : ℕ) → units (b + 1) ≡ units b + 2 ^ exp_of b
unfolding units
units_step b = go (ltb b 8388607) (ltb b 8388608) refl refl
  where
    go : (s t : Bool) → ltb b 8388607 ≡ s → ltb b 8388608 ≡ t → units (b + 1) ≡ units b + 2 ^ exp_of b
    go true t e f =
        let h = ltb-true b 8388607 e in
        let h0 : b < 8388608 = omega arith in
        let h1 : b + 1 < 8388608 = omega arith in
        rw (small_sig (b + 1) h1, small_exp (b + 1) h1, small_sig b h0, small_exp b h0) (omega arith)
    go false true e f =
        let y : b ≡ 8388607 = omega (arith, ltb-false b 8388607 e, ltb-true b 8388608 f) in
        subst (λ (n : ℕ). units (n + 1) ≡ units n + 2 ^ exp_of n) (sym y) top_step
    go false false e f =
        let h = ltb-false b 8388608 f in
        let q = b % 8388608 + 8388608 in
        let k = b / 8388608 - 1 in
        let here : b ≡ k * 8388608 + q = omega arith in
        let next : b + 1 ≡ k * 8388608 + (q + 1) = omega arith in
        ap units next ∙ units_at k (q + 1) (omega arith) (omega arith) ∙ rw (large_sig b h, large_exp b h) (add-mul q 1 (2 ^ k) ∙ ap (λ (n : ℕ). q * 2 ^ k + n) (one-mul (2 ^ k)))

pub units_le_next : (b : ℕ) → units b ≤ units (b + 1)
units_le_next b = rw (units_step b) (le-add_right (units b) (2 ^ exp_of b))

-- a larger pattern stands for no fewer units
units_more : (b d : ℕ) → units b ≤ units (b + d)
units_more b zero = rw (add-zero b) (le_refl (units b))
units_more b (suc d) = le_trans (units_more b d) (subst (λ (n : ℕ). units (b + d) ≤ units n) (add-one (b + d) ∙ sym (add-suc b d)) (units_le_next (b + d)))

pub units_mono : (b c : ℕ) → b ≤ c → units b ≤ units c
units_mono b c h = let e : b + (c - b) ≡ c = omega arith in subst (λ (n : ℕ). units b ≤ units n) e (units_more b (c - b))

pub units_lt : (b c : ℕ) → b < c → units b < units c
units_lt b c h =
    let up : units b < units (b + 1) = rw (units_step b) (omega (arith, pow_pos (exp_of b))) in
    lt_of_lt_of_le up (units_mono (b + 1) c (omega arith))

-- so a pattern of more units is the larger
pub units_order : (b c : ℕ) → units b < units c → b < c
units_order b c h = go (ltb b c) refl
  where
    go : (t : Bool) → ltb b c ≡ t → b < c
    go true e = ltb-true b c e
    go false e = absurd (lt_irrefl (units b) (lt_of_lt_of_le h (units_mono c b (ltb-false b c e))))
