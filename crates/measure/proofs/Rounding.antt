-- Rounding keeps a bound that is itself a float: a fraction of at most n rounds to at most n. Assumes nothing.
use mathlib.Core.Path.{◌≡◌, refl, sym, ap, ◌∙◌, subst}
use mathlib.Core.Bool.{Bool, true, false, not, cond, ◌&&◌, ◌||◌, false≢true}
use mathlib.Core.Logic.{◌⊎◌, inl, inr, ⊎_elim}
use Prim.Native.Nat.{ℕ, zero, suc, ◌*◌, ◌^◌, ◌≤◌, ◌<◌}
use native.Mathlib.Nat.{le_trans, le_of_eq, le_of_lt, mul-one}
use borrow.Author.Tests.{ltb-true, ltb-false, eqb-true, le-ltb}
use lib.Dec.{ltb, eqb, lit<}
use lib.IntN.{ℤ, pos}
use lib.Ieee.{Float, nan, inf, fin, binary32, neg, round, odd, units, le, lt, eq, up, down}
use lib.Ieee.Bits.{is_true}
use lib.Ieee.Exact.{HasValue}
use lib.Ieee.Fits.{round_is}
use lib.Ieee.Order.{round_mono, drop, kept}
use lib.Ieee.Scale.{grid, overflow, round_val}

-- x is finite, its sign bit clear, and at most n
abbrev pub Small : ℕ → Float → Type 0
Small n x = (m : ℕ) × (e : ℤ) × (x ≡ fin false m e) × (m * up e ≤ n * down e)

-- x is finite and of magnitude at most n
abbrev pub Bounded : ℕ → Float → Type 0
Bounded n x = (s : Bool) × (m : ℕ) × (e : ℤ) × (x ≡ fin s m e) × (m * up e ≤ n * down e)

-- n is a float, q * 2 ^ k
abbrev pub Exact : ℕ → Type 0
Exact n = (q : ℕ) × (k : ℕ) × (round binary32 false n 1 ≡ fin false q (pos k)) × (q * 2 ^ k ≡ n)

small_bounded : (n : ℕ) (x : Float) → Small n x → Bounded n x
small_bounded n x (m, e, p, h) = (false, m, e, p, h)

pub neg_bounded : (n : ℕ) (x : Float) → Bounded n x → Bounded n (neg x)
unfolding neg
neg_bounded n x (s, m, e, p, h) = (not s, m, e, ap neg p, h)

-- ---- what `le` says of a magnitude and a whole number

pub or_le : (a b : ℕ) (t : Bool) → (ltb a b || (eqb a b && t)) ≡ true → a ≤ b
or_le a b t h = go (ltb a b) refl (eqb a b) refl h
  where
    go : (p : Bool) → ltb a b ≡ p → (q : Bool) → eqb a b ≡ q → (p || (q && t)) ≡ true → a ≤ b
    go true e q f h = le_of_lt (ltb-true a b e)
    go false e true f h = le_of_eq (eqb-true a b f)
    go false e false f h = absurd (false≢true h)

pub le_whole : (q k m : ℕ) (e : ℤ) → le (fin false m e) (fin false q (pos k)) ≡ true → m * up e ≤ q * 2 ^ k * down e
unfolding le lt eq
le_whole q k m e h = le_trans (le_of_eq (sym (mul-one (m * up e)))) (or_le (m * up e * 1) (q * 2 ^ k * down e) true h)

ge_whole : (q k m : ℕ) (e : ℤ) → le (fin false q (pos k)) (fin false m e) ≡ true → q * 2 ^ k * down e ≤ m * up e
unfolding le lt eq
ge_whole q k m e h = le_trans (or_le (q * 2 ^ k * down e) (m * up e * 1) true h) (le_of_eq (mul-one (m * up e)))

inf_above : (q k : ℕ) → le (inf false) (fin false q (pos k)) ≡ true → ⊥
unfolding le lt eq
inf_above q k h = false≢true h

-- ---- a fraction rounds to an infinity or to a number of the grid

over : (q k : ℕ) → overflow binary32 ≤ q * 2 ^ k → units binary32 false q k ≡ inf false
unfolding units
over q k h = rw (le-ltb (q * 2 ^ k) (overflow binary32) h)

shape : (a b : ℕ) → (round binary32 false a b ≡ inf false) ⊎ HasValue (round binary32 false a b) false (grid binary32 a b) (2 ^ 149)
shape a b = go (ltb (grid binary32 a b) (overflow binary32)) refl
  where
    go : (t : Bool) → ltb (grid binary32 a b) (overflow binary32) ≡ t → (round binary32 false a b ≡ inf false) ⊎ HasValue (round binary32 false a b) false (grid binary32 a b) (2 ^ 149)
    go true e = inr (round_val binary32 a b (ltb-true (grid binary32 a b) (overflow binary32) e))
    go false e = inl (round_is binary32 false a b ∙ over (kept 24 (a * 2 ^ 149) b) (drop 24 (a * 2 ^ 149) b) (ltb-false (grid binary32 a b) (overflow binary32) e))

of_shape : (q k : ℕ) (x : Float) (a : ℕ) → le x (fin false q (pos k)) ≡ true → HasValue x false a (2 ^ 149) → Small (q * 2 ^ k) x
of_shape q k nan a h v = absurd v
of_shape q k (inf t) a h v = absurd v
of_shape q k (fin true m e) a h v = absurd (false≢true (sym v.0))
of_shape q k (fin false m e) a h v = (m, e, refl, le_whole q k m e h)

pub small_round : (n a b : ℕ) → Exact n → 0 < b → a ≤ n * b → Small n (round binary32 false a b)
small_round n a b (q, k, p, v) c h =
    let l : le (round binary32 false a b) (fin false q (pos k)) ≡ true = subst (λ (y : Float). le (round binary32 false a b) y ≡ true) p (is_true _ (round_mono binary32 a b n 1 c (lit< tt) (le_trans (le_of_eq (mul-one a)) h))) in
    subst (λ (z : ℕ). Small z (round binary32 false a b)) v
    (⊎_elim (λ e. absurd (inf_above q k (subst (λ (y : Float). le y (fin false q (pos k)) ≡ true) e l))) (λ w. of_shape q k (round binary32 false a b) (grid binary32 a b) l w) (shape a b))

-- and a fraction of at least n rounds to at least n, where it rounds to a number
pub large_round : (n a b m : ℕ) (e : ℤ) → Exact n → 0 < b → n * b ≤ a → round binary32 false a b ≡ fin false m e → n * down e ≤ m * up e
large_round n a b m e (q, k, p, v) c h f =
    let l : le (round binary32 false n 1) (round binary32 false a b) ≡ true = is_true _ (round_mono binary32 n 1 a b (lit< tt) c (le_trans h (le_of_eq (sym (mul-one a))))) in
    subst (λ (z : ℕ). z * down e ≤ m * up e) v (ge_whole q k m e (subst (λ (y : Float). le y (fin false m e) ≡ true) p (subst (λ (y : Float). le (round binary32 false n 1) y ≡ true) f l)))

-- ---- a negative fraction is rounded as its magnitude

odd_neg : (d q k l : ℕ) → odd d true q k l ≡ neg (odd d false q k l)
unfolding odd neg
odd_neg d zero k l = refl
odd_neg d (suc q) k l = refl

cond_neg : (t : Bool) (x y : Float) → cond t (neg x) (neg y) ≡ neg (cond t x y)
cond_neg true x y = refl
cond_neg false x y = refl

units_neg : (q k : ℕ) → units binary32 true q k ≡ neg (units binary32 false q k)
unfolding units neg
units_neg q k = ap (λ (x : Float). cond (ltb (q * 2 ^ k) (2 ^ 277)) x (inf true)) (odd_neg 25 q k 149) ∙ cond_neg (ltb (q * 2 ^ k) (2 ^ 277)) (odd 25 false q k 149) (inf false)

pub round_neg : (a b : ℕ) → round binary32 true a b ≡ neg (round binary32 false a b)
round_neg a b = round_is binary32 true a b ∙ units_neg (kept 24 (a * 2 ^ 149) b) (drop 24 (a * 2 ^ 149) b) ∙ ap neg (sym (round_is binary32 false a b))

pub bounded_round : (n : ℕ) (s : Bool) (a b : ℕ) → Exact n → 0 < b → a ≤ n * b → Bounded n (round binary32 s a b)
bounded_round n false a b p c h = small_bounded n (round binary32 false a b) (small_round n a b p c h)
bounded_round n true a b p c h = rw (round_neg a b) (neg_bounded n (round binary32 false a b) (small_bounded n (round binary32 false a b) (small_round n a b p c h)))
