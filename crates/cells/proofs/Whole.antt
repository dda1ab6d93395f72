-- Linear arithmetic on whole numbers by `omega`: what is above 0 of one, `up`, and what is below, `down`, are natural numbers. List `of`
-- to read an equation, `to` to prove one, and `sum a b`, `opp a` for each sum and each opposite that occurs. Assumes nothing.
use mathlib.Core.Path.{◌≡◌, refl, ap, ap₂}
use Prim.Native.Nat.{ℕ, zero, suc, ◌+◌, ◌-◌, ◌≤◌, ◌<◌}
use native.Mathlib.Omega.{arith}
use native.Mathlib.Decide.{dec_lt}
use borrow.Author.Tests.{lt-ltb, le-ltb}
use lib.IntN.{ℤ, pos, negsuc, neg_ℤ, sub_ℕ, ◌+ℤ◌, ◌-ℤ◌}

pub up : ℤ → ℕ
up (pos n) = n
up (negsuc n) = 0

pub down : ℤ → ℕ
down (pos n) = 0
down (negsuc n) = suc n

sub_neg : (a b : ℕ) → a < b → sub_ℕ a b ≡ negsuc (b - suc a)
sub_neg a b h = rw (lt-ltb a b h)

sub_pos : (a b : ℕ) → b ≤ a → sub_ℕ a b ≡ pos (a - b)
sub_pos a b h = rw (le-ltb a b h)

sub_up_down : (a b : ℕ) → up (sub_ℕ a b) + b ≡ a + down (sub_ℕ a b)
unfolding up down
sub_up_down a b = go (dec_lt a b)
  where
    go : Dec (a < b) → up (sub_ℕ a b) + b ≡ a + down (sub_ℕ a b)
    go (yes h) = rw (sub_neg a b h) (omega arith)
    go (no h) = rw (sub_pos a b (omega arith)) (omega arith)

pub up_pos : (n : ℕ) → (up (pos n) ≡ n) × (down (pos n) ≡ 0)
unfolding up down
up_pos n = (refl, refl)

pub up_negsuc : (n : ℕ) → (up (negsuc n) ≡ 0) × (down (negsuc n) ≡ suc n)
unfolding up down
up_negsuc n = (refl, refl)

-- a sum
pub sum : (a b : ℤ) → up (a +ℤ b) + (down a + down b) ≡ (up a + up b) + down (a +ℤ b)
unfolding up down
sum (pos a) (pos b) = omega arith
sum (pos a) (negsuc b) = omega (arith, sub_up_down a (suc b))
sum (negsuc a) (pos b) = omega (arith, sub_up_down b (suc a))
sum (negsuc a) (negsuc b) = omega arith

-- an opposite
pub opp : (a : ℤ) → (up (neg_ℤ a) ≡ down a) × (down (neg_ℤ a) ≡ up a)
unfolding up down
opp (pos zero) = (refl, refl)
opp (pos (suc n)) = (refl, refl)
opp (negsuc n) = (refl, refl)

pub of : {a b : ℤ} → a ≡ b → up a + down b ≡ up b + down a
of {a} {b} e = rw e refl

pub to : {a b : ℤ} → up a + down b ≡ up b + down a → a ≡ b
unfolding up down
to {a = pos a} {b = pos b} e =
    let f : a ≡ b = omega arith in
    ap pos f
to {a = pos a} {b = negsuc b} e = absurd (omega arith)
to {a = negsuc a} {b = pos b} e = absurd (omega arith)
to {a = negsuc a} {b = negsuc b} e =
    let f : a ≡ b = omega arith in
    ap negsuc f

-- the opposite of a difference
pub minus : (a b : ℤ) → neg_ℤ (b -ℤ a) ≡ a -ℤ b
minus a b = to (omega (arith, sum b (neg_ℤ a), opp a, opp (b -ℤ a), sum a (neg_ℤ b), opp b))

-- equations of the two numbers of a pair
pub pair : {p q : ℤ × ℤ} → p.0 ≡ q.0 → p.1 ≡ q.1 → p ≡ q
pair {p} {q} e f = ap₂ (λ (x y : ℤ). (x, y)) e f

pub of_0 : {p q : ℤ × ℤ} → p ≡ q → up p.0 + down q.0 ≡ up q.0 + down p.0
of_0 e = of (ap (λ (r : ℤ × ℤ). r.0) e)

pub of_1 : {p q : ℤ × ℤ} → p ≡ q → up p.1 + down q.1 ≡ up q.1 + down p.1
of_1 e = of (ap (λ (r : ℤ × ℤ). r.1) e)
