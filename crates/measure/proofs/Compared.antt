-- Finite floats of any width stand in one order: of two at most one is the lesser (`lt_once`), and what is not less than a second, which is
-- not less than a third, is not less than the third (`lt_through`). Assumes nothing.
use mathlib.Core.Path.{◌≡◌, refl, sym, ap, ◌∙◌}
use mathlib.Core.Bool.{true, false}
use Prim.Native.Nat.{ℕ, ◌+◌, ◌*◌, ◌<◌}
use native.Mathlib.Nat.{mul_assoc, mul_comm, mul_left_comm, mul_right_comm, mul-pos, le_trans, le_of_lt}
use native.Mathlib.Omega.{arith}
use borrow.Author.Tests.{ltb-true, ltb-false, le-ltb}
use lib.Dec.{T, ltb}
use lib.Ieee.{Float, nan, inf, fin, lt, up, down}
use lib.Ieee.Exact.{HasValue}
use lib.Ieee.Positive.{num, den, den_pos}
use lib.Ieee.Scale.{finite}
use Rattle.measure.specs.Float.{sign_of}
use Rattle.measure.proofs.Value.{counted, lt_counted}

-- a finite float over a multiple of its own denominator
over : (x : Float) (k p : ℕ) → T (finite x) → den x * k ≡ p → HasValue x (sign_of x) (num x * k) p
over nan k p h e = absurd h
over (inf s) k p h e = absurd h
over (fin s m d) k p h e = (refl, ap (λ (n : ℕ). m * up d * n) (sym e) ∙ sym (mul_assoc (m * up d) (down d) k) ∙ mul_right_comm (m * up d) (down d) k)

-- three over the product of their denominators
module _ (x y z : Float) (fx : T (finite x)) (fy : T (finite y)) (fz : T (finite z)) where
  u : ℕ
  u = num x * (den y * den z)

  v : ℕ
  v = num y * (den x * den z)

  w : ℕ
  w = num z * (den x * den y)

  p : ℕ
  p = den x * (den y * den z)

  some : 0 < p
  unfolding p
  some = mul-pos (den_pos x) (mul-pos (den_pos y) (den_pos z))

  over_x : HasValue x (sign_of x) u p
  unfolding u p
  over_x = over x (den y * den z) _ fx refl

  over_y : HasValue y (sign_of y) v p
  unfolding v p
  over_y = over y (den x * den z) _ fy (mul_left_comm (den y) (den x) (den z))

  over_z : HasValue z (sign_of z) w p
  unfolding w p
  over_z = over z (den x * den y) _ fz (simp (mul_comm, mul_left_comm))

  -- so they are as three whole numbers
  a : ℕ
  a = counted (u + v + w) (sign_of x) u

  b : ℕ
  b = counted (u + v + w) (sign_of y) v

  c : ℕ
  c = counted (u + v + w) (sign_of z) w

  x_y : lt x y ≡ ltb a b
  unfolding a b
  x_y = lt_counted x y u v p (u + v + w) some over_x over_y (omega arith) (omega arith)

  y_x : lt y x ≡ ltb b a
  unfolding a b
  y_x = lt_counted y x v u p (u + v + w) some over_y over_x (omega arith) (omega arith)

  y_z : lt y z ≡ ltb b c
  unfolding b c
  y_z = lt_counted y z v w p (u + v + w) some over_y over_z (omega arith) (omega arith)

  x_z : lt x z ≡ ltb a c
  unfolding a c
  x_z = lt_counted x z u w p (u + v + w) some over_x over_z (omega arith) (omega arith)

  pub lt_through : lt x y ≡ false → lt y z ≡ false → lt x z ≡ false
  lt_through h k = x_z ∙ le-ltb a c (le_trans (ltb-false b c (sym y_z ∙ k)) (ltb-false a b (sym x_y ∙ h)))

  not_both : lt x y ≡ true → lt y x ≡ false
  not_both h = y_x ∙ le-ltb b a (le_of_lt (ltb-true a b (sym x_y ∙ h)))

pub lt_once : (x y : Float) → T (finite x) → T (finite y) → lt x y ≡ true → lt y x ≡ false
lt_once x y fx fy = not_both x y y fx fy fy
