-- Bounds on magnitudes go through sums, differences, products, quotients, squares and a quarter, for bounds that are floats. Assumes nothing.
use mathlib.Core.Path.{◌≡◌, refl, sym, ap, ◌∙◌, subst}
use mathlib.Core.Bool.{Bool, true, false, cond, ◌&&◌, ◌||◌, beq, false≢true}
use Prim.Native.Nat.{ℕ, suc, ◌+◌, ◌-◌, ◌*◌, ◌^◌, ◌≤◌, ◌<◌}
use native.Mathlib.Nat.{le_trans, le_of_eq, mul-le-mul, mul-le-mul_right, mul-one, mul-pos, mul_assoc, mul_comm, mul-mul-mul_comm, add-le-add, add-mul, zero-lt-suc, lt_irrefl}
use native.Mathlib.Omega.{arith}
use borrow.Author.Tests.{ltb-false, eq-eqb, ne_eqb}
use lib.Dec.{ltb, eqb, lit<}
use lib.IntN.{ℤ, pos}
use lib.Ieee.{Float, nan, inf, fin, binary32, neg, add, sub, mul, div, sum, round, le, lt, eq, up, down, unlike}
use lib.Ieee.Fits.{up_pos, down_pos}
use Rattle.measure.specs.Float.{within}
use Rattle.measure.proofs.Rounding.{Small, Bounded, Exact, neg_bounded, le_whole, small_round, bounded_round}

-- ---- a range test is a bound, both ways

pub le_or : (a b : ℕ) → a ≤ b → (ltb a b || (eqb a b && true)) ≡ true
le_or a b h = go (ltb a b) refl
  where
    go : (p : Bool) → ltb a b ≡ p → (ltb a b || (eqb a b && true)) ≡ true
    go true e = rw e
    go false e = let q : a ≡ b = omega (arith, ltb-false a b e) in rw (e, eq-eqb a b q)

whole_le : (q k m : ℕ) (e : ℤ) → m * up e ≤ q * 2 ^ k * down e → le (fin false m e) (fin false q (pos k)) ≡ true
unfolding le lt eq
whole_le q k m e h = le_or (m * up e * 1) (q * 2 ^ k * down e) (le_trans (le_of_eq (mul-one (m * up e))) h)

pub within_bounded : (q k : ℕ) (x : Float) → within (fin false q (pos k)) x ≡ true → Bounded (q * 2 ^ k) x
unfolding within le lt eq
within_bounded q k nan h = absurd (false≢true h)
within_bounded q k (inf t) h = absurd (false≢true h)
within_bounded q k (fin s m e) h = (s, m, e, refl, le_whole q k m e h)

pub bounded_within : (q k : ℕ) (x : Float) → Bounded (q * 2 ^ k) x → within (fin false q (pos k)) x ≡ true
unfolding within
bounded_within q k x (s, m, e, p, h) = rw p (whole_le q k m e h)

-- ---- sums and differences

sum_bounded : (n : ℕ) (s : Bool) (a : ℕ) (t : Bool) (b c : ℕ) → Exact n → 0 < c → a + b ≤ n * c → Bounded n (sum binary32 s a t b c)
unfolding sum
sum_bounded n s a t b c p z h = go (beq s t) (ltb a b)
  where
    go : (u v : Bool) → Bounded n (cond u (round binary32 s (a + b) c) (cond v (round binary32 t (b - a) c) (round binary32 (s && ltb b a) (a - b) c)))
    go true v = bounded_round n s (a + b) c p z h
    go false true = bounded_round n t (b - a) c p z (omega arith)
    go false false = bounded_round n (s && ltb b a) (a - b) c p z (omega arith)

-- two magnitudes over their common denominator
common : (i j m : ℕ) (e : ℤ) (n : ℕ) (d : ℤ) → m * up e ≤ i * down e → n * up d ≤ j * down d → m * up e * down d + n * up d * down e ≤ (i + j) * (down e * down d)
common i j m e n d h k =
    let a : m * up e * down d ≤ i * (down e * down d) = le_trans (mul-le-mul_right (down d) h) (le_of_eq (mul_assoc i (down e) (down d))) in
    let b : n * up d * down e ≤ j * (down e * down d) = le_trans (mul-le-mul_right (down e) k) (le_of_eq (mul_assoc j (down d) (down e) ∙ ap (λ (z : ℕ). j * z) (mul_comm (down d) (down e)))) in
    le_trans (add-le-add a b) (le_of_eq (sym (add-mul i j (down e * down d))))

pub add_bounded : (i j : ℕ) (x y : Float) → Exact (i + j) → Bounded i x → Bounded j y → Bounded (i + j) (add binary32 x y)
unfolding add
add_bounded i j x y p (s, m, e, f, h) (t, n, d, g, k) =
    rw (f, g) (sum_bounded (i + j) s (m * up e * down d) t (n * up d * down e) (down e * down d) p (mul-pos (down_pos e) (down_pos d)) (common i j m e n d h k))

pub sub_bounded : (i j : ℕ) (x y : Float) → Exact (i + j) → Bounded i x → Bounded j y → Bounded (i + j) (sub binary32 x y)
unfolding sub
sub_bounded i j x y p h k = add_bounded i j x (neg y) p h (neg_bounded j y k)

-- ---- products, and quotients of a number by one that is not 0

pub mul_bounded : (i j : ℕ) (x y : Float) → Exact (i * j) → Bounded i x → Bounded j y → Bounded (i * j) (mul binary32 x y)
unfolding mul
mul_bounded i j x y p (s, m, e, f, h) (t, n, d, g, k) =
    rw (f, g) (bounded_round (i * j) (unlike s t) (m * up e * (n * up d)) (down e * down d) p (mul-pos (down_pos e) (down_pos d)) (le_trans (mul-le-mul h k) (le_of_eq (mul-mul-mul_comm i (down e) j (down d)))))

not_zero : (n : ℕ) → eqb (suc n) 0 ≡ false
not_zero n = ne_eqb (suc n) 0 (λ q. lt_irrefl 0 (subst (λ (k : ℕ). 0 < k) q (zero-lt-suc n)))

pub div_bounded : (i : ℕ) (s : Bool) (m : ℕ) (e : ℤ) (t : Bool) (n : ℕ) (d : ℤ) → Exact i → m * up e * down d ≤ i * (suc n * up d * down e) → Bounded i (div binary32 (fin s m e) (fin t (suc n) d))
unfolding div
div_bounded i s m e t n d p h = rw (not_zero n) (bounded_round i (unlike s t) (m * up e * down d) (suc n * up d * down e) p (mul-pos (mul-pos (zero-lt-suc n) (up_pos d)) (down_pos e)) h)

pub div_small : (i m : ℕ) (e : ℤ) (n : ℕ) (d : ℤ) → Exact i → m * up e * down d ≤ i * (suc n * up d * down e) → Small i (div binary32 (fin false m e) (fin false (suc n) d))
unfolding div
div_small i m e n d p h = rw (not_zero n) (small_round i (m * up e * down d) (suc n * up d * down e) p (mul-pos (mul-pos (zero-lt-suc n) (up_pos d)) (down_pos e)) h)

-- ---- a quarter: 4.0 is `fin false 1 (pos 2)`

pub quarter_bounded : (n : ℕ) (x : Float) → Exact n → Bounded (n * 4) x → Bounded n (div binary32 x (fin false 1 (pos 2)))
unfolding div
quarter_bounded n x p (s, m, e, f, h) = rw f (bounded_round n (unlike s false) (m * up e * 1) (1 * 4 * down e) p (mul-pos (lit< tt) (down_pos e)) (le_trans (le_of_eq (mul-one (m * up e))) (le_trans h (le_of_eq (mul_assoc n 4 (down e))))))

-- ---- a square has its sign bit clear, and so has the sum of two such

same_signs : (s : Bool) → unlike s s ≡ false
same_signs true = refl
same_signs false = refl

pub square_small : (n : ℕ) (x : Float) → Exact (n * n) → Bounded n x → Small (n * n) (mul binary32 x x)
unfolding mul
square_small n x p (s, m, e, f, h) =
    rw (f, same_signs s) (small_round (n * n) (m * up e * (m * up e)) (down e * down e) p (mul-pos (down_pos e) (down_pos e)) (le_trans (mul-le-mul h h) (le_of_eq (mul-mul-mul_comm n (down e) n (down e)))))

pub add_small : (i j : ℕ) (x y : Float) → Exact (i + j) → Small i x → Small j y → Small (i + j) (add binary32 x y)
unfolding add sum
add_small i j x y p (m, e, f, h) (n, d, g, k) =
    rw (f, g) (small_round (i + j) (m * up e * down d + n * up d * down e) (down e * down d) p (mul-pos (down_pos e) (down_pos d)) (common i j m e n d h k))
