-- Decimal forms: `places_in` counts the fewest digits, which only one count is, so a numeral of that many digits is the form; and a numeral
-- has a digit to spare exactly where it begins with a nought. Assumes nothing.
use mathlib.Core.Bool.{Bool, true, false}
use mathlib.Core.Path.{◌≡◌, refl, sym, ◌∙◌}
use Prim.Native.Nat.{ℕ, zero, suc, ◌+◌, ◌-◌, ◌*◌, ◌/◌, ◌%◌, ◌^◌, ◌<◌, ◌≤◌}
use native.Mathlib.Decide.{dec_lt}
use native.Mathlib.Nat.{pow-le-pow_right, pow-suc}
use native.Mathlib.Numerals.{unary_clauses}
use native.Mathlib.Omega.{arith}
use borrow.Author.Tests.{ltb-true, ltb-false, lt-ltb}
use lib.Dec.{ltb}
use lib.ListN.{length, get_or, get_or-append}
use Rattle.io.specs.Digits.{last_digits, IsDigitCount}
use Rattle.digits.specs.Digits.{places_in, decimal_of}
use Rattle.digits.specs.inner.Run.{numeral}
use Rattle.digits.proofs.Numerals.{numeral_length, one_digit}

fewest_more : (n j : ℕ) → 10 ≤ n → IsDigitCount 10 1 (n / 10) j → IsDigitCount 10 1 n (suc j)
fewest_more n zero h f = absurd (omega (arith, f.0))
fewest_more n (suc zero) h f = (omega arith, omega (arith, f.1), λ l. omega arith)
fewest_more n (suc (suc i)) h f =
    let a = f.1 in
    let b = f.2 (omega arith) in
    (omega arith, simp unary_clauses (omega (arith, simp unary_clauses at a)), λ l. simp unary_clauses (omega (arith, simp unary_clauses at b)))

places_fewest : (turns n : ℕ) → n ≤ turns → IsDigitCount 10 1 n (places_in turns n)
unfolding places_in
places_fewest zero n h = (omega arith, omega arith, λ l. absurd (omega arith))
places_fewest (suc turns) n h = go (ltb n 10) refl (places_fewest turns (n / 10))
  where
    go : (t : Bool) → ltb n 10 ≡ t → (n / 10 ≤ turns → IsDigitCount 10 1 (n / 10) (places_in turns (n / 10))) → IsDigitCount 10 1 n (places_in (suc turns) n)
    go true e less = rw e (omega arith, omega (arith, ltb-true n 10 e), λ l. absurd (omega arith))
    go false e less =
        let l = ltb-false n 10 e in
        rw e (fewest_more n (places_in turns (n / 10)) l (less (omega arith)))

no_fewer : (n j k : ℕ) → IsDigitCount 10 1 n j → IsDigitCount 10 1 n k → j < k → ⊥
no_fewer n j k f g l =
    let a = pow-le-pow_right {n = 10} (omega arith) {i = j} {j = k - 1} (omega arith) in
    omega (arith, a, f.1, f.0, g.2 (omega (arith, f.0)))

-- one count is the fewest
pub one_fewest : (n j k : ℕ) → IsDigitCount 10 1 n j → IsDigitCount 10 1 n k → j ≡ k
one_fewest n j k f g = go (dec_lt j k) (dec_lt k j)
  where
    go : Dec (j < k) → Dec (k < j) → j ≡ k
    go (yes l) _ = absurd (no_fewer n j k f g l)
    go (no _) (yes l) = absurd (no_fewer n k j g f l)
    go (no a) (no b) = omega (arith, a, b)

-- how many digits n takes
abbrev pub places : ℕ → ℕ
places n = places_in n n

pub fewest : (n : ℕ) → IsDigitCount 10 1 n (places n)
fewest n = places_fewest n n (omega arith)

-- a word takes ten at most
pub word_places : (n : ℕ) → n < 4294967296 → places n ≤ 10
word_places n h = go (dec_lt 10 (places n))
  where
    go : Dec (10 < places n) → places n ≤ 10
    go (yes l) =
        let a = pow-le-pow_right {n = 10} (omega arith) {i = 10} {j = places n - 1} (omega arith) in
        absurd (omega (arith, a, (fewest n).2 (omega arith)))
    go (no l) = omega (arith, l)

-- the kit's digits, of decimals, are those of numerals
pub digits_numeral : (k n : ℕ) → last_digits 10 k n ≡ numeral 10 k n
unfolding numeral
digits_numeral zero n = refl
digits_numeral (suc k) n =
    let m : n % 10 < 10 = omega arith in
    let s : 48 + n % 10 ≡ n % 10 + 48 = omega arith in
    rw (lt-ltb (n % 10) 10 m, digits_numeral k (n / 10), s)

pub decimal_numeral : (n k : ℕ) → IsDigitCount 10 1 n k → decimal_of n ≡ numeral 10 k n
unfolding decimal_of
decimal_numeral n k f = rw (one_fewest n (places n) k (fewest n) f) (digits_numeral k n)

-- a nought begins a numeral exactly where a digit less would do
pub nought_first : (k n : ℕ) → n < 10 ^ suc k → get_or (numeral 10 (suc k) n) 0 0 ≡ 48 → n < 10 ^ k
unfolding numeral
nought_first zero n h e =
    let z = one_digit (n % 10) 0 (omega arith) (omega arith) e in
    omega arith
nought_first (suc k) n h e =
    let l : n < 10 ^ suc k * 10 = rw pow-suc at h in
    let i = nought_first k (n / 10) (omega arith) (sym (get_or-append (numeral 10 (suc k) (n / 10)) _ 0 0 (rw numeral_length (omega arith))) ∙ e) in
    rw pow-suc (omega arith)

pub first_nought : (k n : ℕ) → n < 10 ^ k → get_or (numeral 10 (suc k) n) 0 0 ≡ 48
unfolding numeral
first_nought zero n h = let z : n % 10 ≡ 0 = omega arith in rw z
first_nought (suc k) n h =
    let l : n < 10 ^ k * 10 = rw pow-suc at h in
    get_or-append (numeral 10 (suc k) (n / 10)) _ 0 0 (rw numeral_length (omega arith)) ∙ first_nought k (n / 10) (omega arith)

pub decimal_places : (n k : ℕ) → IsDigitCount 10 1 n k → k ≡ length (decimal_of n)
decimal_places n k f = rw (decimal_numeral n k f) (sym (numeral_length 10 k n))

pub decimal_digits : (n k : ℕ) → IsDigitCount 10 1 n k → decimal_of n ≡ last_digits 10 k n
decimal_digits n k f = decimal_numeral n k f ∙ sym (digits_numeral k n)
