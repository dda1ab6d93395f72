-- Reading undoes writing: the digits that `hex_of` gives spell the word again.
use mathlib.Core.Path.{◌≡◌, refl, sym, ap, ◌∙◌}
use Rattle.std.proofs.Common.{Option, Some, None, unwrap_or}
use Prim.Native.Nat.{ℕ, ◌+◌, ◌*◌, ◌-◌, ◌<◌, ◌≤◌, ◌%◌, ◌/◌}
use native.Mathlib.Decide.{dec_lt}
use native.Mathlib.Omega.{arith}
use borrow.Author.Tests.{lt-ltb, le-ltb}
use Rattle.digits.specs.Digits.{digit_of, hex_of}
use Rattle.digits.specs.inner.Run.{NoDigit, Value}
use Rattle.digits.proofs.Numerals.{by_digit}
use Rattle.vectors.specs.Hex.{value_of, word_at}

-- the value of a digit is the number that it stands for
pub value_of_digit : (v : ℕ) → v < 16 → value_of (digit_of v) ≡ v
unfolding value_of
value_of_digit v h =
    by_digit (digit_of v) v refl
    (λ l e. rw (e, le-ltb (v + 48) 48 (omega arith), lt-ltb (v + 48) 58 (omega arith)) (omega arith))
    (λ l e. rw (e, le-ltb (v + 55) 48 (omega arith), le-ltb (v + 55) 58 (omega arith), le-ltb (v + 55) 65 (omega arith), lt-ltb (v + 55) 71 (omega arith)) (omega arith))

-- a byte that is no digit counts as 0
value_of_other : (byte : ℕ) → NoDigit 16 byte → value_of byte ≡ 0
unfolding value_of
value_of_other byte none = go (dec_lt byte 48) (dec_lt byte 58) (dec_lt byte 65) (dec_lt byte 71)
  where
    ten : 48 ≤ byte → byte < 58 → ⊥
    ten h l = none (byte - 48) (omega arith) (rw (lt-ltb (byte - 48) 10 (omega arith)) (omega arith))

    letter : 65 ≤ byte → byte < 71 → ⊥
    letter h l = none (byte - 55) (omega arith) (rw (le-ltb (byte - 55) 10 (omega arith)) (omega arith))

    go : Dec (byte < 48) → Dec (byte < 58) → Dec (byte < 65) → Dec (byte < 71) → value_of byte ≡ 0
    go (yes a) b c d = rw (lt-ltb byte 48 a)
    go (no a) (yes b) c d = absurd (ten (omega (arith, a)) b)
    go (no a) (no b) (yes c) d = rw (le-ltb byte 48 (omega (arith, a)), le-ltb byte 58 (omega (arith, b)), lt-ltb byte 65 c)
    go (no a) (no b) (no c) (yes d) = absurd (letter (omega (arith, c)) d)
    go (no a) (no b) (no c) (no d) = rw (le-ltb byte 48 (omega (arith, a)), le-ltb byte 58 (omega (arith, b)), le-ltb byte 65 (omega (arith, c)), le-ltb byte 71 (omega (arith, d)))

-- what is made of a digit's value
pub counted : (byte : ℕ) (v : Option ℕ) {n : ℕ} → Value byte v → n ≡ unwrap_or v 0 → (n ≡ value_of byte) × (n < 16)
counted byte (Some v) is e = (e ∙ sym (ap value_of is.1 ∙ value_of_digit v is.0), omega (arith, is.0))
counted byte None none e = (e ∙ sym (value_of_other byte none), omega arith)

two_digits : (n : ℕ) → n / 16 % 16 * 16 + n % 16 ≡ n % 256
two_digits n = omega arith

four_digits : (n : ℕ) → ((n / 4096 % 16 * 16 + n / 256 % 16) * 16 + n / 16 % 16) * 16 + n % 16 ≡ n % 65536
four_digits n =
    let e : n / 4096 ≡ n / 256 / 16 = omega arith in
    rw (e, two_digits (n / 256)) (omega (arith, two_digits n))

digit_below : (n : ℕ) → value_of (digit_of (n % 16)) ≡ n % 16
digit_below n = value_of_digit (n % 16) (omega arith)

high_digits : (n : ℕ) → (n / 0x10000000 ≡ n / 65536 / 4096) × (n / 0x1000000 ≡ n / 65536 / 256) × (n / 0x100000 ≡ n / 65536 / 16)
high_digits n = omega arith

pub word_of_hex : (word : ℕ) → word < 0x100000000 → word_at (hex_of word) 0 ≡ word
unfolding word_at
word_of_hex word h =
    let e = high_digits word in
    simp digit_below (rw (e.0, e.1, e.2, four_digits (word / 65536), four_digits word) (omega arith))
