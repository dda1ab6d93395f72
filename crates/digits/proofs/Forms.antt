-- The two forms of a word as numerals: eight digits in base sixteen, and as few as hold it in base ten. Neither end is a digit, so where a
-- form stands before its end, it is the run of digits there; and no other value's form stands there. Assumes nothing.
use mathlib.Core.Path.{◌≡◌, refl, sym, ap, ◌∙◌, subst}
use mathlib.Core.List.{List, ◌∷◌, ◌++◌, tail}
use Prim.Native.Nat.{ℕ, zero, suc, ◌+◌, ◌-◌, ◌/◌, ◌%◌, ◌^◌, ◌<◌, ◌≤◌}
use native.Mathlib.Decide.{dec_lt}
use native.Mathlib.Nat.{add-zero}
use native.Mathlib.Numerals.{add-one}
use native.Mathlib.Omega.{arith}
use lib.ListN.{length, get_or, drop, length-append, length-drop, get_or-append}
use lib.Seq.{get_or-drop, get_or_at, drop_at, drop-cons}
use Rattle.std.proofs.Common.{Some, None}
use Rattle.io.specs.Digits.{IsDigitCount}
use Rattle.digits.specs.declared.End.{End}
use Rattle.digits.specs.declared.End.TheVariants.{Blank, Feed}
use Rattle.digits.specs.Digits.{hex_of, decimal_of}
use Rattle.digits.specs.inner.Run.{numeral, NoDigit, Run}
use Rattle.digits.specs.Taken.{end_byte, words, Stands, Takes}
use Rattle.digits.specs.Taken.Takes.{nothing, word}
use Rattle.digits.proofs.Numerals.{numeral_length, numeral_digit, one_run, by_digit}
use Rattle.digits.proofs.Places.{places, fewest, word_places, decimal_numeral, nought_first, first_nought}

sevens : (n : ℕ) → (n / 0x10000000 ≡ n / 16 / 16 / 16 / 16 / 16 / 16 / 16) × (n / 0x1000000 ≡ n / 16 / 16 / 16 / 16 / 16 / 16) × (n / 0x100000 ≡ n / 16 / 16 / 16 / 16 / 16) × (n / 0x10000 ≡ n / 16 / 16 / 16 / 16) × (n / 0x1000 ≡ n / 16 / 16 / 16) × (n / 0x100 ≡ n / 16 / 16)
sevens n = omega arith

pub hex_numeral : (n : ℕ) → hex_of n ≡ numeral 16 8 n
unfolding numeral
hex_numeral n = let e = sevens n in rw (e.0, e.1, e.2, e.3, e.4, e.5)

pub no_digit : (base byte : ℕ) → byte < 48 → NoDigit base byte
no_digit base byte l v h e = by_digit byte v e (λ a b. omega arith) (λ a b. omega arith)

pub end_low : (end : End) → end_byte end < 48
end_low Blank = omega arith
end_low Feed = omega arith

-- what a byte at the front says of a text
pub front : (text : List ℕ) (n e : ℕ) (rest : List ℕ) → drop n text ≡ e ∷ rest → (n < length text) × (get_or text n 0 ≡ e)
front text n e rest is =
    let l : length text - n ≡ suc (length rest) = sym (length-drop n text) ∙ ap length is in
    let g : get_or (drop n text) 0 0 ≡ e = ap (λ (xs : List ℕ). get_or xs 0 0) is in
    (omega arith, rw (get_or-drop, add-zero) at g)

module _ {text : List ℕ} {at base most value count : ℕ} (run : Run text at base most value count) where
  pub run_within : 0 < count → at + count ≤ length text
  run_within h =
      let e : length text - at ≡ count + (length text - (at + count)) = sym (length-drop at text) ∙ ap length run.is ∙ simp (length-append, numeral_length, length-drop) in
      omega arith

  -- the run and its end are a form
  pub stands : (form : ℕ → List ℕ) (e : ℕ) → value < words → form value ≡ numeral base count value → at + count < length text → get_or text (at + count) 0 ≡ e → Stands form text at e value (at + count + 1)
  stands form e w f l g = record {
    word = w;
    is = rw (f, add-one, ← g, ← drop-cons text (at + count) 0 l) run.is;
    on = rw (f, numeral_length);
  }

module _ {text : List ℕ} {at value count : ℕ} where
  -- where a word's form stands, it is the run
  pub hex_run : Run text at 16 8 value count → (v e : ℕ) (rest : List ℕ) → v < words → NoDigit 16 e → drop at text ≡ hex_of v ++ (e ∷ rest) → (8 ≡ count) × (v ≡ value) × (drop (at + count) text ≡ e ∷ rest)
  hex_run run v e rest w other is = one_run 16 (omega arith) (omega arith) text at 8 value count run 8 v e rest (omega arith) (omega arith) other (is ∙ ap (λ (l : List ℕ). l ++ (e ∷ rest)) (hex_numeral v))

  pub decimal_run : Run text at 10 10 value count → (v e : ℕ) (rest : List ℕ) → v < words → NoDigit 10 e → drop at text ≡ decimal_of v ++ (e ∷ rest) → IsDigitCount 10 1 value count × (v ≡ value) × (drop (at + count) text ≡ e ∷ rest)
  decimal_run run v e rest w other is =
      let f = fewest v in
      let o = one_run 10 (omega arith) (omega arith) text at 10 value count run (places v) v e rest f.1 (word_places v w) other (rw (decimal_numeral v (places v) f) at is) in
      (rw (o.0, o.1) at f, o.1, o.2)

-- a numeral before a byte that is no digit is the run there
run_of_lem : (base most k w e : ℕ) (s : List ℕ) → w < base ^ k → k ≤ most → NoDigit base e → Run (numeral base k w ++ (e ∷ s)) 0 base most w k
run_of_lem base most k w e s h m other =
    let l = numeral_length base k w in
    let z : 0 + k ≡ k = omega arith in
    record {
      is = rw (z, drop_at (numeral base k w) (e ∷ s) k l);
      below = h;
      few = m;
      ends = λ _ _. rw (z, get_or_at (numeral base k w) e s 0 k l) other;
    }

-- a byte marks where a form ends: of two words' forms before it, one is the other
abbrev pub Marked : (ℕ → List ℕ) → ℕ → Type 0
Marked form end =
    (v w : ℕ) (r s : List ℕ) → v < words → w < words → form v ++ (end ∷ r) ≡ form w ++ (end ∷ s) → (v ≡ w) × (r ≡ s)

pub one_hex : (end : End) → Marked hex_of (end_byte end)
one_hex end v w r s a b is =
    let e = end_byte end in
    let other = no_digit 16 e (end_low end) in
    let run = run_of_lem 16 8 8 w e s (omega arith) (omega arith) other in
    let o = hex_run run v e r a other (sym (ap (λ (l : List ℕ). l ++ (e ∷ s)) (hex_numeral w)) ∙ sym is) in
    (o.1, ap tail (sym o.2 ∙ drop_at (numeral 16 8 w) (e ∷ s) 8 (numeral_length 16 8 w)))

-- a decimal form before either end is the run there, so that the ends are one too
pub decimal_ends : (d end : End) (v w : ℕ) (r s : List ℕ) → v < words → w < words → decimal_of v ++ (end_byte d ∷ r) ≡ decimal_of w ++ (end_byte end ∷ s) → (v ≡ w) × (end_byte d ∷ r ≡ end_byte end ∷ s)
decimal_ends d end v w r s a b is =
    let e = end_byte end in
    let f = fewest w in
    let run = run_of_lem 10 10 (places w) w e s f.1 (word_places w b) (no_digit 10 e (end_low end)) in
    let o = decimal_run run v (end_byte d) r a (no_digit 10 (end_byte d) (end_low d)) (sym (ap (λ (l : List ℕ). l ++ (e ∷ s)) (decimal_numeral w (places w) f)) ∙ sym is) in
    let z : 0 + places w ≡ places w = omega arith in
    (o.1, sym o.2 ∙ ap (λ (n : ℕ). drop n (numeral 10 (places w) w ++ (e ∷ s))) z ∙ drop_at (numeral 10 (places w) w) (e ∷ s) (places w) (numeral_length 10 (places w) w))

pub one_decimal : (end : End) → Marked decimal_of (end_byte end)
one_decimal end v w r s a b is = let o = decimal_ends end end v w r s a b is in (o.0, ap tail o.1)

-- a form begins with a digit
pub hex_first : (v : ℕ) (rest : List ℕ) → NoDigit 16 (get_or (hex_of v ++ rest) 0 0) → ⊥
hex_first v rest other = other (v / 0x10000000 % 16) (omega arith) refl

pub decimal_first : (v : ℕ) (rest : List ℕ) → NoDigit 16 (get_or (decimal_of v ++ rest) 0 0) → ⊥
decimal_first v rest other =
    let f = fewest v in
    let n = decimal_numeral v (places v) f in
    let d = numeral_digit 10 (omega arith) (places v) v 0 f.0 in
    other d.0 (omega (arith, d.1)) (rw n (get_or-append (numeral 10 (places v) v) rest 0 0 (rw numeral_length f.0) ∙ d.2))

-- a decimal form does not begin with a nought before another digit
pub no_leading_nought : (v : ℕ) (r rest : List ℕ) → decimal_of v ++ (32 ∷ r) ≡ 48 ∷ 48 ∷ rest → ⊥
no_leading_nought v r rest e = go (places v) (fewest v) (sym (ap (λ (l : List ℕ). l ++ (32 ∷ r)) (decimal_numeral v (places v) (fewest v))) ∙ e)
  where
    go : (k : ℕ) → IsDigitCount 10 1 v k → numeral 10 k v ++ (32 ∷ r) ≡ 48 ∷ 48 ∷ rest → ⊥
    go zero f q = omega (arith, f.0)
    go (suc zero) f q =
        omega (arith, sym (get_or_at (numeral 10 1 v) 32 r 0 1 (numeral_length 10 1 v)) ∙ ap (λ (l : List ℕ). get_or l 1 0) q)
    go (suc (suc j)) f q =
        let n = nought_first (suc j) v f.1 (sym (get_or-append (numeral 10 (suc (suc j)) v) (32 ∷ r) 0 0 (rw numeral_length (omega arith))) ∙ ap (λ (l : List ℕ). get_or l 0 0) q) in
        let z : suc (suc j) - 1 ≡ suc j = omega arith in
        omega (arith, rw z at (f.2 (omega arith)))

-- ---- what the readers answer

module _ {text : List ℕ} {at value count : ℕ} (end : End) where
  pub no_hex : Run text at 16 8 value count → ((8 ≡ count) → at + count < length text → get_or text (at + count) 0 ≡ end_byte end → ⊥) → Takes hex_of text at (end_byte end) None
  no_hex run unless =
      nothing
      (λ v rest w is.
      let o = hex_run run v (end_byte end) rest w (no_digit 16 (end_byte end) (end_low end)) is in
      let f = front text (at + count) (end_byte end) rest o.2 in
      unless o.0 f.0 f.1)

  pub no_decimal : Run text at 10 10 value count → (IsDigitCount 10 1 value count → value < words → at + count < length text → get_or text (at + count) 0 ≡ end_byte end → ⊥) → Takes decimal_of text at (end_byte end) None
  no_decimal run unless =
      nothing
      (λ v rest w is.
      let o = decimal_run run v (end_byte end) rest w (no_digit 10 (end_byte end) (end_low end)) is in
      let f = front text (at + count) (end_byte end) rest o.2 in
      unless o.0 (rw o.1 at w) f.0 f.1)

-- a run that begins with a nought has a digit to spare, unless it has one only
module _ {text : List ℕ} {at value : ℕ} where
  first_byte : (k : ℕ) → Run text at 10 10 value (suc k) → get_or text at 0 ≡ get_or (numeral 10 (suc k) value) 0 0
  first_byte k run =
      let g : get_or (drop at text) 0 0 ≡ get_or (numeral 10 (suc k) value) 0 0 = ap (λ (l : List ℕ). get_or l 0 0) run.is ∙ get_or-append (numeral 10 (suc k) value) _ 0 0 (rw numeral_length (omega arith)) in
      rw (get_or-drop, add-zero) at g

  pub spare : (count : ℕ) → Run text at 10 10 value count → get_or text at 0 ≡ 48 → 1 < count → IsDigitCount 10 1 value count → ⊥
  spare zero run e l f = omega arith
  spare (suc k) run e l f =
      let n = nought_first k value run.below (sym (first_byte k run) ∙ e) in
      let z : suc k - 1 ≡ k = omega arith in
      omega (arith, rw z at (f.2 l))

  pub none_spare : (count : ℕ) → Run text at 10 10 value count → 0 < count → (1 < count → get_or text at 0 ≡ 48 → ⊥) → IsDigitCount 10 1 value count
  none_spare zero run h other = absurd (omega arith)
  none_spare (suc k) run h other =
      let z : suc k - 1 ≡ k = omega arith in
      (h, run.below, λ l. rw z (go (dec_lt value (10 ^ k)) l))
    where
      go : Dec (value < 10 ^ k) → 1 < suc k → 10 ^ k ≤ value
      go (yes b) l = absurd (other l (first_byte k run ∙ first_nought k value b))
      go (no b) l = omega (arith, b)

module _ {text : List ℕ} {at value count : ℕ} (end : End) where
  pub hex_word : Run text at 16 8 value count → 8 ≡ count → at + 8 < length text → get_or text (at + 8) 0 ≡ end_byte end → Takes hex_of text at (end_byte end) (Some (record { value = value; next = at + 9 }))
  hex_word run q l g =
      let r : Run text at 16 8 value 8 = subst (λ (n : ℕ). Run text at 16 8 value n) (sym q) run in
      let n : at + 8 + 1 ≡ at + 9 = omega arith in
      word (rw n at (stands r hex_of (end_byte end) (omega (arith, r.below)) (hex_numeral value) l g))

  pub decimal_word : Run text at 10 10 value count → IsDigitCount 10 1 value count → value < words → at + count < length text → get_or text (at + count) 0 ≡ end_byte end → Takes decimal_of text at (end_byte end) (Some (record { value = value; next = at + count + 1 }))
  decimal_word run f w l g = word (stands run decimal_of (end_byte end) w (decimal_numeral value count f) l g)
