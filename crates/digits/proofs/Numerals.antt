-- Laws of numerals: one digit more, every place is a digit, two numbers of as many digits differ in a digit; so a run of digits is the only
-- numeral that stands there before a byte that is no digit. Assumes nothing.
use mathlib.Core.Bool.{Bool, true, false}
use mathlib.Core.Path.{◌≡◌, refl, sym, ap, ◌∙◌}
use mathlib.Core.List.{List, [], ◌∷◌, ◌++◌, append_assoc}
use Prim.Native.Nat.{ℕ, zero, suc, ◌+◌, ◌*◌, ◌-◌, ◌/◌, ◌%◌, ◌^◌, ◌<◌, ◌≤◌}
use native.Mathlib.Decide.{dec_lt}
use native.Mathlib.Nat.{mul-add-div_right, mul-add-mod_self_right, div-eq_of_lt, mod-eq_of_lt, mod-lt, div-add-mod', div-lt_iff_lt-mul, mul-le-mul_right, add-mul, one-mul, pow-zero, pow-suc, pow-le-pow_right}
use native.Mathlib.Numerals.{add-one}
use native.Mathlib.Omega.{arith}
use borrow.Author.Tests.{ltb-true, ltb-false}
use lib.Dec.{ltb}
use lib.ListN.{length, get_or, take, drop, length-append, length-drop, get_or-append}
use lib.Seq.{take_at, drop_at, get_or_at, get_or-drop, drop-cons}
use Rattle.digits.specs.Digits.{digit_of}
use Rattle.digits.specs.inner.Run.{numeral, NoDigit, Run}

-- a digit is one of the ten, or a letter
pub by_digit : {P : Type 0} (byte v : ℕ) → byte ≡ digit_of v → (v < 10 → byte ≡ v + 48 → P) → (10 ≤ v → byte ≡ v + 55 → P) → P
by_digit {P} byte v e ten letter = go (ltb v 10) refl
  where
    go : (t : Bool) → ltb v 10 ≡ t → P
    go true q = ten (ltb-true v 10 q) (rw q at e)
    go false q = letter (ltb-false v 10 q) (rw q at e)

pub one_digit : (v w : ℕ) → v < 16 → w < 16 → digit_of v ≡ digit_of w → v ≡ w
one_digit v w a b e =
    by_digit (digit_of v) v refl
    (λ l p. by_digit (digit_of v) w e (λ m q. omega (arith, p, q)) (λ m q. absurd (omega (arith, p, q))))
    (λ l p. by_digit (digit_of v) w e (λ m q. absurd (omega (arith, p, q))) (λ m q. omega (arith, p, q)))

-- two lists that begin with as many elements
pub split_equal : {A : Type 0} (xs ys us vs : List A) → length xs ≡ length ys → xs ++ us ≡ ys ++ vs → (xs ≡ ys) × (us ≡ vs)
split_equal xs ys us vs l e = (
  sym (take_at xs us (length ys) l) ∙ ap (take (length ys)) e ∙ take_at ys vs (length ys) refl,
  sym (drop_at xs us (length ys) l) ∙ ap (drop (length ys)) e ∙ drop_at ys vs (length ys) refl,
)

pub numeral_length : (base k n : ℕ) → length (numeral base k n) ≡ k
unfolding numeral
numeral_length base zero n = refl
numeral_length base (suc k) n = simp length-append (rw (numeral_length base k (n / base)) (omega arith))

module _ (base : ℕ) where
  pub numeral_more : (k n d : ℕ) → d < base → numeral base (k + 1) (n * base + d) ≡ numeral base k n ++ (digit_of d ∷ [])
  unfolding numeral
  numeral_more k n d h =
      let z : 0 < base = omega arith in
      let q : (n * base + d) / base ≡ n = mul-add-div_right z n d ∙ rw (div-eq_of_lt h) (omega arith) in
      let m : (n * base + d) % base ≡ d = mul-add-mod_self_right n base d ∙ mod-eq_of_lt h in
      rw (add-one, q, m)

  pub more_below : (k n d : ℕ) → n < base ^ k → d < base → n * base + d < base ^ (k + 1)
  more_below k n d h l =
      let m : (n + 1) * base ≤ base ^ k * base = mul-le-mul_right base (omega arith) in
      let e : (n + 1) * base ≡ n * base + base = add-mul n 1 base ∙ ap (λ (x : ℕ). n * base + x) (one-mul base) in
      rw (add-one, pow-suc) (omega (arith, m, e))

  module _ (some : 0 < base) where
    pub numeral_digit : (k n j : ℕ) → j < k → (d : ℕ) × (d < base) × (get_or (numeral base k n) j 0 ≡ digit_of d)
    unfolding numeral
    numeral_digit zero n j h = absurd (omega arith)
    numeral_digit (suc k) n j h = go (dec_lt j k) (numeral_digit k (n / base) j)
      where
        go : Dec (j < k)
            → (j < k → (d : ℕ) × (d < base) × (get_or (numeral base k (n / base)) j 0 ≡ digit_of d))
            → (d : ℕ) × (d < base) × (get_or (numeral base k (n / base) ++ (digit_of (n % base) ∷ [])) j 0 ≡ digit_of d)
        go (yes l) less =
            let i = less l in
            (i.0, i.1, get_or-append (numeral base k (n / base)) _ 0 j (rw numeral_length l) ∙ i.2)
        go (no l) less =
            (n % base, mod-lt n some, get_or_at (numeral base k (n / base)) _ [] 0 j (numeral_length base k (n / base) ∙ omega (arith, l)))

    module _ (few : base ≤ 16) where
      pub one_numeral : (k v w : ℕ) → v < base ^ k → w < base ^ k → numeral base k v ≡ numeral base k w → v ≡ w
      unfolding numeral
      one_numeral zero v w a b e = omega (arith, rw pow-zero at a, rw pow-zero at b)
      one_numeral (suc k) v w a b e =
          let s = split_equal (numeral base k (v / base)) (numeral base k (w / base)) _ _ (numeral_length base k (v / base) ∙ sym (numeral_length base k (w / base))) e in
          let h = one_numeral k (v / base) (w / base) ((div-lt_iff_lt-mul some).1 (rw pow-suc at a)) ((div-lt_iff_lt-mul some).1 (rw pow-suc at b)) s.0 in
          let m = mod-lt v some in
          let n = mod-lt w some in
          let d = one_digit (v % base) (w % base) (omega arith) (omega arith) (cc) in
          sym (div-add-mod' v base) ∙ rw (h, d) (div-add-mod' w base)

      -- a run of digits is the only numeral that a byte other than a digit follows
      module _ (text : List ℕ) (at most value count : ℕ) (run : Run text at base most value count) where
        pub one_run : (k v e : ℕ) (rest : List ℕ) → v < base ^ k → k ≤ most → NoDigit base e → drop at text ≡ numeral base k v ++ (e ∷ rest) → (k ≡ count) × (v ≡ value) × (drop (at + count) text ≡ e ∷ rest)
        one_run k v e rest h m other is = go (dec_lt k count) (dec_lt count k)
          where
            size : length text - at ≡ k + (1 + length rest)
            size = sym (length-drop at text) ∙ ap length is ∙ simp (length-append, numeral_length) (omega arith)

            early : count < k → ⊥
            early l =
                let d = numeral_digit k v count l in
                run.ends (omega arith) (omega (arith, size)) d.0 d.1
                (sym (get_or-drop at text count 0) ∙ ap (λ (xs : List ℕ). get_or xs count 0) is ∙ get_or-append (numeral base k v) _ 0 count (rw numeral_length l) ∙ d.2)

            late : k < count → ⊥
            late l =
                let d = numeral_digit count value k l in
                other d.0 d.1
                (sym (get_or_at (numeral base k v) e rest 0 k (numeral_length base k v)) ∙ ap (λ (xs : List ℕ). get_or xs k 0) (sym is ∙ run.is) ∙ get_or-append (numeral base count value) _ 0 k (rw numeral_length l) ∙ d.2)

            same : k ≡ count → (k ≡ count) × (v ≡ value) × (drop (at + count) text ≡ e ∷ rest)
            same q =
                let s = split_equal (numeral base k v) (numeral base count value) _ _ (numeral_length base k v ∙ q ∙ sym (numeral_length base count value)) (sym is ∙ run.is) in
                (q, one_numeral count v value (rw q at h) run.below (rw q at s.0), sym s.1)

            go : Dec (k < count) → Dec (count < k) → (k ≡ count) × (v ≡ value) × (drop (at + count) text ≡ e ∷ rest)
            go (yes l) _ = absurd (late l)
            go (no _) (yes l) = absurd (early l)
            go (no a) (no b) = same (omega (arith, a, b))

-- ---- the loop that takes a run

-- the digits passed so far
pub record Spelt (text : List ℕ) (at base most value count : ℕ) : Type 0 where
  pub within : at + count ≤ length text
  pub few : count ≤ most
  pub below : value < base ^ count
  pub is : drop at text ≡ numeral base count value ++ drop (at + count) text

pub spelt_none : (text : List ℕ) (at base most : ℕ) → at ≤ length text → Spelt text at base most 0 0
unfolding numeral
spelt_none text at base most h =
    let z : at + 0 ≡ at = omega arith in
    record { within = omega arith; few = omega arith; below = rw pow-zero (omega arith); is = rw z }

-- past its end a text has no digits
pub spelt_nowhere : (text : List ℕ) (at base most : ℕ) → length text ≤ at → Run text at base most 0 0
unfolding numeral
spelt_nowhere text at base most h =
    let z : at + 0 ≡ at = omega arith in
    record { is = rw z; below = rw pow-zero (omega arith); few = omega arith; ends = λ l m. absurd (omega arith) }

module _ {text : List ℕ} {at base most value count : ℕ} (so : Spelt text at base most value count) where
  pub spelt_run : (count < most → at + count < length text → NoDigit base (get_or text (at + count) 0)) → Run text at base most value count
  spelt_run ends = record { is = so.is; below = so.below; few = so.few; ends = ends }

  module _ (d : ℕ) (l : count < most) (digit : d < base) where
    pub spelt_small : base ^ most ≤ 10000000000 → value * base + d < 10000000000
    spelt_small h =
        let p = pow-le-pow_right {n = base} (omega arith) {i = count + 1} {j = most} (omega arith) in
        omega (arith, p, more_below base count value d so.below digit)

    pub spelt_more : at + count < length text → get_or text (at + count) 0 ≡ digit_of d → Spelt text at base most (value * base + d) (count + 1)
    spelt_more h e =
        let z : at + (count + 1) ≡ suc (at + count) = omega arith in record {
          within = omega arith;
          few = omega arith;
          below = more_below base count value d so.below digit;
          is =
              so.is
              ∙ rw (numeral_more base count value d digit, append_assoc, z, drop-cons text (at + count) 0 h, e);
        }
