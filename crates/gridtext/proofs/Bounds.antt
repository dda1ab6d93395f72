-- How long a text can be: a word takes ten digits at most, and each line has so many of them. Assumes nothing.
use mathlib.Core.Path.{◌≡◌, ap}
use mathlib.Core.List.{List, [], ◌∷◌, ◌++◌}
use Prim.Native.Nat.{ℕ, zero, suc, ◌+◌, ◌*◌, ◌≤◌, ◌<◌}
use native.Mathlib.Omega.{arith}
use lib.ListN.{length, get_or, length-append}
use mir.Syntax.{w32}
use mir.Val.{Fits}
use Rattle.cells.specs.Listed.{Entry}
use Rattle.cells.specs.Sums.{total}
use Rattle.walk.specs.Call.{all_entries}
use Rattle.walk.specs.Read.{entry_at, before_of, count_of, holes_of, component_at}
use Rattle.walk.proofs.ReadBack.{entries_in_all}
use Rattle.digits.specs.Digits.{decimal_of}
use Rattle.digits.proofs.Places.{places, fewest, word_places, decimal_places}
use Rattle.gridtext.specs.Lines.{spaced, IsWord}
use Rattle.gridtext.specs.Answer.{numbers_line, bad_text, entry_line, entry_lines, components_text}
use Rattle.gridtext.specs.inner.Printed.{Printed, Room, last_fields}
use Rattle.gridtext.specs.inner.Held.{bad_bytes, refused_bytes, Holds, Printable, Readable, most_bytes}
use Rattle.gridtext.proofs.Joining.{joined, entry_piece, entries_joined, component_piece}
use Rattle.gridtext.proofs.Reading.{readable, component_word, component_fields, component_parts, count_word, answer_parts}

pub digits_most : (n : ℕ) → IsWord n → length (decimal_of n) ≤ 10
digits_most n h = omega (arith, decimal_places n (places n) (fewest n), word_places n h)

-- ---- lines

-- one number more
field_most : (n k : ℕ) (fields : List (List ℕ)) → IsWord n → length (last_fields fields) ≤ k → length (last_fields (decimal_of n ∷ fields)) ≤ k + 11
unfolding spaced
field_most n k fields h l =
    omega (arith, digits_most n h, length-append (decimal_of n) (spaced fields), length-append (spaced fields) (10 ∷ []), length-append (decimal_of n ++ spaced fields) (10 ∷ []))

feed_most : length (last_fields []) ≤ 1
unfolding spaced
feed_most = omega arith

one_most : (a : ℕ) → IsWord a → length (last_fields (decimal_of a ∷ [])) ≤ 12
one_most a h = field_most a 1 [] h feed_most

two_most : (a b : ℕ) → IsWord a → IsWord b → length (last_fields (decimal_of a ∷ decimal_of b ∷ [])) ≤ 23
two_most a b h i = field_most a 12 (decimal_of b ∷ []) h (one_most b i)

three_most : (a b c : ℕ) → IsWord a → IsWord b → IsWord c → length (last_fields (decimal_of a ∷ decimal_of b ∷ decimal_of c ∷ [])) ≤ 34
three_most a b c h i j = field_most a 23 (decimal_of b ∷ decimal_of c ∷ []) h (two_most b c i j)

pub bad_room : (out : List ℕ) (line : ℕ) → IsWord line → bad_bytes ≤ length out → Room out 0 (bad_text line)
unfolding bad_text numbers_line
bad_room out line h r = omega (arith, one_most line h, length-append (98 ∷ 97 ∷ 100 ∷ []) (last_fields (decimal_of line ∷ [])))

-- after a word of seven letters: two numbers, or three
pub two_after : {before out word : List ℕ} {at : ℕ} (a b : ℕ) → Printed before out 0 word at → length word ≡ 7 → IsWord a → IsWord b → refused_bytes ≤ length before → Room out at (last_fields (decimal_of a ∷ decimal_of b ∷ []))
two_after a b p e h i r = omega (arith, two_most a b h i, p.ends, p.len)

pub three_after : {before out word : List ℕ} {at : ℕ} (a b c : ℕ) → Printed before out 0 word at → length word ≡ 7 → IsWord a → IsWord b → IsWord c → refused_bytes ≤ length before → Room out at (last_fields (decimal_of a ∷ decimal_of b ∷ decimal_of c ∷ []))
three_after a b c p e h i j r = omega (arith, three_most a b c h i j, p.ends, p.len)

-- ---- the answer

abbrev Words : List ℕ → Type 0
Words l = (k : ℕ) → IsWord (get_or l k 0)

entry_most : (w : List ℕ) (k : ℕ) → Words w → length (entry_line (entry_at w k)) ≤ 33
unfolding entry_line numbers_line
entry_most w k h =
    let e = entry_at w k in
    omega (arith, digits_most e.u (h (3 * k)), two_most e.v e.corner (h (3 * k + 1)) (h (3 * k + 2)), length-append (decimal_of e.u) (last_fields (decimal_of e.v ∷ decimal_of e.corner ∷ [])))

entries_most : (w : List ℕ) (b n : ℕ) → Words w → length (joined (entry_piece w b) n) ≤ 33 * n
unfolding joined
entries_most w b zero h = omega arith
entries_most w b (suc n) h = omega (arith, entries_most w b n h, entry_most w (b + n) h, length-append (joined (entry_piece w b) n) (entry_piece w b n))

module _ (c e : List ℕ) (cw : Words c) (ew : Words e) where
  component_most : (j : ℕ) → IsWord j → Readable c e j → length (component_piece c e j) ≤ 43 + 33 * count_of c j
  component_most j h r =
      let l = ap length (component_parts c e j r) in
      let m = ap length (entries_joined e (before_of c j) (count_of c j)) in
      omega (arith, l, m, entries_most e (before_of c j) (count_of c j) ew, three_most j (count_of c j) (holes_of c j) h (cw (3 * j + 1)) (cw (3 * j + 2)), length-append component_word (component_fields c j), length-append (component_word ++ component_fields c j) (entry_lines (component_at c e j)))

  components_most : (n : ℕ) → IsWord n → ((j : ℕ) → j < n → Readable c e j) → length (joined (component_piece c e) n) ≤ 43 * n + 33 * total (count_of c) n
  unfolding joined total
  components_most zero h r = omega arith
  components_most (suc n) h r =
      omega (arith, components_most n (omega arith) (λ j l. r j (omega arith)), component_most n (omega arith) (r n (omega arith)), length-append (joined (component_piece c e) n) (component_piece c e n))

  answer_most : (count : ℕ) {answer : List (List Entry)} → IsWord count → Holds c e count answer → length (components_text answer) ≤ most_bytes count (length (all_entries answer))
  unfolding most_bytes
  answer_most count {answer} h held =
      let t = ap length (answer_parts held) in
      let a = entries_in_all c e answer held.past held.rest held.components_are held.entries_are in
      let s = ap (total (count_of c)) held.count_is in
      omega (arith, t, a, s, components_most count h (readable held), one_most count h, length-append count_word (last_fields (decimal_of count ∷ [])), length-append (count_word ++ last_fields (decimal_of count ∷ [])) (joined (component_piece c e) count))

pub answer_room : (c e : List ℕ) (count : ℕ) (out : List ℕ) → ((k : ℕ) → Fits w32 (get_or c k 0)) → ((k : ℕ) → Fits w32 (get_or e k 0)) → Fits w32 count → (p : Printable c e count (length out)) → Room out 0 (components_text p.answer)
answer_room c e count out cw ew h p = omega (arith, p.fits, answer_most c e (λ k. omega (arith, cw k)) (λ k. omega (arith, ew k)) count (omega (arith, h)) p.holds)
