-- Where the lists hold an answer, each component can be read, and the pieces printed from the words are the answer's text. Assumes nothing.
use mathlib.Core.Path.{◌≡◌, sym, ap, ◌∙◌}
use mathlib.Core.List.{List, [], ◌∷◌, ◌++◌, append_assoc, append-nil}
use Prim.Native.Nat.{ℕ, zero, suc, ◌+◌, ◌-◌, ◌≤◌, ◌<◌}
use native.Mathlib.Omega.{arith}
use lib.ListN.{length, length-append}
use Rattle.cells.specs.Listed.{Entry}
use Rattle.cells.specs.Sums.{total}
use Rattle.cells.specs.Holes.{holes}
use Rattle.walk.specs.Call.{component_words, entry_words, all_entries}
use Rattle.walk.specs.Read.{before_of, count_of, holes_of, component_at, components_from}
use Rattle.walk.proofs.ByPlace.{entries_count}
use Rattle.walk.proofs.Writing.{length_entry_words, length_component_words}
use Rattle.walk.proofs.ReadBack.{reads_back, holes_of_lem, starts_at, entries_in_all}
use Rattle.digits.specs.Digits.{decimal_of}
use Rattle.gridtext.specs.Answer.{numbers_line, entry_lines, component_lines, components_text}
use Rattle.gridtext.specs.inner.Printed.{last_fields}
use Rattle.gridtext.specs.inner.Held.{Holds, Readable}
use Rattle.gridtext.proofs.Joining.{joined, component_piece, components_joined}

-- ---- a component

total_grows : (f : ℕ → ℕ) (i d : ℕ) → total f i ≤ total f (d + i)
unfolding total
total_grows f i zero = let e : 0 + i ≡ i = omega arith in rw e (omega arith)
total_grows f i (suc d) = let e : suc d + i ≡ suc (d + i) = omega arith in rw e (omega (arith, total_grows f i d))

pub readable : {c e : List ℕ} {count : ℕ} {answer : List (List Entry)} → Holds c e count answer → (j : ℕ) → j < count → Readable c e j
unfolding total
readable {c} {e} {count} {answer} h j l =
    let b : j < length answer = omega (arith, h.count_is) in
    let d : length answer - suc j + suc j ≡ length answer = omega arith in
    let g = rw d at (total_grows (count_of c) (suc j) (length answer - suc j)) in
    let s = starts_at c e answer h.past h.rest h.components_are h.entries_are j b in
    let n = entries_in_all c e answer h.past h.rest h.components_are h.entries_are in
    record {
      here = omega (arith, ap length h.components_are, length-append (component_words 0 answer) h.past, length_component_words 0 answer);
      all = omega (arith, g, s, n, ap length h.entries_are, length-append (entry_words (all_entries answer)) h.rest, length_entry_words (all_entries answer));
      holes_are = holes_of_lem c e answer h.past h.rest h.components_are h.entries_are j b;
    }

-- "component"
abbrev pub component_word : List ℕ
component_word = 99 ∷ 111 ∷ 109 ∷ 112 ∷ 111 ∷ 110 ∷ 101 ∷ 110 ∷ 116 ∷ []

-- the fields of component j, as its words give them
abbrev pub component_fields : (components : List ℕ) → ℕ → List ℕ
component_fields components j = last_fields (decimal_of j ∷ decimal_of (count_of components j) ∷ decimal_of (holes_of components j) ∷ [])

pub component_parts : (components entries : List ℕ) (j : ℕ) → Readable components entries j → (component_word ++ component_fields components j) ++ entry_lines (component_at components entries j) ≡ component_piece components entries j
unfolding component_lines numbers_line
component_parts c e j r =
    let es = component_at c e j in
    let n : count_of c j ≡ length es = sym (entries_count e (before_of c j) (count_of c j)) in
    ap (λ (h : ℕ). (component_word ++ last_fields (decimal_of j ∷ decimal_of (count_of c j) ∷ decimal_of h ∷ [])) ++ entry_lines es) r.holes_are
    ∙ ap (λ (k : ℕ). (component_word ++ last_fields (decimal_of j ∷ decimal_of k ∷ decimal_of (holes es) ∷ [])) ++ entry_lines es) n
    ∙ ap (λ (l : List ℕ). (component_word ++ last_fields (decimal_of j ∷ decimal_of (length es) ∷ decimal_of (holes es) ∷ [])) ++ l) (sym (append-nil (entry_lines es)))

pub component_first : (components entries : List ℕ) (j : ℕ) → Readable components entries j → component_word ++ (component_fields components j ++ entry_lines (component_at components entries j)) ≡ component_piece components entries j
component_first c e j r = sym (append_assoc component_word (component_fields c j) (entry_lines (component_at c e j))) ∙ component_parts c e j r

-- ---- the answer

-- "components"
abbrev pub count_word : List ℕ
count_word = 99 ∷ 111 ∷ 109 ∷ 112 ∷ 111 ∷ 110 ∷ 101 ∷ 110 ∷ 116 ∷ 115 ∷ []

pub answer_parts : {c e : List ℕ} {count : ℕ} {answer : List (List Entry)} → Holds c e count answer → (count_word ++ last_fields (decimal_of count ∷ [])) ++ joined (component_piece c e) count ≡ components_text answer
unfolding components_text numbers_line
answer_parts {c} {e} {count} {answer} h =
    ap (λ (l : List ℕ). (count_word ++ last_fields (decimal_of count ∷ [])) ++ l) (components_joined c e count)
    ∙ ap (λ (k : ℕ). (count_word ++ last_fields (decimal_of k ∷ [])) ++ component_lines 0 (components_from c e 0 k)) h.count_is
    ∙ ap (λ (o : List (List Entry)). (count_word ++ last_fields (decimal_of (length answer) ∷ [])) ++ component_lines 0 o) (reads_back c e answer h.past h.rest h.components_are h.entries_are)

pub answer_first : {c e : List ℕ} {count : ℕ} {answer : List (List Entry)} → Holds c e count answer → count_word ++ (last_fields (decimal_of count ∷ []) ++ joined (component_piece c e) count) ≡ components_text answer
answer_first {c} {e} {count} h = sym (append_assoc count_word (last_fields (decimal_of count ∷ [])) (joined (component_piece c e) count)) ∙ answer_parts h
