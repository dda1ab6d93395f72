-- Reading the two lists gives back the components that were written at their fronts: each with its entries and its holes, and each component's
-- entries right after those of the components before it. Assumes nothing.
use mathlib.Core.Path.{◌≡◌, refl, sym, ap, ap₂, ◌∙◌}
use mathlib.Core.List.{List, [], ◌∷◌, ◌++◌}
use Prim.Native.Nat.{ℕ, zero, suc, ◌+◌, ◌*◌, ◌≤◌, ◌<◌}
use native.Mathlib.Omega.{arith}
use lib.ListN.{length, get_or, drop, length-append}
use lib.Seq.{drop-cons, drop-drop, drop-length, get_or-drop}
use Rattle.cells.specs.Listed.{Entry}
use Rattle.cells.specs.Sums.{total}
use Rattle.cells.specs.Holes.{holes}
use Rattle.cells.proofs.Listing.{entry_eq}
use Rattle.walk.specs.Call.{entry_words, all_entries, component_words}
use Rattle.walk.specs.Read.{entry_at, entries_from, before_of, count_of, holes_of, component_at, components_from}

-- ---- words from a place on

-- the word at a place, from what stands there
word_at : (words : List ℕ) (a i : ℕ) (from : List ℕ) → drop a words ≡ from → get_or words (a + i) 0 ≡ get_or from i 0
word_at words a i from e = sym (get_or-drop a words i 0) ∙ ap (λ (l : List ℕ). get_or l i 0) e

first_word : (words : List ℕ) (a : ℕ) (from : List ℕ) → drop a words ≡ from → get_or words a 0 ≡ get_or from 0 0
first_word words a from e = ap (λ (k : ℕ). get_or words k 0) (omega arith) ∙ word_at words a 0 from e

-- past a record of three words
three_on : (words : List ℕ) (k a b c : ℕ) (rest : List ℕ) → drop (3 * k) words ≡ a ∷ b ∷ c ∷ rest → drop (3 * (k + 1)) words ≡ rest
three_on words k a b c rest e =
    let s : 3 * (k + 1) ≡ 3 * k + 3 = omega arith in
    ap (λ (n : ℕ). drop n words) s ∙ sym (drop-drop 3 (3 * k) words) ∙ ap (drop 3) e

-- the same place, counted in two ways
same_place : (words : List ℕ) (j k : ℕ) → j ≡ k → drop (3 * j) words ≡ drop (3 * k) words
same_place words j k e = ap (λ (n : ℕ). drop (3 * n) words) e

-- ---- entries

entries_read : (words : List ℕ) (before : ℕ) (es fs : List Entry) (rest : List ℕ) → drop (3 * before) words ≡ entry_words (es ++ fs) ++ rest
    → (entries_from words before (length es) ≡ es) × (drop (3 * (before + length es)) words ≡ entry_words fs ++ rest)
unfolding entry_words entries_from
entries_read words before [] fs rest e = (refl, same_place words (before + 0) before (omega arith) ∙ e)
entries_read words before (x ∷ es) fs rest e =
    let r = entries_read words (before + 1) es fs rest (three_on words before x.u x.v x.corner (entry_words (es ++ fs) ++ rest) e) in
    let o : entry_at words before ≡ x = entry_eq (first_word words (3 * before) (entry_words (x ∷ (es ++ fs)) ++ rest) e) (word_at words (3 * before) 1 (entry_words (x ∷ (es ++ fs)) ++ rest) e) (word_at words (3 * before) 2 (entry_words (x ∷ (es ++ fs)) ++ rest) e) in
    (ap₂ ◌∷◌ o r.0, same_place words (before + suc (length es)) (before + 1 + length es) (omega arith) ∙ r.1)

-- ---- components

-- component j is es, with `before` entries before its own
record ReadAt (components entries : List ℕ) (j before : ℕ) (es : List Entry) : Type 0 where
  before_is : before_of components j ≡ before
  count_is : count_of components j ≡ length es
  holes_are : holes_of components j ≡ holes es
  entries_are : component_at components entries j ≡ es

component_read : (components entries : List ℕ) (j before : ℕ) (es : List Entry) (out : List (List Entry)) (past rest : List ℕ)
    → drop (3 * j) components ≡ component_words before (es ∷ out) ++ past → drop (3 * before) entries ≡ entry_words (all_entries (es ∷ out)) ++ rest → ReadAt components entries j before es
unfolding component_words all_entries
component_read components entries j before es out past rest e f =
    let words = component_words before (es ∷ out) ++ past in
    let b : before_of components j ≡ before = first_word components (3 * j) words e in
    let c : count_of components j ≡ length es = word_at components (3 * j) 1 words e in
    record {
      before_is = b;
      count_is = c;
      holes_are = word_at components (3 * j) 2 words e;
      entries_are = ap₂ (entries_from entries) b c ∙ (entries_read entries before es (all_entries out) rest f).0;
    }

-- the lists hold the components of out at their fronts
module _ (components entries : List ℕ) (out : List (List Entry)) (past rest : List ℕ) (c : components ≡ component_words 0 out ++ past) (e : entries ≡ entry_words (all_entries out) ++ rest) where
  abbrev sum : ℕ → ℕ
  sum j = total (count_of components) j

  -- what stands after the first j components and their entries
  record After (j : ℕ) : Type 0 where
    in_components : drop (3 * j) components ≡ component_words (sum j) (drop j out) ++ past
    in_entries : drop (3 * sum j) entries ≡ entry_words (all_entries (drop j out)) ++ rest
    counts : length (all_entries out) ≡ sum j + length (all_entries (drop j out))

  after_none : After 0
  unfolding total
  after_none = record { in_components = c; in_entries = e; counts = omega arith }

  at : (j : ℕ) → j < length out → drop j out ≡ get_or out j [] ∷ drop (suc j) out
  at j l = drop-cons out j [] l

  here : (j : ℕ) → j < length out → After j → ReadAt components entries j (sum j) (get_or out j [])
  here j l a =
      component_read components entries j (sum j) (get_or out j []) (drop (suc j) out) past rest
      (a.in_components ∙ ap (λ (o : List (List Entry)). component_words (sum j) o ++ past) (at j l))
      (a.in_entries ∙ ap (λ (o : List (List Entry)). entry_words (all_entries o) ++ rest) (at j l))

  after_more : (j : ℕ) → j < length out → After j → After (suc j)
  unfolding total component_words all_entries
  after_more j l a =
      let es = get_or out j [] in
      let fs = drop (suc j) out in
      let n : count_of components j ≡ length es = (here j l a).count_is in
      let p : drop (3 * j) components ≡ sum j ∷ length es ∷ holes es ∷ (component_words (sum j + length es) fs ++ past) = a.in_components ∙ ap (λ (o : List (List Entry)). component_words (sum j) o ++ past) (at j l) in
      let q : drop (3 * sum j) entries ≡ entry_words (es ++ all_entries fs) ++ rest = a.in_entries ∙ ap (λ (o : List (List Entry)). entry_words (all_entries o) ++ rest) (at j l) in
      let r : length (all_entries (drop j out)) ≡ length es + length (all_entries fs) = ap (λ (o : List (List Entry)). length (all_entries o)) (at j l) ∙ length-append es (all_entries fs) in
      record {
        in_components = same_place components (suc j) (j + 1) (omega arith) ∙ three_on components j (sum j) (length es) (holes es) (component_words (sum j + length es) fs ++ past) p ∙ ap (λ (m : ℕ). component_words (sum j + m) fs ++ past) (sym n);
        in_entries = same_place entries (sum j + count_of components j) (sum j + length es) (omega (arith, n)) ∙ (entries_read entries (sum j) es (all_entries fs) rest q).1;
        counts = omega (arith, a.counts, n, r);
      }

  after : (j : ℕ) → j ≤ length out → After j
  after zero l = after_none
  after (suc j) l = after_more j (omega arith) (after j (omega arith))

  reads_from : (j k : ℕ) → j + k ≡ length out → components_from components entries j k ≡ drop j out
  unfolding components_from
  reads_from j zero l =
      let s : j ≡ length out = omega arith in
      sym (ap (λ (n : ℕ). drop n out) s ∙ drop-length out)
  reads_from j (suc k) l =
      let s : j + 1 ≡ suc j = omega arith in
      ap₂ ◌∷◌ (here j (omega arith) (after j (omega arith))).entries_are (reads_from (j + 1) k (omega arith) ∙ ap (λ (n : ℕ). drop n out) s) ∙ sym (at j (omega arith))

  pub reads_back : components_from components entries 0 (length out) ≡ out
  reads_back = reads_from 0 (length out) (omega arith)

  pub component_is : (j : ℕ) → j < length out → component_at components entries j ≡ get_or out j []
  component_is j l = (here j l (after j (omega arith))).entries_are

  pub holes_of_lem : (j : ℕ) → j < length out → holes_of components j ≡ holes (component_at components entries j)
  holes_of_lem j l = (here j l (after j (omega arith))).holes_are ∙ ap holes (sym (component_is j l))

  pub starts_at : (j : ℕ) → j < length out → before_of components j ≡ total (count_of components) j
  starts_at j l = (here j l (after j (omega arith))).before_is

  pub entries_in_all : length (all_entries out) ≡ total (count_of components) (length out)
  unfolding all_entries
  entries_in_all =
      let n : length (all_entries (drop (length out) out)) ≡ 0 = ap (λ (o : List (List Entry)). length (all_entries o)) (drop-length out) in
      omega (arith, (after (length out) (omega arith)).counts, n)
