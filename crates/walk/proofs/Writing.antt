-- Components and entries written quad by quad: the words of one component more stand after those of the components before, and there is
-- room for them where there is room for all. Assumes nothing.
use mathlib.Core.Path.{◌≡◌, refl, sym, ap, ap₂, ◌∙◌, subst}
use mathlib.Core.Bool.{Bool, true, false, cond}
use mathlib.Core.List.{List, [], ◌∷◌, ◌++◌}
use Prim.Native.Nat.{ℕ, suc, ◌+◌, ◌*◌, ◌-◌, ◌≤◌, ◌<◌}
use native.Mathlib.Nat.{zero-add}
use native.Mathlib.Numerals.{add-one}
use native.Mathlib.Omega.{arith}
use lib.ListN.{length, drop, length-append, length-drop}
use Rattle.cells.specs.Listed.{Entry}
use Rattle.cells.specs.Holes.{holes}
use Rattle.fates.specs.declared.Run.{Run}
use Rattle.fates.specs.inner.Fates.{corner_in}
use Rattle.walk.specs.inner.Emitted.{x_in, y_in, entry_in, entries_to, entries_of}
use Rattle.walk.specs.Call.{entry_words, all_entries, component_words}
use Rattle.walk.specs.inner.Emitting.{pasted, Written}
use Rattle.walk.proofs.Shifted.{entries_more, length_entries}
use Rattle.walk.proofs.Counting.{all_snoc, run_length, out_below, keeps, lone_run, Counting, joined, passed, one_more, grows}
use Rattle.walk.proofs.Pasting.{front_more, pasted_more}

-- ---- words

pub length_entry_words : (es : List Entry) → length (entry_words es) ≡ 3 * length es
unfolding entry_words
length_entry_words [] = refl
length_entry_words (e ∷ es) = rw (length_entry_words es) (omega arith)

entry_words_append : (es fs : List Entry) → entry_words (es ++ fs) ≡ entry_words es ++ entry_words fs
unfolding entry_words
entry_words_append [] fs = refl
entry_words_append (e ∷ es) fs = ap (λ (l : List ℕ). e.u ∷ e.v ∷ e.corner ∷ l) (entry_words_append es fs)

pub length_component_words : (before : ℕ) (out : List (List Entry)) → length (component_words before out) ≡ 3 * length out
unfolding component_words
length_component_words before [] = refl
length_component_words before (es ∷ out) = rw (length_component_words (before + length es) out) (omega arith)

component_words_snoc : (before : ℕ) (out : List (List Entry)) (es : List Entry) → component_words before (out ++ (es ∷ [])) ≡ component_words before out ++ ((before + length (all_entries out)) ∷ length es ∷ holes es ∷ [])
unfolding component_words all_entries
component_words_snoc before [] es = ap (λ (k : ℕ). k ∷ length es ∷ holes es ∷ []) (omega arith)
component_words_snoc before (fs ∷ out) es =
    ap (λ (l : List ℕ). before ∷ length fs ∷ holes fs ∷ l)
    (component_words_snoc (before + length fs) out es ∙ ap (λ (k : ℕ). component_words (before + length fs) out ++ (k ∷ length es ∷ holes es ∷ [])) (omega (arith, length-append fs (all_entries out))))

-- ---- the lists

pub written_none : (components entries : List ℕ) → Written [] components entries components entries
unfolding component_words entry_words all_entries
written_none components entries = record { components_are = refl; entries_are = refl }

written_length : {out : List (List Entry)} {c0 e0 c e : List ℕ} → Written out c0 e0 c e → 3 * length out ≤ length c0 → 3 * length (all_entries out) ≤ length e0 → (length c ≡ length c0) × (length e ≡ length e0)
written_length {out} {c0} {e0} h p q = (
  ap length h.components_are ∙ length-append (component_words 0 out) (drop (3 * length out) c0) ∙ rw (length_component_words 0 out, length-drop (3 * length out) c0) (omega arith),
  ap length h.entries_are ∙ length-append (entry_words (all_entries out)) (drop (3 * length (all_entries out)) e0) ∙ rw (length_entry_words (all_entries out), length-drop (3 * length (all_entries out)) e0) (omega arith),
)

-- one component more
written_more : (out : List (List Entry)) (es : List Entry) (c0 e0 c e : List ℕ) → Written out c0 e0 c e
    → Written (out ++ (es ∷ [])) c0 e0 (pasted (3 * length out) (length (all_entries out) ∷ length es ∷ holes es ∷ []) c) (pasted (3 * length (all_entries out)) (entry_words es) e)
written_more out es c0 e0 c e h = record {
  components_are =
      ap (pasted (3 * length out) record_words) h.components_are
      ∙ front_more (component_words 0 out) record_words c0 (3 * length out) (length_component_words 0 out)
      ∙ ap₂ (λ (l : List ℕ) (k : ℕ). l ++ drop k c0) (sym (component_words_snoc 0 out es ∙ ap (λ (k : ℕ). component_words 0 out ++ (k ∷ length es ∷ holes es ∷ [])) (zero-add (length (all_entries out))))) past;
  entries_are =
      ap (pasted (3 * length (all_entries out)) (entry_words es)) h.entries_are
      ∙ front_more (entry_words (all_entries out)) (entry_words es) e0 (3 * length (all_entries out)) (length_entry_words (all_entries out))
      ∙ ap₂ (λ (l : List ℕ) (k : ℕ). l ++ drop k e0) (sym (entry_words_append (all_entries out) es) ∙ ap entry_words (sym (all_snoc out es))) past_entries;
}
  where
    record_words : List ℕ
    record_words = length (all_entries out) ∷ length es ∷ holes es ∷ []

    past : 3 * length out + 3 ≡ 3 * length (out ++ (es ∷ []))
    past = omega (arith, length-append out (es ∷ []))

    past_entries : 3 * length (all_entries out) + length (entry_words es) ≡ 3 * length (all_entries (out ++ (es ∷ [])))
    past_entries = omega (arith, length_entry_words es, length-append (all_entries out) es, ap length (all_snoc out es))

-- ---- entry by entry

-- a list with the first k entries of a run at a place, and one more after them
pub entries_pasted : (w : List ℕ) (a x y k place : ℕ) (before now : List ℕ) → 3 * place ≤ length before → now ≡ pasted (3 * place) (entry_words (entries_to w a x y k)) before
    → pasted (3 * (place + k)) ((x_in w a k - x) ∷ (y_in w a k - y) ∷ corner_in w a k ∷ []) now ≡ pasted (3 * place) (entry_words (entries_to w a x y (k + 1))) before
unfolding entry_words
entries_pasted w a x y k place before now room is =
    let es = entries_to w a x y k in
    let e = entry_in w a x y k in
    let words = e.u ∷ e.v ∷ e.corner ∷ [] in
    ap (pasted (3 * (place + k)) words) is
    ∙ pasted_more (3 * place) (3 * (place + k)) (entry_words es) words before room (omega (arith, length_entry_words es, length_entries w a x y k))
    ∙ ap (λ (l : List ℕ). pasted (3 * place) l before) (sym (entry_words_append es (e ∷ [])) ∙ ap entry_words (sym (entries_more w a x y k) ∙ ap (entries_to w a x y) (sym (add-one k))))

-- ---- quad by quad

module _ (w : List ℕ) (span n s components entries : ℕ) (kept : Bool) (c0 e0 c e : List ℕ) (counts : Counting w span n s components entries) (is : kept ≡ keeps w span n s) (h : Written (out_below w span n s) c0 e0 c e) where
  abbrev run : Run
  run = lone_run w span n s

  -- the lists after the quad
  abbrev components_now : List ℕ
  components_now = cond kept (pasted (3 * components) (entries ∷ run.count ∷ holes (entries_of w run) ∷ []) c) c

  abbrev entries_now : List ℕ
  entries_now = cond kept (pasted (3 * entries) (entry_words (entries_of w run)) e) e

  pub written_next : Written (out_below w span n (s + 1)) c0 e0 components_now entries_now
  written_next = rw (add-one s) (go kept refl)
    where
      out : List (List Entry)
      out = out_below w span n s

      With : ℕ → Type 0
      With count = Written (out ++ (entries_of w run ∷ [])) c0 e0 (pasted (3 * length out) (length (all_entries out) ∷ count ∷ holes (entries_of w run) ∷ []) c) (pasted (3 * length (all_entries out)) (entry_words (entries_of w run)) e)

      go : (b : Bool) → kept ≡ b → Written (out_below w span n (suc s)) c0 e0 components_now entries_now
      go true t = rw (t, joined w span n s (sym is ∙ t), counts.components_are, counts.entries_are) (subst With (run_length w run) (written_more out (entries_of w run) c0 e0 c e h))
      go false t = rw (t, passed w span n s (sym is ∙ t)) h

  -- there is room for it
  pub room_next : s < n → 3 * length (out_below w span n n) ≤ length c0 → 3 * length (all_entries (out_below w span n n)) ≤ length e0
      → kept ≡ true → (3 * components + 2 < length c) × (3 * (entries + run.count) ≤ length e)
  room_next l p q t =
      let o = one_more w span n s (sym is ∙ t) in
      let g = grows w span n (s + 1) n (omega arith) in
      let k = written_length h (omega (arith, g.0, o.0)) (omega (arith, g.1, o.1)) in
      (omega (arith, g.0, o.0, k.0, counts.components_are), omega (arith, g.1, o.1, k.1, counts.entries_are))
