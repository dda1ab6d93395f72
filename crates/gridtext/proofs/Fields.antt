-- A field and its end: what the readers of words find is a field of the kind, and of two fields that stand in one place before one end, one is
-- the other. A minus is no digit, so it is never a word's form. Assumes nothing.
use mathlib.Core.Bool.{Bool, true, false}
use mathlib.Core.Path.{◌≡◌, refl, sym, ap, ◌∙◌, subst}
use mathlib.Core.List.{List, ◌∷◌, ◌++◌, tail}
use Rattle.std.specs.Prelude.{Option, None, Some}
use Prim.Native.Nat.{ℕ, suc, ◌+◌, ◌-◌, ◌≤◌}
use native.Mathlib.Omega.{arith}
use lib.ListN.{length, get_or, drop, length-append, length-drop}
use Rattle.mesh.specs.HalfEdge.{no_twin}
use Rattle.digits.specs.declared.End.{End}
use Rattle.digits.specs.declared.Taken.{Taken}
use Rattle.digits.specs.Digits.{hex_of, decimal_of}
use Rattle.digits.specs.Taken.{end_byte, Takes, Stands}
use Rattle.digits.proofs.Forms.{Marked, one_hex, one_decimal, hex_first, decimal_first, no_digit}
use Rattle.gridtext.specs.declared.inner.row.Few.{Few}
use Rattle.gridtext.specs.declared.inner.row.Kind.{Kind}
use Rattle.gridtext.specs.Lines.{Field, field_of, IsWord}
use Rattle.gridtext.specs.inner.Rows.{form_of, Allowed, spread_words, words_of, list_of, found_of, PairAt, FieldStands, FieldAt}
use Rattle.gridtext.specs.Lists.{twin_word, word_of}

-- ---- one field before an end

marked : (k : Kind) (end : End) → Marked (λ (v : ℕ). form_of k (Field.word v)) (end_byte end)
unfolding form_of field_of
marked Kind.Hex end = one_hex end
marked Kind.Decimal end = one_decimal end
marked Kind.Spread end = one_hex end
marked Kind.Twin end = one_decimal end

no_minus : (k : Kind) (v : ℕ) (r s : List ℕ) → 45 ∷ r ≡ form_of k (Field.word v) ++ s → ⊥
unfolding form_of field_of
no_minus Kind.Hex v r s e = hex_first v s (rw (← ap (λ (l : List ℕ). get_or l 0 0) e) (no_digit 16 45 (omega arith)))
no_minus Kind.Decimal v r s e = decimal_first v s (rw (← ap (λ (l : List ℕ). get_or l 0 0) e) (no_digit 16 45 (omega arith)))
no_minus Kind.Spread v r s e = hex_first v s (rw (← ap (λ (l : List ℕ). get_or l 0 0) e) (no_digit 16 45 (omega arith)))
no_minus Kind.Twin v r s e = decimal_first v s (rw (← ap (λ (l : List ℕ). get_or l 0 0) e) (no_digit 16 45 (omega arith)))

minus_first : (k : Kind) (rest : List ℕ) → form_of k Field.minus ++ rest ≡ 45 ∷ rest
unfolding form_of field_of
minus_first Kind.Hex rest = refl
minus_first Kind.Decimal rest = refl
minus_first Kind.Spread rest = refl
minus_first Kind.Twin rest = refl

pub one_field : (k : Kind) (end : End) (f g : Field) (r s : List ℕ) → Allowed k f → Allowed k g → form_of k f ++ (end_byte end ∷ r) ≡ form_of k g ++ (end_byte end ∷ s) → (f ≡ g) × (r ≡ s)
one_field k end (Field.word v) (Field.word w) r s (Allowed.word a) (Allowed.word b) e =
    let m = marked k end v w r s a b e in
    (ap (λ (x : ℕ). Field.word x) m.0, m.1)
one_field k end (Field.word v) Field.minus r s a b e = absurd (no_minus k v _ _ (sym (minus_first k _) ∙ sym e))
one_field k end Field.minus (Field.word w) r s a b e = absurd (no_minus k w _ _ (sym (minus_first k _) ∙ e))
one_field k end Field.minus Field.minus r s a b e = (refl, ap (λ (l : List ℕ). tail (tail l)) (sym (minus_first k _) ∙ e ∙ minus_first k _))

-- ---- what is found

stands_within : {form : ℕ → List ℕ} {text : List ℕ} {at e v next : ℕ} → Stands form text at e v next → next ≤ length text
stands_within {form} {text} {at} {e} {v} {next} s =
    let l : length text - at ≡ length (form v) + suc (length text - next) = sym (length-drop at text) ∙ ap length s.is ∙ simp (length-append, length-drop) in
    omega (arith, s.on)

-- where no word stands, and no minus can, no field does
nothing_there : (text : List ℕ) (at e : ℕ) (k : Kind) (form : ℕ → List ℕ) → ((v : ℕ) → form_of k (Field.word v) ≡ form v) → ((rest : List ℕ) → Allowed k Field.minus → drop at text ≡ 45 ∷ e ∷ rest → ⊥) → ((v : ℕ) (rest : List ℕ) → IsWord v → drop at text ≡ form v ++ (e ∷ rest) → ⊥) → (f : Field) (rest : List ℕ) → Allowed k f → drop at text ≡ form_of k f ++ (e ∷ rest) → ⊥
nothing_there text at e k form forms other n (Field.word v) rest (Allowed.word w) q = n v rest w (rw forms at q)
nothing_there text at e k form forms other n Field.minus rest a q = other rest a (q ∙ minus_first k (e ∷ rest))

module _ {text : List ℕ} {at e : ℕ} where
  -- what a reader of words takes is a field, where no minus can stand for one
  taken_field : (k : Kind) (form : ℕ → List ℕ) (few : ℕ → Few) → ((v : ℕ) → form_of k (Field.word v) ≡ form v) → ((v : ℕ) → words_of k (Field.word v) ≡ list_of (few v)) → ((rest : List ℕ) → Allowed k Field.minus → drop at text ≡ 45 ∷ e ∷ rest → ⊥) → (t : Option (Taken ℕ)) → Takes form text at e t → FieldAt k text at e (found_of few t)
  taken_field k form few forms words other None (Takes.nothing n) = FieldAt.nothing (nothing_there text at e k form forms other n)
  taken_field k form few forms words other (Some _) (Takes.word {v = w} {next = next} s) =
      let is : drop at text ≡ form_of k (Field.word w) ++ (e ∷ drop next text) = rw forms s.is in
      FieldAt.words (record { allowed = Allowed.word s.word; is = is; within = stands_within s }) (words w)

  -- no minus, or a field that it stands for
  minus_not : PairAt text at 45 e false → (rest : List ℕ) → drop at text ≡ 45 ∷ e ∷ rest → ⊥
  minus_not (PairAt.elsewhere n) = n

  minus_field : (k : Kind) → Allowed k Field.minus → PairAt text at 45 e true → FieldStands k text at e Field.minus (at + 2)
  minus_field k a (PairAt.there is w) = record { allowed = a; is = is ∙ sym (minus_first k _); within = w }

  pub hex_field : (t : Option (Taken ℕ)) → Takes hex_of text at e t → FieldAt Kind.Hex text at e (found_of Few.One t)
  unfolding form_of field_of words_of word_of
  hex_field = taken_field Kind.Hex hex_of Few.One (λ v. refl) (λ v. refl) (λ rest a q. plain Field.minus a refl)
    where
      plain : (f : Field) → Allowed Kind.Hex f → f ≡ Field.minus → ⊥
      plain (Field.word v) (Allowed.word w) e = let z : ◌≡◌ {A = ℕ} 0 1 = cc in omega arith
      plain Field.minus x e = elim x [ ]

  pub decimal_field : (t : Option (Taken ℕ)) → Takes decimal_of text at e t → FieldAt Kind.Decimal text at e (found_of Few.One t)
  unfolding form_of field_of words_of word_of
  decimal_field = taken_field Kind.Decimal decimal_of Few.One (λ v. refl) (λ v. refl) (λ rest a q. plain Field.minus a refl)
    where
      plain : (f : Field) → Allowed Kind.Decimal f → f ≡ Field.minus → ⊥
      plain (Field.word v) (Allowed.word w) e = let z : ◌≡◌ {A = ℕ} 0 1 = cc in omega arith
      plain Field.minus x e = elim x [ ]

  pub spread_field : PairAt text at 45 e false → (t : Option (Taken ℕ)) → Takes hex_of text at e t → FieldAt Kind.Spread text at e (found_of (Few.Two 1) t)
  unfolding form_of field_of words_of spread_words
  spread_field n = taken_field Kind.Spread hex_of (Few.Two 1) (λ v. refl) (λ v. refl) (λ rest a q. minus_not n rest q)

  pub twin_field : PairAt text at 45 e false → (t : Option (Taken ℕ)) → Takes decimal_of text at e t → FieldAt Kind.Twin text at e (found_of Few.One t)
  unfolding form_of field_of words_of twin_word
  twin_field n = taken_field Kind.Twin decimal_of Few.One (λ v. refl) (λ v. refl) (λ rest a q. minus_not n rest q)

  pub no_spread : PairAt text at 45 e true → FieldAt Kind.Spread text at e (Some (Few.Two 0 0, at + 2))
  unfolding words_of spread_words
  no_spread p = FieldAt.words (minus_field Kind.Spread Allowed.spread p) refl

  pub no_twin_lem : PairAt text at 45 e true → FieldAt Kind.Twin text at e (Some (Few.One no_twin, at + 2))
  unfolding words_of twin_word
  no_twin_lem p = FieldAt.words (minus_field Kind.Twin Allowed.twin p) refl

-- ---- what a test for two bytes tells

pub pair_there : {text : List ℕ} {at a b : ℕ} {t : Bool} → PairAt text at a b t → t ≡ true → PairAt text at a b true
pair_there {text} {at} {a} {b} p e = subst (PairAt text at a b) e p

pub pair_not : {text : List ℕ} {at a b : ℕ} {t : Bool} → PairAt text at a b t → t ≡ false → PairAt text at a b false
pair_not {text} {at} {a} {b} p e = subst (PairAt text at a b) e p

pub pair_within : {text : List ℕ} {at a b : ℕ} → PairAt text at a b true → at + 2 ≤ length text
pair_within (PairAt.there is w) = w
