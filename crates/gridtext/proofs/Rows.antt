-- A line as its fields one after the other: where some of them have been taken from a text, the rest of the line stands behind them, and with
-- the rest the whole line is had. Assumes nothing.
use mathlib.Core.Path.{◌≡◌, refl, sym, ap, ◌∙◌}
use mathlib.Core.List.{List, [], ◌∷◌, ◌++◌, append_assoc, append-nil}
use Prim.Native.Nat.{ℕ, zero, suc, ◌+◌, ◌≤◌}
use native.Mathlib.Omega.{arith}
use lib.ListN.{length, drop}
use Rattle.digits.specs.declared.End.{End}
use Rattle.gridtext.specs.declared.inner.row.Kind.{Kind}
use Rattle.gridtext.specs.declared.inner.row.Sort.{Sort}
use Rattle.gridtext.specs.Lines.{Field, Optional, ParamsLine, Line, field_of, optional_of, spaced, line_of, WordField, WordOptional, ParamsWords, LineWords}
use Rattle.gridtext.specs.inner.Rows.{letter_of, param_kinds, kinds_of, most_words, end_after, form_of, Allowed, spread_words, words_of}
use Rattle.gridtext.specs.Lists.{word_of}
use Rattle.gridtext.specs.inner.Read.{param_words, rule_words, corner_words, triangle_words, line_words, params_sort, sort_of, Of}
use Rattle.gridtext.proofs.Fields.{one_field}

-- ---- fields of kinds

pub data Fits : List Kind → List Field → Type 0 where
  none : Fits [] []
  more : {k : Kind} {ks : List Kind} {f : Field} {fs : List Field} → Allowed k f → Fits ks fs → Fits (k ∷ ks) (f ∷ fs)

-- a line from its first field on, and what follows it
unfoldable pub row_of : List Kind → List Field → List ℕ → List ℕ
row_of (k ∷ ks) (f ∷ fs) rest = form_of k f ++ (end_after (length ks) ∷ row_of ks fs rest)
row_of (k ∷ ks) [] rest = rest
row_of [] fs rest = rest

-- the words of the fields
unfoldable pub row_words : List Kind → List Field → List ℕ
row_words (k ∷ ks) (f ∷ fs) = words_of k f ++ row_words ks fs
row_words (k ∷ ks) [] = []
row_words [] fs = []

-- how many words fields of these kinds give
unfoldable pub places_of : Kind → ℕ
places_of Kind.Hex = 1
places_of Kind.Decimal = 1
places_of Kind.Spread = 2
places_of Kind.Twin = 1

unfoldable pub total : List Kind → ℕ
total [] = 0
total (k ∷ ks) = places_of k + total ks

pub words_places : (k : Kind) (f : Field) → length (words_of k f) ≡ places_of k
unfolding words_of places_of spread_words
words_places Kind.Hex f = refl
words_places Kind.Decimal f = refl
words_places Kind.Spread Field.minus = refl
words_places Kind.Spread (Field.word v) = refl
words_places Kind.Twin f = refl

pub total_few : (sort : Sort) → total (kinds_of sort) ≤ most_words
unfolding total places_of
total_few Sort.Params = omega arith
total_few Sort.Ruled = omega arith
total_few Sort.Corner = omega arith
total_few Sort.Triangle = omega arith

pub one_of_row : (k : Kind) (n : ℕ) (f g : Field) (r s : List ℕ) → Allowed k f → Allowed k g → form_of k f ++ (end_after n ∷ r) ≡ form_of k g ++ (end_after n ∷ s) → (f ≡ g) × (r ≡ s)
one_of_row k zero = one_field k End.Feed
one_of_row k (suc n) = one_field k End.Blank

-- ---- fields taken one by one

-- from the fields of the kinds ks₀ at at₀ on, those have been taken that leave the kinds ks at next; they gave the words
pub data Got (text : List ℕ) (ks₀ : List Kind) (at₀ : ℕ) : List Kind → ℕ → List ℕ → Type 0 where
  start : Got text ks₀ at₀ ks₀ at₀ []
  more : {k : Kind} {ks : List Kind} {at next : ℕ} {words : List ℕ} {f : Field}
      → Got text ks₀ at₀ (k ∷ ks) at words
      → Allowed k f
      → drop at text ≡ form_of k f ++ (end_after (length ks) ∷ drop next text)
      → Got text ks₀ at₀ ks next (words ++ words_of k f)

-- a row stands at a place, with its rest behind it
pub record RowAt (text : List ℕ) (ks : List Kind) (at : ℕ) (rest : List ℕ) : Type 0 where
  pub fields : List Field
  pub fits : Fits ks fields
  pub is : drop at text ≡ row_of ks fields rest

row_less : {text : List ℕ} {k : Kind} {ks : List Kind} {at : ℕ} {rest : List ℕ} {f : Field} (next : ℕ) → RowAt text (k ∷ ks) at rest → Allowed k f → drop at text ≡ form_of k f ++ (end_after (length ks) ∷ drop next text) → RowAt text ks next rest
unfolding row_of
row_less {text} {k} {ks} {at} {rest} {f} next row b is = go row.fields row.fits row.is
  where
    go : (fs : List Field) → Fits (k ∷ ks) fs → drop at text ≡ row_of (k ∷ ks) fs rest → RowAt text ks next rest
    go [] x e = elim x [ ]
    go (g ∷ gs) (Fits.more a fits) e =
        record { fields = gs; fits = fits; is = (one_of_row k (length ks) f g (drop next text) (row_of ks gs rest) b a (sym is ∙ e)).1 }

pub row_left : {text : List ℕ} {ks₀ : List Kind} {at₀ : ℕ} {ks : List Kind} {at : ℕ} {words rest : List ℕ} → Got text ks₀ at₀ ks at words → RowAt text ks₀ at₀ rest → RowAt text ks at rest
row_left Got.start row = row
row_left (Got.more {next} g a is) row = row_less next (row_left g row) a is

-- the first field of a row
pub record First (text : List ℕ) (k : Kind) (others at : ℕ) : Type 0 where
  pub field : Field
  pub allowed : Allowed k field
  pub after : List ℕ
  pub is : drop at text ≡ form_of k field ++ (end_after others ∷ after)

pub row_first : {text : List ℕ} {k : Kind} {ks : List Kind} {at : ℕ} {rest : List ℕ} → RowAt text (k ∷ ks) at rest → First text k (length ks) at
unfolding row_of
row_first {text} {k} {ks} {at} {rest} row = go row.fields row.fits row.is
  where
    go : (fs : List Field) → Fits (k ∷ ks) fs → drop at text ≡ row_of (k ∷ ks) fs rest → First text k (length ks) at
    go [] x e = elim x [ ]
    go (f ∷ fs) (Fits.more a fits) e = record { field = f; allowed = a; after = row_of ks fs rest; is = e }

-- with a row that stands behind them, they are a row
pub record Whole (text : List ℕ) (ks₀ : List Kind) (at₀ : ℕ) (rest words : List ℕ) : Type 0 where
  pub fields : List Field
  pub fits : Fits ks₀ fields
  pub is : drop at₀ text ≡ row_of ks₀ fields rest
  pub gave : row_words ks₀ fields ≡ words

pub whole : {text : List ℕ} {ks₀ : List Kind} {at₀ : ℕ} {ks : List Kind} {at : ℕ} {words rest : List ℕ} → Got text ks₀ at₀ ks at words → (fs : List Field) → Fits ks fs → drop at text ≡ row_of ks fs rest → Whole text ks₀ at₀ rest (words ++ row_words ks fs)
unfolding row_of row_words
whole Got.start fs fits is = record { fields = fs; fits = fits; is = is; gave = refl }
whole {rest = rest} (Got.more {k} {ks} {at} {next} {words} {f} g a e) fs fits is =
    rw append_assoc (whole g (f ∷ fs) (Fits.more a fits) (e ∙ ap (λ (l : List ℕ). form_of k f ++ (end_after (length ks) ∷ l)) is))

-- ---- a line's row

unfoldable pub rule_fields : Optional → List Field
rule_fields Optional.absent = []
rule_fields (Optional.given v) = Field.word v ∷ []

abbrev param_fields : ParamsLine → (rule : List Field) → List Field
param_fields p rule =
    Field.word p.tolerance ∷ Field.word p.ratio ∷ Field.word p.least ∷ Field.word p.greatest ∷ Field.word p.limit ∷ Field.word p.quads
    ∷ Field.word p.corners ∷ rule

unfoldable pub fields_of : Line → List Field
fields_of (Line.params p) = param_fields p (rule_fields p.rule)
fields_of (Line.corner c) = Field.word c.x ∷ Field.word c.y ∷ Field.word c.angle0 ∷ c.spread0 ∷ Field.word c.angle1 ∷ c.spread1 ∷ []
fields_of (Line.triangle t) = Field.word t.a ∷ Field.word t.b ∷ Field.word t.c ∷ t.twin0 ∷ t.twin1 ∷ t.twin2 ∷ []

spread_allowed : {f : Field} → WordField f → Allowed Kind.Spread f
spread_allowed WordField.minus = Allowed.spread
spread_allowed (WordField.word w) = Allowed.word w

twin_allowed : {f : Field} → WordField f → Allowed Kind.Twin f
twin_allowed WordField.minus = Allowed.twin
twin_allowed (WordField.word w) = Allowed.word w

allowed_word : {k : Kind} {f : Field} → Allowed k f → WordField f
allowed_word (Allowed.word w) = WordField.word w
allowed_word Allowed.spread = WordField.minus
allowed_word Allowed.twin = WordField.minus

-- the kinds of a P line's fields, with those of the rule behind them
params_fit : {p : ParamsLine} {ks : List Kind} {fs : List Field} → ParamsWords p → Fits ks fs
    → Fits (param_kinds (Kind.Decimal ∷ ks)) (param_fields p fs)
params_fit w fits =
    Fits.more (Allowed.word w.tolerance) (Fits.more (Allowed.word w.ratio) (Fits.more (Allowed.word w.least)
    (Fits.more (Allowed.word w.greatest) (Fits.more (Allowed.word w.limit) (Fits.more (Allowed.word w.quads) (Fits.more (Allowed.word w.corners) fits))))))

ruled_fit : {p : ParamsLine} (r : Optional) → ParamsWords p → WordOptional r → Fits (kinds_of (params_sort r)) (param_fields p (rule_fields r))
unfolding params_sort rule_fields
ruled_fit Optional.absent w WordOptional.absent = params_fit w Fits.none
ruled_fit (Optional.given v) w (WordOptional.given h) = params_fit w (Fits.more (Allowed.word h) Fits.none)

pub row_fits : {l : Line} → LineWords l → Fits (kinds_of (sort_of l)) (fields_of l)
unfolding sort_of fields_of
row_fits (LineWords.params {p} w) = ruled_fit p.rule w w.rule
row_fits (LineWords.corner w) =
    Fits.more (Allowed.word w.x) (Fits.more (Allowed.word w.y) (Fits.more (Allowed.word w.angle0)
    (Fits.more (spread_allowed w.spread0) (Fits.more (Allowed.word w.angle1) (Fits.more (spread_allowed w.spread1) Fits.none)))))
row_fits (LineWords.triangle w) =
    Fits.more (Allowed.word w.a) (Fits.more (Allowed.word w.b) (Fits.more (Allowed.word w.c)
    (Fits.more (twin_allowed w.twin0) (Fits.more (twin_allowed w.twin1) (Fits.more (twin_allowed w.twin2) Fits.none)))))

pub record LineOf (sort : Sort) (fs : List Field) : Type 0 where
  pub line : Line
  pub of : Of sort line
  pub fields : fields_of line ≡ fs

-- a P line has its letter, whether it gives the rule or not, so that it is of no other sort
pub not_params : (r : Optional) (sort : Sort) → params_sort r ≡ sort → (letter_of sort ≡ 80 → ⊥) → ⊥
unfolding params_sort
not_params Optional.absent sort e other = other (ap letter_of (sym e))
not_params (Optional.given v) sort e other = other (ap letter_of (sym e))

-- every row of a sort is a line's
pub line_of_lem : (sort : Sort) (fs : List Field) → Fits (kinds_of sort) fs → LineOf sort fs
unfolding sort_of params_sort fields_of rule_fields
line_of_lem Sort.Params _ (Fits.more (Allowed.word {v = a} p) (Fits.more (Allowed.word {v = b} q) (Fits.more (Allowed.word {v = c} r) (Fits.more (Allowed.word {v = d} s) (Fits.more (Allowed.word {v = e} t) (Fits.more (Allowed.word {v = f} u) (Fits.more (Allowed.word {v = g} w) Fits.none))))))) = record {
  line = Line.params (record { tolerance = a; ratio = b; least = c; greatest = d; limit = e; quads = f; corners = g; rule = Optional.absent });
  of = record { is = refl; words = LineWords.params (record { tolerance = p; ratio = q; least = r; greatest = s; limit = t; quads = u; corners = w; rule = WordOptional.absent }) };
  fields = refl;
}
line_of_lem Sort.Ruled _ (Fits.more (Allowed.word {v = a} p) (Fits.more (Allowed.word {v = b} q) (Fits.more (Allowed.word {v = c} r) (Fits.more (Allowed.word {v = d} s) (Fits.more (Allowed.word {v = e} t) (Fits.more (Allowed.word {v = f} u) (Fits.more (Allowed.word {v = g} w) (Fits.more (Allowed.word {v = h} x) Fits.none)))))))) = record {
  line = Line.params (record { tolerance = a; ratio = b; least = c; greatest = d; limit = e; quads = f; corners = g; rule = Optional.given h });
  of = record { is = refl; words = LineWords.params (record { tolerance = p; ratio = q; least = r; greatest = s; limit = t; quads = u; corners = w; rule = WordOptional.given x }) };
  fields = refl;
}
line_of_lem Sort.Corner _ (Fits.more (Allowed.word {v = a} p) (Fits.more (Allowed.word {v = b} q) (Fits.more (Allowed.word {v = c} r) (Fits.more {f = d} s (Fits.more (Allowed.word {v = e} t) (Fits.more {f = f} u Fits.none)))))) = record {
  line = Line.corner (record { x = a; y = b; angle0 = c; spread0 = d; angle1 = e; spread1 = f });
  of = record { is = refl; words = LineWords.corner (record { x = p; y = q; angle0 = r; spread0 = allowed_word s; angle1 = t; spread1 = allowed_word u }) };
  fields = refl;
}
line_of_lem Sort.Triangle _ (Fits.more (Allowed.word {v = a} p) (Fits.more (Allowed.word {v = b} q) (Fits.more (Allowed.word {v = c} r) (Fits.more {f = d} s (Fits.more {f = e} t (Fits.more {f = f} u Fits.none)))))) = record {
  line = Line.triangle (record { a = a; b = b; c = c; twin0 = d; twin1 = e; twin2 = f });
  of = record { is = refl; words = LineWords.triangle (record { a = p; b = q; c = r; twin0 = allowed_word s; twin1 = allowed_word t; twin2 = allowed_word u }) };
  fields = refl;
}

-- a P line gives its rule or leaves it out
abbrev pub with_rule : ParamsLine → Optional → Line
with_rule p r =
    Line.params (record { tolerance = p.tolerance; ratio = p.ratio; least = p.least; greatest = p.greatest; limit = p.limit; quads = p.quads; corners = p.corners; rule = r })

pub by_rule : (Holds : Line → Type 0) → ((p : ParamsLine) → Holds (with_rule p Optional.absent)) → ((p : ParamsLine) (v : ℕ) → Holds (with_rule p (Optional.given v))) → (p : ParamsLine) → Holds (Line.params p)
by_rule Holds absent given p = go p.rule
  where
    go : (r : Optional) → Holds (with_rule p r)
    go Optional.absent = absent p
    go (Optional.given v) = given p v

unfoldable forms_of : List Kind → List Field → List (List ℕ)
forms_of (k ∷ ks) (f ∷ fs) = form_of k f ∷ forms_of ks fs
forms_of (k ∷ ks) [] = []
forms_of [] fs = []

spaced_row : {ks : List Kind} {fs : List Field} → Fits ks fs → (rest : List ℕ) → spaced (forms_of ks fs) ++ (10 ∷ rest) ≡ end_after (length ks) ∷ row_of ks fs rest
unfolding spaced forms_of row_of
spaced_row Fits.none rest = refl
spaced_row (Fits.more {k} {ks} {f} {fs} a fits) rest = rw (append_assoc, spaced_row fits rest)

abbrev Formed : Line → Type 0
Formed l = line_of l ≡ letter_of (sort_of l) ∷ spaced (forms_of (kinds_of (sort_of l)) (fields_of l))

line_forms : (l : Line) → Formed l
unfolding line_of optional_of sort_of params_sort fields_of rule_fields forms_of form_of field_of
line_forms (Line.params p) = by_rule Formed (λ q. refl) (λ q v. refl) p
line_forms (Line.corner c) = refl
line_forms (Line.triangle t) = refl

blank_first : (sort : Sort) → end_after (length (kinds_of sort)) ≡ 32
blank_first Sort.Params = refl
blank_first Sort.Ruled = refl
blank_first Sort.Corner = refl
blank_first Sort.Triangle = refl

-- a line is its letter, a blank and its row
pub line_row : {sort : Sort} (l : Line) (rest : List ℕ) → Of sort l → line_of l ++ (10 ∷ rest) ≡ letter_of sort ∷ 32 ∷ row_of (kinds_of sort) (fields_of l) rest
line_row l rest of =
    ap (λ (x : List ℕ). x ++ (10 ∷ rest)) (line_forms l) ∙ rw (spaced_row (row_fits of.words) rest, blank_first (sort_of l), of.is)

abbrev Worded : Line → Type 0
Worded l = line_words l ≡ row_words (kinds_of (sort_of l)) (fields_of l)

pub line_words_lem : (l : Line) → Worded l
unfolding line_words param_words rule_words corner_words triangle_words sort_of params_sort fields_of rule_fields row_words words_of word_of
line_words_lem (Line.params p) = by_rule Worded (λ q. refl) (λ q v. refl) p
line_words_lem (Line.corner c) = rw append-nil
line_words_lem (Line.triangle t) = refl
