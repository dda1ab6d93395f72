-- A line's printed form is its own: of two lines of words that stand in one place of a text, one is the other, and so it is with lists of
-- them, as far as the shorter goes. Assumes nothing.
use mathlib.Core.Path.{◌≡◌, refl, sym, ap, ◌∙◌}
use mathlib.Core.List.{List, [], ◌∷◌, ◌++◌, append_assoc, tail}
use Prim.Native.Nat.{ℕ}
use native.Mathlib.Omega.{arith}
use lib.ListN.{length, get_or}
use Rattle.cells.specs.Listed.{In}
use Rattle.digits.specs.declared.End.{End}
use Rattle.digits.proofs.Forms.{decimal_ends}
use Rattle.gridtext.specs.declared.inner.row.Kind.{Kind}
use Rattle.gridtext.specs.declared.inner.row.Sort.{Sort}
use Rattle.gridtext.specs.Lines.{Field, Optional, ParamsLine, CornerLine, TriangleLine, Line, field_of, line_of, printed, LineWords}
use Rattle.gridtext.specs.inner.Rows.{letter_of, param_kinds, kinds_of, end_after, form_of, Allowed}
use Rattle.gridtext.specs.inner.Read.{sort_of}
use Rattle.gridtext.proofs.Rows.{Fits, row_of, one_of_row, rule_fields, fields_of, row_fits, line_row, not_params}

one_row : (ks : List Kind) (fs gs : List Field) (r s : List ℕ) → Fits ks fs → Fits ks gs → row_of ks fs r ≡ row_of ks gs s → (fs ≡ gs) × (r ≡ s)
unfolding row_of
one_row [] [] [] r s Fits.none Fits.none e = (refl, e)
one_row [] [] (g ∷ gs) r s _ x e = elim x [ ]
one_row [] (f ∷ fs) gs r s x _ e = elim x [ ]
one_row (k ∷ ks) [] gs r s x _ e = elim x [ ]
one_row (k ∷ ks) (f ∷ fs) [] r s _ x e = elim x [ ]
one_row (k ∷ ks) (f ∷ fs) (g ∷ gs) r s (Fits.more a p) (Fits.more b q) e =
    let h = one_of_row k (length ks) f g (row_of ks fs r) (row_of ks gs s) a b e in
    let t = one_row ks fs gs r s p q h.1 in
    (cc (h.0, t.0), t.1)

-- of two texts that are one the first bytes are
one_first : {a b : ℕ} {r s : List ℕ} → a ∷ r ≡ b ∷ s → a ≡ b
one_first e = ap (λ (l : List ℕ). get_or l 0 0) e

-- where another field follows, a blank does
blank_before : (ks : List Kind) (k : Kind) (js : List Kind) → end_after (length (ks ++ (k ∷ js))) ≡ 32
blank_before [] k js = refl
blank_before (i ∷ ks) k js = refl

-- a row and the same with a number more never stand in one place: a line feed is behind the last field that they share, and a blank
row_apart : (ks : List Kind) (fs gs : List Field) (r s : List ℕ) → Fits (ks ++ (Kind.Decimal ∷ [])) fs → Fits (ks ++ (Kind.Decimal ∷ Kind.Decimal ∷ [])) gs → row_of (ks ++ (Kind.Decimal ∷ [])) fs r ≡ row_of (ks ++ (Kind.Decimal ∷ Kind.Decimal ∷ [])) gs s → ⊥
unfolding row_of form_of field_of
row_apart [] _ _ r s (Fits.more (Allowed.word {v = v} a) Fits.none) (Fits.more {fs = gs} (Allowed.word {v = w} b) q) e =
    omega (arith, one_first (decimal_ends End.Feed End.Blank v w r (row_of (Kind.Decimal ∷ []) gs s) a b e).1)
row_apart (k ∷ ks) _ _ r s (Fits.more {f = f} {fs = fs} a p) (Fits.more {f = g} {fs = gs} b q) e =
    row_apart ks fs gs r s p q (one_of_row k 1 f g _ _ a b (rw (blank_before ks Kind.Decimal [], blank_before ks Kind.Decimal (Kind.Decimal ∷ [])) at e)).1

-- of two rows in one place, with their letters, the sorts are one
abbrev lettered : Sort → List Field → List ℕ → List ℕ
lettered sort fs rest = letter_of sort ∷ 32 ∷ row_of (kinds_of sort) fs rest

one_sort : (a b : Sort) (fs gs : List Field) (r s : List ℕ) → Fits (kinds_of a) fs → Fits (kinds_of b) gs → lettered a fs r ≡ lettered b gs s → a ≡ b
one_sort Sort.Params Sort.Params fs gs r s p q e = refl
one_sort Sort.Ruled Sort.Ruled fs gs r s p q e = refl
one_sort Sort.Corner Sort.Corner fs gs r s p q e = refl
one_sort Sort.Triangle Sort.Triangle fs gs r s p q e = refl
one_sort Sort.Params Sort.Ruled fs gs r s p q e = absurd (row_apart (param_kinds []) fs gs r s p q (ap (λ (l : List ℕ). tail (tail l)) e))
one_sort Sort.Ruled Sort.Params fs gs r s p q e = absurd (row_apart (param_kinds []) gs fs s r q p (ap (λ (l : List ℕ). tail (tail l)) (sym e)))
one_sort Sort.Params Sort.Corner fs gs r s p q e = absurd (omega (arith, one_first e))
one_sort Sort.Params Sort.Triangle fs gs r s p q e = absurd (omega (arith, one_first e))
one_sort Sort.Ruled Sort.Corner fs gs r s p q e = absurd (omega (arith, one_first e))
one_sort Sort.Ruled Sort.Triangle fs gs r s p q e = absurd (omega (arith, one_first e))
one_sort Sort.Corner Sort.Params fs gs r s p q e = absurd (omega (arith, one_first e))
one_sort Sort.Corner Sort.Ruled fs gs r s p q e = absurd (omega (arith, one_first e))
one_sort Sort.Corner Sort.Triangle fs gs r s p q e = absurd (omega (arith, one_first e))
one_sort Sort.Triangle Sort.Params fs gs r s p q e = absurd (omega (arith, one_first e))
one_sort Sort.Triangle Sort.Ruled fs gs r s p q e = absurd (omega (arith, one_first e))
one_sort Sort.Triangle Sort.Corner fs gs r s p q e = absurd (omega (arith, one_first e))

same_rule : (a b : Optional) → rule_fields a ≡ rule_fields b → a ≡ b
unfolding rule_fields
same_rule Optional.absent Optional.absent e = refl
same_rule Optional.absent (Optional.given v) e = let z : ◌≡◌ {A = ℕ} 0 1 = cc in absurd (omega arith)
same_rule (Optional.given u) Optional.absent e = let z : ◌≡◌ {A = ℕ} 0 1 = cc in absurd (omega arith)
same_rule (Optional.given u) (Optional.given v) e = let z : u ≡ v = cc in ap Optional.given z

same_fields : (l m : Line) → sort_of l ≡ sort_of m → fields_of l ≡ fields_of m → l ≡ m
unfolding sort_of fields_of
same_fields (Line.params p) (Line.params q) s e =
    let a : p.tolerance ≡ q.tolerance = cc in
    let b : p.ratio ≡ q.ratio = cc in
    let c : p.least ≡ q.least = cc in
    let d : p.greatest ≡ q.greatest = cc in
    let f : p.limit ≡ q.limit = cc in
    let g : p.quads ≡ q.quads = cc in
    let h : p.corners ≡ q.corners = cc in
    let o : rule_fields p.rule ≡ rule_fields q.rule = cc in
    let z : ◌≡◌ {A = ParamsLine} (record { tolerance = p.tolerance; ratio = p.ratio; least = p.least; greatest = p.greatest; limit = p.limit; quads = p.quads; corners = p.corners; rule = p.rule }) q = rw (a, b, c, d, f, g, h, same_rule p.rule q.rule o) in
    ap Line.params z
same_fields (Line.corner p) (Line.corner q) s e =
    let a : p.x ≡ q.x = cc in
    let b : p.y ≡ q.y = cc in
    let c : p.angle0 ≡ q.angle0 = cc in
    let d : p.spread0 ≡ q.spread0 = cc in
    let f : p.angle1 ≡ q.angle1 = cc in
    let g : p.spread1 ≡ q.spread1 = cc in
    let z : ◌≡◌ {A = CornerLine} (record { x = p.x; y = p.y; angle0 = p.angle0; spread0 = p.spread0; angle1 = p.angle1; spread1 = p.spread1 }) q = rw (a, b, c, d, f, g) in
    ap Line.corner z
same_fields (Line.triangle p) (Line.triangle q) s e =
    let a : p.a ≡ q.a = cc in
    let b : p.b ≡ q.b = cc in
    let c : p.c ≡ q.c = cc in
    let d : p.twin0 ≡ q.twin0 = cc in
    let f : p.twin1 ≡ q.twin1 = cc in
    let g : p.twin2 ≡ q.twin2 = cc in
    let z : ◌≡◌ {A = TriangleLine} (record { a = p.a; b = p.b; c = p.c; twin0 = p.twin0; twin1 = p.twin1; twin2 = p.twin2 }) q = rw (a, b, c, d, f, g) in
    ap Line.triangle z
same_fields (Line.params p) (Line.corner q) s e = absurd (not_params p.rule Sort.Corner s (λ e. omega arith))
same_fields (Line.params p) (Line.triangle q) s e = absurd (not_params p.rule Sort.Triangle s (λ e. omega arith))
same_fields (Line.corner p) (Line.params q) s e = absurd (not_params q.rule Sort.Corner (sym s) (λ e. omega arith))
same_fields (Line.corner p) (Line.triangle q) s e = let z : ◌≡◌ {A = ℕ} 0 1 = cc in absurd (omega arith)
same_fields (Line.triangle p) (Line.params q) s e = absurd (not_params q.rule Sort.Triangle (sym s) (λ e. omega arith))
same_fields (Line.triangle p) (Line.corner q) s e = let z : ◌≡◌ {A = ℕ} 0 1 = cc in absurd (omega arith)

-- of two lines in one place one is the other
pub one_line : (l m : Line) (r s : List ℕ) → LineWords l → LineWords m → line_of l ++ (10 ∷ r) ≡ line_of m ++ (10 ∷ s) → (l ≡ m) × (r ≡ s)
one_line l m r s a b e =
    let e' : lettered (sort_of l) (fields_of l) r ≡ lettered (sort_of m) (fields_of m) s = sym (line_row l r (record { is = refl; words = a })) ∙ e ∙ line_row m s (record { is = refl; words = b }) in
    let q = one_sort (sort_of l) (sort_of m) (fields_of l) (fields_of m) r s (row_fits a) (row_fits b) e' in
    let t = one_row (kinds_of (sort_of l)) (fields_of l) (fields_of m) r s (row_fits a) (rw q (row_fits b)) (ap (λ (x : List ℕ). tail (tail x)) e' ∙ rw q) in
    (same_fields l m q t.0, t.1)

pub line_injective : (l m : Line) → LineWords l → LineWords m → line_of l ≡ line_of m → l ≡ m
line_injective l m a b e = (one_line l m [] [] a b (ap (λ (x : List ℕ). x ++ (10 ∷ [])) e)).0

-- ---- lists of lines

abbrev pub Words : List Line → Type 0
Words ls = (l : Line) → In l ls → LineWords l

-- two lists of lines in one place: the second goes on where the first ends, or the first where the second does
pub data Beside (ls ms : List Line) (r s : List ℕ) : Type 0 where
  shorter : (more : List Line) → ms ≡ ls ++ more → r ≡ printed more ++ s → Beside ls ms r s
  longer : (more : List Line) → ls ≡ ms ++ more → s ≡ printed more ++ r → Beside ls ms r s

pub beside : (ls ms : List Line) (r s : List ℕ) → Words ls → Words ms → printed ls ++ r ≡ printed ms ++ s → Beside ls ms r s
unfolding printed
beside [] ms r s a b e = Beside.shorter ms refl e
beside (l ∷ ls) [] r s a b e = Beside.longer (l ∷ ls) refl (sym e)
beside (l ∷ ls) (m ∷ ms) r s a b e =
    let o = one_line l m (printed ls ++ r) (printed ms ++ s) (a l (In.first refl)) (b m (In.first refl)) (sym (append_assoc (line_of l) (10 ∷ printed ls) r) ∙ e ∙ append_assoc (line_of m) (10 ∷ printed ms) s) in
    go o.0 (beside ls ms r s (λ k i. a k (In.later i)) (λ k i. b k (In.later i)) o.1)
  where
    go : l ≡ m → Beside ls ms r s → Beside (l ∷ ls) (m ∷ ms) r s
    go q (Beside.shorter more p t) = Beside.shorter more (cc (q, p)) t
    go q (Beside.longer more p t) = Beside.longer more (cc (q, p)) t
