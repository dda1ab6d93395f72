-- The first 64 KiB of a text decide its answer (`first_bytes_decide`): a frame's lines are shorter than that, so in a longer text the first
-- bad line stands whole among them. Assumes nothing.
use mathlib.Core.Path.{◌≡◌, refl, sym, ap, ◌∙◌}
use mathlib.Core.List.{List, [], ◌∷◌, ◌++◌, append_assoc, map}
use Prim.Native.Nat.{ℕ, ◌+◌, ◌*◌, ◌≤◌}
use native.Mathlib.Omega.{arith}
use lib.ListN.{length, take, drop, length-append, length-map, take-append-drop}
use lib.Seq.{length-take-le, take-append-le, take_at}
use Rattle.cells.specs.Listed.{In}
use Rattle.cells.proofs.Tests.{in_last}
use Rattle.digits.specs.Digits.{hex_of, decimal_of}
use Rattle.gridtext.specs.Lines.{Field, Optional, Line, field_of, optional_of, spaced, line_of, printed, IsWord, WordField, WordOptional, LineWords}
use Rattle.gridtext.specs.Text.{Frame, lines_of, Fitting, Reads, Bad}
use Rattle.gridtext.specs.Gridlabel.{Answers, most_text}
use Rattle.gridtext.proofs.Bounds.{digits_most}
use Rattle.gridtext.proofs.OneLine.{Words}
use Rattle.gridtext.proofs.OneReading.{fitting_words}

-- ---- a line takes at most 89 bytes: a letter, and eight fields of ten with a blank before each

abbrev Few : List ℕ → Type 0
Few field = length field ≤ 10

hex_few : (v : ℕ) → Few (hex_of v)
hex_few v = omega arith

field_few : (form : ℕ → List ℕ) → ((v : ℕ) → IsWord v → Few (form v)) → (f : Field) → WordField f → Few (field_of form f)
unfolding field_of
field_few form each Field.minus WordField.minus = omega arith
field_few form each (Field.word v) (WordField.word h) = each v h

one_field : (field : List ℕ) (fields : List (List ℕ)) (k : ℕ) → Few field → length (spaced fields) ≤ k → length (spaced (field ∷ fields)) ≤ k + 11
unfolding spaced
one_field field fields k h l = omega (arith, length-append field (spaced fields))

no_field : length (spaced []) ≤ 0
unfolding spaced
no_field = omega arith

none_few : length (spaced []) ≤ 11
none_few = omega (arith, no_field)

optional_few : (o : Optional) → WordOptional o → length (spaced (optional_of o)) ≤ 11
unfolding optional_of
optional_few Optional.absent WordOptional.absent = none_few
optional_few (Optional.given v) (WordOptional.given h) = one_field (decimal_of v) [] 0 (digits_most v h) no_field

-- before fields that take at most eleven bytes
six_fields : (a b c d e f : List ℕ) (rest : List (List ℕ)) → Few a → Few b → Few c → Few d → Few e → Few f → length (spaced rest) ≤ 11 → length (spaced (a ∷ b ∷ c ∷ d ∷ e ∷ f ∷ rest)) ≤ 77
six_fields a b c d e f rest ha hb hc hd he hf h = one_field a _ 66 ha (one_field b _ 55 hb (one_field c _ 44 hc (one_field d _ 33 hd (one_field e _ 22 he (one_field f rest 11 hf h)))))

line_few : (l : Line) → LineWords l → length (line_of l) ≤ 89
unfolding line_of
line_few (Line.params p) (LineWords.params w) =
    let rest = six_fields (hex_of p.ratio) (hex_of p.least) (hex_of p.greatest) (hex_of p.limit) (decimal_of p.quads) (decimal_of p.corners) (optional_of p.rule) (hex_few p.ratio) (hex_few p.least) (hex_few p.greatest) (hex_few p.limit) (digits_most _ w.quads) (digits_most _ w.corners) (optional_few p.rule w.rule) in
    omega (arith, one_field (hex_of p.tolerance) _ 77 (hex_few p.tolerance) rest)
line_few (Line.corner c) (LineWords.corner w) =
    omega (arith, six_fields (hex_of c.x) (hex_of c.y) (hex_of c.angle0) (field_of hex_of c.spread0) (hex_of c.angle1) (field_of hex_of c.spread1) [] (hex_few c.x) (hex_few c.y) (hex_few c.angle0) (field_few hex_of (λ v h. hex_few v) _ w.spread0) (hex_few c.angle1) (field_few hex_of (λ v h. hex_few v) _ w.spread1) none_few)
line_few (Line.triangle t) (LineWords.triangle w) =
    omega (arith, six_fields (decimal_of t.a) (decimal_of t.b) (decimal_of t.c) (field_of decimal_of t.twin0) (field_of decimal_of t.twin1) (field_of decimal_of t.twin2) [] (digits_most _ w.a) (digits_most _ w.b) (digits_most _ w.c) (field_few decimal_of digits_most _ w.twin0) (field_few decimal_of digits_most _ w.twin1) (field_few decimal_of digits_most _ w.twin2) none_few)

-- ---- and lines that fit are at most 385

lines_few : (ls : List Line) → Words ls → length (printed ls) ≤ 90 * length ls
unfolding printed
lines_few [] w = omega arith
lines_few (l ∷ ls) w = omega (arith, length-append (line_of l) (10 ∷ printed ls), line_few l (w l (In.first refl)), lines_few ls (λ m i. w m (In.later i)))

fitting_few : (ls : List Line) → Fitting ls → length ls ≤ 385
fitting_few ls Fitting.none = omega arith
fitting_few ls (Fitting.some f within) =
    omega (arith, length-append (map Line.corner f.corners) (map Line.triangle f.triangles), length-map f.corners Line.corner, length-map f.triangles Line.triangle, within.corners, within.triangles)

fitting_short : (ls : List Line) → Fitting ls → length (printed ls) ≤ 34650
fitting_short ls fits = omega (arith, lines_few ls (fitting_words fits), fitting_few ls fits)

pub reads_short : (text : List ℕ) (f : Frame) → Reads text f → length text ≤ 34650
reads_short text f r = omega (arith, ap length r.is, fitting_short (lines_of f) (Fitting.some f r.within))

-- ---- the first bad line is that of the first bytes

-- a line that begins what is long enough ends in it
line_in : (l : Line) (rest more after : List ℕ) → length (line_of l) + 1 ≤ length rest → rest ++ more ≡ line_of l ++ (10 ∷ after) → rest ≡ line_of l ++ (10 ∷ drop (length (line_of l) + 1) rest)
line_in l rest more after h e =
    let n = length (line_of l) + 1 in
    let fed = line_of l ++ (10 ∷ []) in
    let front : take n rest ≡ fed = sym (take-append-le n rest more h) ∙ ap (take n) (e ∙ sym (append_assoc (line_of l) (10 ∷ []) after)) ∙ take_at fed after n (length-append (line_of l) (10 ∷ [])) in
    sym (take-append-drop n rest) ∙ ap (λ (x : List ℕ). x ++ drop n rest) front ∙ append_assoc (line_of l) (10 ∷ []) (drop n rest)

module _ (text : List ℕ) (long : most_text ≤ length text) where
  cut : length (take most_text text) ≡ most_text
  cut = length-take-le most_text text long

  bad_first_bytes : (k : ℕ) → Bad (take most_text text) k → Bad text k
  bad_first_bytes k b =
      let room : 30886 ≤ length b.rest = omega (arith, cut, ap length b.is, length-append (printed b.before) b.rest, fitting_short b.before b.fits) in
      let more = drop most_text text in
      record {
        before = b.before;
        fits = b.fits;
        rest = b.rest ++ more;
        is = sym (take-append-drop most_text text) ∙ ap (λ (x : List ℕ). x ++ more) b.is ∙ append_assoc (printed b.before) b.rest more;
        number = b.number;
        ends = λ e. absurd (omega (arith, ap length e, length-append b.rest more));
        stuck = λ l after e fits. b.stuck l (drop (length (line_of l) + 1) b.rest) (line_in l b.rest more after (omega (arith, line_few l (fitting_words fits l (in_last b.before)))) e) fits;
      }

  pub first_bytes_decide : (out : List ℕ) → Answers (take most_text text) out → Answers text out
  first_bytes_decide out (Answers.bad k b) = Answers.bad k (bad_first_bytes k b)
  first_bytes_decide out (Answers.refused f reads why e) = absurd (omega (arith, cut, reads_short (take most_text text) f reads))
  first_bytes_decide out (Answers.labelled f reads e l a) = absurd (omega (arith, cut, reads_short (take most_text text) f reads))
