-- Document 01's text is its frame's; without its last line feed the seventh line is bad. A lower-case digit and a leading
-- nought are bad, too. Behind its P line a rule can be given. The text is written byte by byte. Assumes nothing.
use mathlib.Core.Path.{◌≡◌, refl, sym, ap, ◌∙◌}
use mathlib.Core.List.{List, [], ◌∷◌, ◌++◌, append_assoc, append-nil, map, tail}
use Prim.Native.Nat.{ℕ, ◌/◌, ◌%◌, ◌≤◌}
use native.Mathlib.Omega.{arith}
use lib.ListN.{length, get_or}
use Rattle.cells.specs.Listed.{In}
use Rattle.cells.proofs.Tests.{not_in}
use Rattle.digits.specs.Digits.{digit_of, places_in, decimal_of}
use Rattle.digits.proofs.Numerals.{by_digit}
use Rattle.digits.proofs.Forms.{no_leading_nought}
use Rattle.gridtext.specs.Lines.{Field, Optional, ParamsLine, CornerLine, TriangleLine, Line, field_of, optional_of, spaced, line_of, printed, IsWord, WordField, WordOptional, LineWords}
use Rattle.gridtext.specs.inner.Rows.{letter_of}
use Rattle.gridtext.specs.Text.{Frame, lines_of, Within, Fitting, Reads, Bad}
use Rattle.gridtext.proofs.Parsing.{Behind, fits_behind, a_params}
use Rattle.gridtext.proofs.Outcomes.{bad_first}

-- the lines, without their line feeds, in the order of the document
unfoldable pub p_line : List ℕ
p_line = 80 ∷ 32 ∷ 51 ∷ 69 ∷ 56 ∷ 48 ∷ 48 ∷ 48 ∷ 48 ∷ 48 ∷ 32 ∷ 51 ∷ 70 ∷ 67 ∷ 48 ∷ 48 ∷ 48 ∷ 48 ∷ 48 ∷ 32 ∷ 51 ∷ 70 ∷ 48 ∷ 48 ∷ 48 ∷ 48 ∷ 48 ∷ 48 ∷ 32 ∷ 52 ∷ 48 ∷ 48 ∷ 48 ∷ 48 ∷ 48 ∷ 48 ∷ 48 ∷ 32 ∷ 51 ∷ 70 ∷ 56 ∷ 48 ∷ 48 ∷ 48 ∷ 48 ∷ 48 ∷ 32 ∷ 49 ∷ 32 ∷ 52 ∷ []

unfoldable pub c_line1 : List ℕ
c_line1 = 67 ∷ 32 ∷ 48 ∷ 48 ∷ 48 ∷ 48 ∷ 48 ∷ 48 ∷ 48 ∷ 48 ∷ 32 ∷ 48 ∷ 48 ∷ 48 ∷ 48 ∷ 48 ∷ 48 ∷ 48 ∷ 48 ∷ 32 ∷ 48 ∷ 48 ∷ 48 ∷ 48 ∷ 48 ∷ 48 ∷ 48 ∷ 48 ∷ 32 ∷ 45 ∷ 32 ∷ 51 ∷ 70 ∷ 67 ∷ 57 ∷ 48 ∷ 70 ∷ 68 ∷ 66 ∷ 32 ∷ 45 ∷ []

unfoldable pub c_line2 : List ℕ
c_line2 = 67 ∷ 32 ∷ 52 ∷ 49 ∷ 50 ∷ 48 ∷ 48 ∷ 48 ∷ 48 ∷ 48 ∷ 32 ∷ 48 ∷ 48 ∷ 48 ∷ 48 ∷ 48 ∷ 48 ∷ 48 ∷ 48 ∷ 32 ∷ 48 ∷ 48 ∷ 48 ∷ 48 ∷ 48 ∷ 48 ∷ 48 ∷ 48 ∷ 32 ∷ 45 ∷ 32 ∷ 51 ∷ 70 ∷ 67 ∷ 57 ∷ 48 ∷ 70 ∷ 68 ∷ 66 ∷ 32 ∷ 45 ∷ []

unfoldable pub c_line3 : List ℕ
c_line3 = 67 ∷ 32 ∷ 52 ∷ 49 ∷ 50 ∷ 48 ∷ 48 ∷ 48 ∷ 48 ∷ 48 ∷ 32 ∷ 52 ∷ 49 ∷ 50 ∷ 48 ∷ 48 ∷ 48 ∷ 48 ∷ 48 ∷ 32 ∷ 48 ∷ 48 ∷ 48 ∷ 48 ∷ 48 ∷ 48 ∷ 48 ∷ 48 ∷ 32 ∷ 45 ∷ 32 ∷ 51 ∷ 70 ∷ 67 ∷ 57 ∷ 48 ∷ 70 ∷ 68 ∷ 66 ∷ 32 ∷ 45 ∷ []

unfoldable pub c_line4 : List ℕ
c_line4 = 67 ∷ 32 ∷ 48 ∷ 48 ∷ 48 ∷ 48 ∷ 48 ∷ 48 ∷ 48 ∷ 48 ∷ 32 ∷ 52 ∷ 49 ∷ 50 ∷ 48 ∷ 48 ∷ 48 ∷ 48 ∷ 48 ∷ 32 ∷ 48 ∷ 48 ∷ 48 ∷ 48 ∷ 48 ∷ 48 ∷ 48 ∷ 48 ∷ 32 ∷ 45 ∷ 32 ∷ 51 ∷ 70 ∷ 67 ∷ 57 ∷ 48 ∷ 70 ∷ 68 ∷ 66 ∷ 32 ∷ 45 ∷ []

unfoldable pub t_line1 : List ℕ
t_line1 = 84 ∷ 32 ∷ 48 ∷ 32 ∷ 49 ∷ 32 ∷ 50 ∷ 32 ∷ 45 ∷ 32 ∷ 45 ∷ 32 ∷ 51 ∷ []

unfoldable pub t_line2 : List ℕ
t_line2 = 84 ∷ 32 ∷ 48 ∷ 32 ∷ 50 ∷ 32 ∷ 51 ∷ 32 ∷ 50 ∷ 32 ∷ 45 ∷ 32 ∷ 45 ∷ []

unfoldable pub last_fed : List ℕ → List ℕ
last_fed end = p_line ++ (10 ∷ (c_line1 ++ (10 ∷ (c_line2 ++ (10 ∷ (c_line3 ++ (10 ∷ (c_line4 ++ (10 ∷ (t_line1 ++ (10 ∷ (t_line2 ++ end))))))))))))

unfoldable pub corner_at : ℕ → ℕ → CornerLine
corner_at x y = record { x = x; y = y; angle0 = 0; spread0 = Field.minus; angle1 = 0x3FC90FDB; spread1 = Field.minus }

unfoldable pub first_triangle : TriangleLine
first_triangle = record { a = 0; b = 1; c = 2; twin0 = Field.minus; twin1 = Field.minus; twin2 = Field.word 3 }

unfoldable pub second_triangle : TriangleLine
second_triangle = record { a = 0; b = 2; c = 3; twin0 = Field.word 2; twin1 = Field.minus; twin2 = Field.minus }

unfoldable pub params_with : Optional → ParamsLine
params_with rule = record { tolerance = 0x3E800000; ratio = 0x3FC00000; least = 0x3F000000; greatest = 0x40000000; limit = 0x3F800000; quads = 1; corners = 4; rule = rule }

unfoldable pub frame_with : List TriangleLine → Frame
frame_with triangles = record {
  params = params_with Optional.absent;
  corners = corner_at 0 0 ∷ corner_at 0x41200000 0 ∷ corner_at 0x41200000 0x41200000 ∷ corner_at 0 0x41200000 ∷ [];
  triangles = triangles;
}

-- the P line alone
abbrev pub alone : Optional → Frame
alone rule = record { params = params_with rule; corners = []; triangles = [] }

params_words : {rule : Optional} → WordOptional rule → LineWords (Line.params (params_with rule))
unfolding params_with
params_words {rule} w = LineWords.params {p = params_with rule} (record { tolerance = omega arith; ratio = omega arith; least = omega arith; greatest = omega arith; limit = omega arith; quads = omega arith; corners = omega arith; rule = w })

corner_words_lem : (x y : ℕ) → IsWord x → IsWord y → LineWords (Line.corner (corner_at x y))
unfolding corner_at
corner_words_lem x y a b = LineWords.corner {c = corner_at x y} (record { x = a; y = b; angle0 = omega arith; spread0 = WordField.minus; angle1 = omega arith; spread1 = WordField.minus })

first_words : LineWords (Line.triangle first_triangle)
unfolding first_triangle
first_words = LineWords.triangle {t = first_triangle} (record { a = omega arith; b = omega arith; c = omega arith; twin0 = WordField.minus; twin1 = WordField.minus; twin2 = WordField.word {v = 3} (omega arith) })

second_words : LineWords (Line.triangle second_triangle)
unfolding second_triangle
second_words = LineWords.triangle {t = second_triangle} (record { a = omega arith; b = omega arith; c = omega arith; twin0 = WordField.word {v = 2} (omega arith); twin1 = WordField.minus; twin2 = WordField.minus })

within : (ts : List TriangleLine) → length ts ≤ 256 → ((t : TriangleLine) → In t ts → LineWords (Line.triangle t)) → Within (frame_with ts)
unfolding frame_with
within ts few each = record { corners = omega arith; triangles = few; words = every }
  where
    those : (l : Line) (us : List TriangleLine) → ((t : TriangleLine) → In t us → LineWords (Line.triangle t)) → In l (map Line.triangle us) → LineWords l
    those l [] all i = not_in i
    those l (u ∷ us) all (In.first q) = rw q (all u (In.first refl))
    those l (u ∷ us) all (In.later i) = those l us (λ t j. all t (In.later j)) i

    every : (l : Line) → In l (lines_of (frame_with ts)) → LineWords l
    every l (In.first q) = rw q (params_words WordOptional.absent)
    every l (In.later (In.first q)) = rw q (corner_words_lem 0 0 (omega arith) (omega arith))
    every l (In.later (In.later (In.first q))) = rw q (corner_words_lem 0x41200000 0 (omega arith) (omega arith))
    every l (In.later (In.later (In.later (In.first q)))) = rw q (corner_words_lem 0x41200000 0x41200000 (omega arith) (omega arith))
    every l (In.later (In.later (In.later (In.later (In.first q))))) = rw q (corner_words_lem 0 0x41200000 (omega arith) (omega arith))
    every l (In.later (In.later (In.later (In.later (In.later i))))) = those l ts each i

pub document_text : Reads (last_fed (10 ∷ [])) (frame_with (first_triangle ∷ second_triangle ∷ []))
unfolding last_fed p_line c_line1 c_line2 c_line3 c_line4 t_line1 t_line2 frame_with params_with corner_at first_triangle second_triangle printed line_of optional_of spaced field_of decimal_of places_in
document_text = record { within = within (first_triangle ∷ second_triangle ∷ []) (omega arith) two; is = refl }
  where
    two : (t : TriangleLine) → In t (first_triangle ∷ second_triangle ∷ []) → LineWords (Line.triangle t)
    two t (In.first q) = rw q first_words
    two t (In.later (In.first q)) = rw q second_words
    two t (In.later (In.later i)) = not_in i

-- a line that was read has its line feed
feed_in : (ls rest : List ℕ) → In 10 (ls ++ (10 ∷ rest))
feed_in [] rest = In.first refl
feed_in (l ∷ ls) rest = In.later (feed_in ls rest)

no_feed : In 10 t_line2 → ⊥
unfolding t_line2
no_feed (In.first q) = omega arith
no_feed (In.later (In.first q)) = omega arith
no_feed (In.later (In.later (In.first q))) = omega arith
no_feed (In.later (In.later (In.later (In.first q)))) = omega arith
no_feed (In.later (In.later (In.later (In.later (In.first q))))) = omega arith
no_feed (In.later (In.later (In.later (In.later (In.later (In.first q)))))) = omega arith
no_feed (In.later (In.later (In.later (In.later (In.later (In.later (In.first q))))))) = omega arith
no_feed (In.later (In.later (In.later (In.later (In.later (In.later (In.later (In.first q)))))))) = omega arith
no_feed (In.later (In.later (In.later (In.later (In.later (In.later (In.later (In.later (In.first q))))))))) = omega arith
no_feed (In.later (In.later (In.later (In.later (In.later (In.later (In.later (In.later (In.later (In.first q)))))))))) = omega arith
no_feed (In.later (In.later (In.later (In.later (In.later (In.later (In.later (In.later (In.later (In.later (In.first q))))))))))) = omega arith
no_feed (In.later (In.later (In.later (In.later (In.later (In.later (In.later (In.later (In.later (In.later (In.later (In.first q)))))))))))) = omega arith
no_feed (In.later (In.later (In.later (In.later (In.later (In.later (In.later (In.later (In.later (In.later (In.later (In.later (In.first q))))))))))))) = omega arith
no_feed (In.later (In.later (In.later (In.later (In.later (In.later (In.later (In.later (In.later (In.later (In.later (In.later (In.later i))))))))))))) = not_in i

pub last_feed_missing : Bad (last_fed []) 7
unfolding last_fed p_line c_line1 c_line2 c_line3 c_line4 t_line1 t_line2 frame_with params_with corner_at first_triangle printed line_of optional_of spaced field_of decimal_of places_in
last_feed_missing = record {
  before = lines_of (frame_with (first_triangle ∷ []));
  fits = Fitting.some (frame_with (first_triangle ∷ [])) (within (first_triangle ∷ []) (omega arith) one);
  rest = t_line2;
  is = refl;
  number = refl;
  ends = λ e. absurd (omega (arith, ap length e));
  stuck = λ l after e fits. no_feed (rw e (feed_in (line_of l) after));
}
  where
    one : (t : TriangleLine) → In t (first_triangle ∷ []) → LineWords (Line.triangle t)
    one t (In.first q) = rw q first_words
    one t (In.later i) = not_in i

-- "P 3e", whatever follows: a lower-case letter is no digit
pub lower_case : (rest : List ℕ) → Bad (80 ∷ 32 ∷ 51 ∷ 101 ∷ rest) 1
unfolding line_of spaced
lower_case rest =
    bad_first (80 ∷ 32 ∷ 51 ∷ 101 ∷ rest) (λ l after of e. go l after (a_params l (ap letter_of of.is)) e) (λ l after of e. go l after (a_params l (ap letter_of of.is)) e)
  where
    go : (l : Line) (after : List ℕ) → (p : ParamsLine) × (l ≡ Line.params p) → 80 ∷ 32 ∷ 51 ∷ 101 ∷ rest ≡ line_of l ++ (10 ∷ after) → ⊥
    go l after (p, q) e =
        let v = p.tolerance / 0x1000000 % 16 in
        let d : 101 ≡ digit_of v = ap (λ (x : List ℕ). get_or x 3 0) (rw q at e) in
        by_digit 101 v d (λ a b. omega arith) (λ a b. omega arith)

alone_within : {rule : Optional} → WordOptional rule → Within (alone rule)
alone_within {rule} w = record { corners = omega arith; triangles = omega arith; words = words }
  where
    words : (l : Line) → In l (lines_of (alone rule)) → LineWords l
    words l (In.first q) = rw q (params_words w)
    words l (In.later i) = not_in i

-- a P line alone, and behind its last field a blank and the number of a rule, whichever it is
pub rule_given : (v : ℕ) → IsWord v → Reads (p_line ++ (32 ∷ (decimal_of v ++ (10 ∷ [])))) (alone (Optional.given v))
unfolding p_line params_with printed line_of optional_of spaced decimal_of places_in
rule_given v w = record { within = alone_within (WordOptional.given w); is = ap (λ (x : List ℕ). p_line ++ (32 ∷ (x ++ (10 ∷ [])))) (sym (append-nil (decimal_of v))) }

-- "T 00" behind a P line, whatever follows: a number has no leading nought
pub leading_nought : (rest : List ℕ) → Bad (p_line ++ (10 ∷ 84 ∷ 32 ∷ 48 ∷ 48 ∷ rest)) 2
unfolding p_line params_with printed line_of optional_of spaced field_of decimal_of places_in
leading_nought rest = record {
  before = lines_of (alone Optional.absent);
  fits = Fitting.some (alone Optional.absent) (alone_within WordOptional.absent);
  rest = 84 ∷ 32 ∷ 48 ∷ 48 ∷ rest;
  is = refl;
  number = refl;
  ends = λ e. absurd (omega (arith, ap length e));
  stuck = λ l after e fits. other l after e (fits_behind (alone Optional.absent) l (lines_of (alone Optional.absent) ++ (l ∷ [])) refl fits);
}
  where
    other : (l : Line) (after : List ℕ) → 84 ∷ 32 ∷ 48 ∷ 48 ∷ rest ≡ line_of l ++ (10 ∷ after) → Behind (alone Optional.absent) l → ⊥
    other (Line.params p) after e b = elim b [ ]
    other (Line.corner c) after e b = omega (arith, ap (λ (x : List ℕ). get_or x 0 0) e)
    other (Line.triangle t) after e b =
        let q : 48 ∷ 48 ∷ rest ≡ (decimal_of t.a ++ spaced (decimal_of t.b ∷ decimal_of t.c ∷ field_of decimal_of t.twin0 ∷ field_of decimal_of t.twin1 ∷ field_of decimal_of t.twin2 ∷ [])) ++ (10 ∷ after) = ap (λ (x : List ℕ). tail (tail x)) e in
        no_leading_nought t.a _ rest (sym (q ∙ append_assoc (decimal_of t.a) _ (10 ∷ after)))
