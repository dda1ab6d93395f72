-- What `read` answers, from what stands in the text: no P line is the first bad line 1; behind the lines that were read stands the text's end,
-- and it is a frame's, or the first bad line. Assumes nothing.
use mathlib.Core.Path.{◌≡◌, refl, sym, ap, ◌∙◌}
use mathlib.Core.Logic.{◌⊎◌, inl, inr}
use mathlib.Core.List.{List, [], ◌∷◌, ◌++◌, append_assoc, append-nil, map}
use Rattle.std.specs.Prelude.{Option, Some, None}
use Prim.Native.Nat.{ℕ, ◌+◌, ◌≤◌, ◌<◌}
use native.Mathlib.Omega.{arith}
use lib.ListN.{length, take, drop, set, length-append, length-drop, length-map, drop_of_length-le}
use lib.Seq.{take-suc-set}
use Rattle.cells.specs.Listed.{In}
use Rattle.frame.specs.declared.Params.{Params}
use Rattle.gridtext.specs.declared.FrameRead.{FrameRead}
use Rattle.gridtext.specs.declared.inner.row.Sort.{Sort}
use Rattle.gridtext.specs.Lines.{Optional, ParamsLine, Line, line_of, printed, LineWords}
use Rattle.gridtext.specs.Text.{most_corner_lines, most_triangle_lines, Frame, lines_of, Within, Fitting, Reads, Bad}
use Rattle.gridtext.specs.Lists.{rule_of, params_of}
use Rattle.gridtext.specs.inner.Rows.{most_words}
use Rattle.gridtext.specs.inner.Read.{param_words, rule_words, all_params, frame_of, corner_words, triangle_words, line_words, all_words, Laid, params_sort, sort_of, Of, NoLine, LineStands, LineAt, ParamsAt, LinesAt}
use Rattle.gridtext.proofs.Rows.{with_rule, by_rule}
use Rattle.gridtext.proofs.Runs.{in_append, printed_append}
use Rattle.gridtext.proofs.Parsing.{Behind, fits_behind, lines_of_lem, a_corner, a_triangle}

-- ---- no P line

abbrev OfEither : Line → Type 0
OfEither l = LineWords l → Of Sort.Params l ⊎ Of Sort.Ruled l

only_params : (l : Line) (ls : List Line) → ls ≡ l ∷ [] → Fitting ls → Of Sort.Params l ⊎ Of Sort.Ruled l
unfolding sort_of params_sort
only_params l ls e Fitting.none = let z : ◌≡◌ {A = ℕ} 0 1 = cc in absurd (omega arith)
only_params l ls e (Fitting.some f within) =
    let q : Line.params f.params ≡ l = cc in
    let either = by_rule OfEither (λ p w. inl (record { is = refl; words = w })) (λ p v w. inr (record { is = refl; words = w })) f.params in
    rw (← q) (either (within.words (Line.params f.params) (In.first refl)))

pub bad_first : (text : List ℕ) → NoLine Sort.Params text 0 → NoLine Sort.Ruled text 0 → Bad text 1
unfolding printed
bad_first text plain ruled = record {
  before = [];
  fits = Fitting.none;
  rest = text;
  is = refl;
  number = refl;
  ends = λ e. refl;
  stuck = λ l after e fits. go l after e (only_params l (l ∷ []) refl fits);
}
  where
    go : (l : Line) (after : List ℕ) → text ≡ line_of l ++ (10 ∷ after) → Of Sort.Params l ⊎ Of Sort.Ruled l → ⊥
    go l after e (inl of) = plain l after of e
    go l after e (inr of) = ruled l after of e

-- ---- the P line that was read

module _ {text out : List ℕ} where
  -- behind the words of one that leaves the rule out, a 1 is put
  pub plain_at : {next : ℕ} → length out ≡ most_words → LineAt Sort.Params text 0 out (Some next) → ParamsAt text (set out 7 1) (Some next)
  unfolding sort_of params_sort line_words param_words rule_words all_params rule_of
  plain_at h (LineAt.found {l} {next} of s t) = go l of s t
    where
      Then : Line → Type 0
      Then l = Of Sort.Params l → LineStands text 0 l next → take (length (line_words l)) out ≡ line_words l → ParamsAt text (set out 7 1) (Some next)

      one_put : (p : ParamsLine) → Then (with_rule p Optional.absent)
      one_put p of s t = ParamsAt.found of.words s (take-suc-set out 7 1 (omega (arith, h)) ∙ ap (λ (x : List ℕ). x ++ (1 ∷ [])) t)

      go : (l : Line) → Then l
      go (Line.params p) of s t = by_rule Then one_put (λ q v o _ _. let z : ◌≡◌ {A = ℕ} 0 1 = cc o.is in absurd (omega arith)) p of s t
      go (Line.corner c) of s t = let z : ◌≡◌ {A = ℕ} 0 1 = cc of.is in absurd (omega arith)
      go (Line.triangle c) of s t = let z : ◌≡◌ {A = ℕ} 0 1 = cc of.is in absurd (omega arith)

  -- the words of one that gives the rule are all parameters
  pub ruled_at : {r : Option ℕ} → NoLine Sort.Params text 0 → LineAt Sort.Ruled text 0 out r → ParamsAt text out r
  unfolding sort_of params_sort line_words param_words rule_words all_params rule_of
  ruled_at none (LineAt.nothing n) = ParamsAt.nothing none n
  ruled_at none (LineAt.found {l} {next} of s t) = go l of s t
    where
      Then : Line → Type 0
      Then l = Of Sort.Ruled l → LineStands text 0 l next → take (length (line_words l)) out ≡ line_words l → ParamsAt text out (Some next)

      go : (l : Line) → Then l
      go (Line.params p) of s t = by_rule Then (λ q o _ _. let z : ◌≡◌ {A = ℕ} 0 1 = cc o.is in absurd (omega arith)) (λ q v o at words. ParamsAt.found o.words at words) p of s t
      go (Line.corner c) of s t = let z : ◌≡◌ {A = ℕ} 0 1 = cc of.is in absurd (omega arith)
      go (Line.triangle c) of s t = let z : ◌≡◌ {A = ℕ} 0 1 = cc of.is in absurd (omega arith)

-- ---- lines of all three sorts

words_map : {A : Type 0} (line : A → Line) (words : A → List ℕ) → ((a : A) → line_words (line a) ≡ words a) → (as' : List A) → all_words line_words (map line as') ≡ all_words words as'
unfolding all_words
words_map line words same [] = refl
words_map line words same (a ∷ as') = rw (same a, words_map line words same as')

nothing_in : {A : Type 0} (xs : List A) → length xs ≡ 0 → xs ≡ []
nothing_in [] e = refl
nothing_in (x ∷ xs) e = absurd (omega arith)

-- a P line stands first, with C lines and T lines behind it
pub record Three (text : List ℕ) (f : Frame) (c₀ c t₀ t : List ℕ) (m n end : ℕ) : Type 0 where
  pub at : ℕ
  pub next : ℕ
  pub words : LineWords (Line.params f.params)
  pub first : LineStands text 0 (Line.params f.params) at
  pub cs : LinesAt Sort.Corner most_corner_lines text at c₀ c m next
  pub ts : LinesAt Sort.Triangle most_triangle_lines text next t₀ t n end
  pub corners : cs.lines ≡ map Line.corner f.corners
  pub triangles : ts.lines ≡ map Line.triangle f.triangles

module _ {text : List ℕ} {f : Frame} {c₀ c t₀ t : List ℕ} {m n end : ℕ} (three : Three text f c₀ c t₀ t m n end) where
  pub corner_count : m ≡ length f.corners
  corner_count = three.cs.number ∙ ap length three.corners ∙ length-map f.corners Line.corner

  pub triangle_count_lem : n ≡ length f.triangles
  triangle_count_lem = three.ts.number ∙ ap length three.triangles ∙ length-map f.triangles Line.triangle

  every : (l : Line) → In l (lines_of f) → LineWords l
  every l (In.first q) = rw q three.words
  every l (In.later i) = go (in_append (map Line.corner f.corners) (map Line.triangle f.triangles) i)
    where
      go : In l (map Line.corner f.corners) ⊎ In l (map Line.triangle f.triangles) → LineWords l
      go (inl j) = (three.cs.each l (rw three.corners j)).words
      go (inr j) = (three.ts.each l (rw three.triangles j)).words

  within : Within f
  within = record {
    corners = omega (arith, corner_count, three.cs.few);
    triangles = omega (arith, triangle_count_lem, three.ts.few);
    words = every;
  }

  all : text ≡ printed (lines_of f) ++ drop end text
  unfolding printed
  all =
      three.first.is
      ∙ rw (three.cs.is, three.ts.is, three.corners, three.triangles, printed_append (map Line.corner f.corners) (map Line.triangle f.triangles), append_assoc, append_assoc)

  pub reads_all : length text ≤ end → Reads text f
  reads_all h = record { within = within; is = all ∙ rw (drop_of_length-le text h, append-nil) }

  -- where no T line was read, the C lines end where the T lines do
  ends_alike : n ≡ 0 → drop three.next text ≡ drop end text
  unfolding printed
  ends_alike z = three.ts.is ∙ rw (nothing_in three.ts.lines (sym three.ts.number ∙ z))

  other : (l : Line) (after : List ℕ) → drop end text ≡ line_of l ++ (10 ∷ after) → Behind f l → ⊥
  unfolding sort_of
  other l after e (Behind.corner w z k) =
      three.cs.ends (omega (arith, corner_count)) l after (record { is = refl; words = w }) (ends_alike (triangle_count_lem ∙ z) ∙ e)
  other l after e (Behind.triangle w k) = three.ts.ends (omega (arith, triangle_count_lem)) l after (record { is = refl; words = w }) e

  pub bad_behind : end < length text → Bad text (m + n + 2)
  bad_behind h = record {
    before = lines_of f;
    fits = Fitting.some f within;
    rest = drop end text;
    is = all;
    number = simp (length-append, length-map) (omega (arith, corner_count, triangle_count_lem));
    ends = λ e. absurd (omega (arith, length-drop end text, ap length e));
    stuck = λ l after e fits. other l after e (fits_behind f l (lines_of f ++ (l ∷ [])) refl fits);
  }

  pub corners_laid : Laid (all_words corner_words f.corners) c₀ c
  unfolding line_words
  corners_laid =
      let e = ap (all_words line_words) three.corners ∙ words_map Line.corner corner_words (λ x. refl) f.corners in
      rw e at three.cs.laid

  pub triangles_laid : Laid (all_words triangle_words f.triangles) t₀ t
  unfolding line_words
  triangles_laid =
      let e = ap (all_words line_words) three.triangles ∙ words_map Line.triangle triangle_words (λ x. refl) f.triangles in
      rw e at three.ts.laid

-- ---- what the three readers found

pub params_within : {text out : List ℕ} {next : ℕ} → ParamsAt text out (Some next) → next ≤ length text
params_within (ParamsAt.found w s t) = s.within

pub params_missing : {text out : List ℕ} → ParamsAt text out None → Bad text 1
params_missing {text} (ParamsAt.nothing plain ruled) = bad_first text plain ruled

pub record Found (text out c₀ c t₀ t : List ℕ) (m n end : ℕ) : Type 0 where
  pub frame : Frame
  pub three : Three text frame c₀ c t₀ t m n end
  pub params : take (length (all_params frame.params)) out ≡ all_params frame.params

pub found_three : {text out c₀ c t₀ t : List ℕ} {at m n next end : ℕ} → ParamsAt text out (Some at) → LinesAt Sort.Corner most_corner_lines text at c₀ c m next → LinesAt Sort.Triangle most_triangle_lines text next t₀ t n end → Found text out c₀ c t₀ t m n end
found_three {at = at} {next = next} (ParamsAt.found {p} words s params) cs ts =
    let x = lines_of_lem Line.corner Sort.Corner a_corner cs.lines cs.each in
    let y = lines_of_lem Line.triangle Sort.Triangle a_triangle ts.lines ts.each in
    record {
      frame = record { params = p; corners = x.0; triangles = y.0 };
      three = record {
        at = at;
        next = next;
        words = words;
        first = s;
        cs = cs;
        ts = ts;
        corners = x.1;
        triangles = y.1;
      };
      params = params;
    }

pub frame_is : (r : Params) (m n : ℕ) (f : Frame) → m ≡ length f.corners → n ≡ length f.triangles → r ≡ params_of f.params → ◌≡◌ {A = FrameRead} (record { params = r; corners = m; triangles = n }) (frame_of f)
unfolding frame_of
frame_is r m n f a b e = rw (← a, ← b, ← e)
