-- Lines read one after the other: one more line that stands behind them is one more of the run, and its words stand behind theirs. Assumes
-- nothing.
use mathlib.Core.Path.{◌≡◌, refl, sym, ap, ◌∙◌}
use mathlib.Core.Logic.{◌⊎◌, inl, inr}
use mathlib.Core.List.{List, [], ◌∷◌, ◌++◌, append_assoc, append-nil}
use Rattle.std.specs.Prelude.{Some, None}
use Prim.Native.Nat.{ℕ, ◌+◌, ◌*◌, ◌≤◌, ◌<◌}
use native.Mathlib.Nat.{zero-mul, add-mul, one-mul, mul-le-mul_right}
use native.Mathlib.Omega.{arith}
use lib.ListN.{length, take, drop, length-append}
use lib.Seq.{paste, length-paste, take_all, take_at, drop-append-add, drop-drop}
use Rattle.cells.specs.Listed.{In}
use Rattle.cells.proofs.Tests.{not_in}
use Rattle.gridtext.specs.declared.inner.row.Sort.{Sort}
use Rattle.gridtext.specs.Lines.{Field, Line, line_of, printed}
use Rattle.gridtext.specs.inner.Rows.{size_of, spread_words}
use Rattle.gridtext.specs.inner.Read.{param_words, rule_words, corner_words, triangle_words, line_words, all_words, Laid, params_sort, sort_of, Of, NoLine, LineAt, LinesAt}
use Rattle.gridtext.proofs.Rows.{by_rule}

-- ---- lists of lines, one longer

pub in_append : {A : Type 0} {e : A} (es fs : List A) → In e (es ++ fs) → In e es ⊎ In e fs
in_append [] fs i = inr i
in_append (g ∷ es) fs (In.first q) = inl (In.first q)
in_append {A} {e} (g ∷ es) fs (In.later i) = go (in_append es fs i)
  where
    go : In e es ⊎ In e fs → In e (g ∷ es) ⊎ In e fs
    go (inl j) = inl (In.later j)
    go (inr q) = inr q

pub printed_append : (ls ms : List Line) → printed (ls ++ ms) ≡ printed ls ++ printed ms
unfolding printed
printed_append [] ms = refl
printed_append (l ∷ ls) ms = rw (printed_append ls ms, append_assoc)

printed_more : (ls : List Line) (l : Line) → printed (ls ++ (l ∷ [])) ≡ printed ls ++ (line_of l ++ (10 ∷ []))
unfolding printed
printed_more ls l = printed_append ls (l ∷ [])

words_more : (ls : List Line) (l : Line) → all_words line_words (ls ++ (l ∷ [])) ≡ all_words line_words ls ++ line_words l
unfolding all_words
words_more [] l = simp append-nil
words_more (m ∷ ls) l = rw (words_more ls l, append_assoc)

spread_two : (f : Field) → length (spread_words f) ≡ 2
unfolding spread_words
spread_two Field.minus = refl
spread_two (Field.word v) = refl

pub line_size : (l : Line) → length (line_words l) ≡ size_of (sort_of l)
unfolding line_words param_words rule_words corner_words triangle_words sort_of params_sort
line_size (Line.params p) = by_rule (λ (l : Line). length (line_words l) ≡ size_of (sort_of l)) (λ q. refl) (λ q v. refl) p
line_size (Line.corner c) = simp (length-append, spread_two)
line_size (Line.triangle t) = refl

-- as many times a size, and once more
once_more : (count most size : ℕ) → count < most → count * size + size ≤ most * size
once_more count most size h =
    let m : (count + 1) * size ≤ most * size = mul-le-mul_right size (omega arith) in
    let e : (count + 1) * size ≡ count * size + size = add-mul count 1 size ∙ ap (λ (x : ℕ). count * size + x) (one-mul size) in
    omega (arith, m, e)

pub line_missing : {sort : Sort} {text : List ℕ} {at : ℕ} {out : List ℕ} → LineAt sort text at out None → NoLine sort text at
line_missing (LineAt.nothing n) = n

-- ---- the run so far

pub record SoFar (sort : Sort) (most : ℕ) (text : List ℕ) (at : ℕ) (before after : List ℕ) (count next : ℕ) : Type 0 where
  pub lines : List Line
  pub each : (l : Line) → In l lines → Of sort l
  pub number : count ≡ length lines
  pub few : count ≤ most
  pub is : drop at text ≡ printed lines ++ drop next text
  pub within : next ≤ length text
  pub laid : Laid (all_words line_words lines) before after
  pub size : length (all_words line_words lines) ≡ count * size_of sort
  pub same : length after ≡ length before

pub far_none : (sort : Sort) (most : ℕ) (text : List ℕ) (at : ℕ) (before : List ℕ) → at ≤ length text → SoFar sort most text at before before 0 at
unfolding printed all_words
far_none sort most text at before h = record {
  lines = [];
  each = λ l i. not_in i;
  number = refl;
  few = omega arith;
  is = refl;
  within = h;
  laid = refl;
  size = sym (zero-mul (size_of sort));
  same = refl;
}

module _ {sort : Sort} {most : ℕ} {text : List ℕ} {at : ℕ} {before after : List ℕ} {count next : ℕ} (far : SoFar sort most text at before after count next) where
  pub far_ends : (count < most → NoLine sort text next) → LinesAt sort most text at before after count next
  far_ends ends = record {
    lines = far.lines;
    each = far.each;
    number = far.number;
    few = far.few;
    is = far.is;
    within = far.within;
    laid = far.laid;
    same = far.same;
    ends = ends;
  }

  pub room_left : count < most → most * size_of sort ≤ length before → count * size_of sort + size_of sort ≤ length after
  room_left l h = omega (arith, once_more count most (size_of sort) l, far.same)

  abbrev words : List ℕ
  words = all_words line_words far.lines

  -- its words behind those of the lines before
  laid_more : (l : Line) (part new : List ℕ) → length (line_words l) ≡ size_of sort → part ≡ line_words l
      → new ≡ paste after (count * size_of sort) part (size_of sort) → Laid (all_words line_words (far.lines ++ (l ∷ []))) before new
  laid_more l part new n w e =
      let f : take (count * size_of sort) after ≡ words = ap (take (count * size_of sort)) far.laid ∙ take_at words (drop (length words) before) (count * size_of sort) far.size in
      let g : take (size_of sort) part ≡ line_words l = ap (take (size_of sort)) w ∙ take_all (size_of sort) (line_words l) (omega (arith, n)) in
      let h : drop (count * size_of sort + size_of sort) after ≡ drop (length words + length (line_words l)) before = ap (drop (count * size_of sort + size_of sort)) far.laid ∙ rw (← far.size, ← n, drop-append-add, drop-drop) in
      e ∙ rw (f, g, h, words_more far.lines l, length-append words (line_words l))

  pub far_more : {after' : ℕ} (out part new : List ℕ)
      → count < most
      → LineAt sort text next out (Some after')
      → part ≡ take (size_of sort) out
      → count * size_of sort + size_of sort ≤ length after
      → new ≡ paste after (count * size_of sort) part (size_of sort)
      → SoFar sort most text at before new (count + 1) after'
  far_more {after'} out part new l (LineAt.found {l = line} of s t) p k e =
      let n : length (line_words line) ≡ size_of sort = line_size line ∙ ap size_of of.is in
      let w : part ≡ line_words line = p ∙ rw (← n) t in
      record {
        lines = far.lines ++ (line ∷ []);
        each = λ m i. each_of m (in_append far.lines (line ∷ []) i);
        number = rw length-append (omega (arith, far.number));
        few = omega arith;
        is = far.is ∙ ap (λ (x : List ℕ). printed far.lines ++ x) s.is ∙ rw (printed_more far.lines line, append_assoc, append_assoc);
        within = s.within;
        laid = laid_more line part new n w e;
        size = rw (words_more far.lines line, length-append words (line_words line)) (omega (arith, far.size, n, add-mul count 1 (size_of sort), one-mul (size_of sort)));
        same = rw e (length-paste after (count * size_of sort) part (size_of sort) k (omega (arith, ap length w, n))) ∙ far.same;
      }
    where
      each_of : (m : Line) → In m far.lines ⊎ In m (line ∷ []) → Of sort m
      each_of m (inl i) = far.each m i
      each_of m (inr (In.first q)) = rw q of
      each_of m (inr (In.later i)) = not_in i
