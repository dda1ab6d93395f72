-- A triangle's three words, or fits, stored behind those of the triangles before it, are what its half-edges have by definition. Assumes
-- nothing.
use mathlib.Core.Path.{◌≡◌, refl, sym, ap, ◌∙◌}
use mathlib.Core.Logic.{◌⊎◌, inl, inr}
use mathlib.Core.List.{List, [], ◌∷◌}
use Prim.Native.Nat.{ℕ, ◌+◌, ◌*◌, ◌<◌}
use native.Mathlib.Omega.{arith}
use lib.Ieee.{Float}
use lib.ListN.{length, get_or, set, length-set}
use Rattle.words.proofs.Front.{Front, front_more}
use Rattle.words.proofs.Listing.{is_listing}
use Rattle.axis.specs.declared.Axes.{Axes}
use Rattle.mesh.specs.declared.Positions.{Positions}
use Rattle.mesh.proofs.HalfEdge.{next_first, next_second, next_third}
use Rattle.classify.specs.declared.EdgeParams.{EdgeParams}
use Rattle.classify.specs.declared.Judged.{Judged}
use Rattle.classify.specs.declared.Side.{Side}
use Rattle.classify.specs.declared.three.Three.{Three}
use Rattle.classify.specs.inner.Three.{stored}
use Rattle.classify.specs.Match.{no_fit, class_number}
use Rattle.classify.specs.Fits.{fit_at}
use Rattle.classify.specs.inner.Triangle.{judgement_of, class_words, fits_by, sides_at, AllFit}
use Rattle.classify.specs.Classes.{Input, judged_at, class_at, classes_of}

-- what lists hold, as `given` says of lent ones
abbrev pub read : Positions → Axes → List ℕ → EdgeParams → Input
read corners axes triangles params = record {
  xs = corners.x.now;
  ys = corners.y.now;
  angles = axes.angles.now;
  marks = axes.marks.now;
  spreads = axes.spreads.now;
  triangles = triangles;
  params = params;
}

-- three elements more, of a triangle
module _ {A : Type 0} (none : A) where
  abbrev three_from : (ℕ → A) → ℕ → Three A
  three_from f e = record { first = f e; second = f (e + 1); third = f (e + 2) }

  three_more : (l after : List A) (t : ℕ) (own : Three A) (f : ℕ → A) → after ≡ stored l (3 * t) own → own ≡ three_from f (3 * t) → 3 * t + 2 < length l → Front none l (3 * t) f
      → Front none after (3 * (t + 1)) f
  three_more l after t own f put is h front =
      let n = 3 * t in
      let one = front_more none l n (f n) f (omega arith) front refl in
      let two = front_more none (set l n (f n)) (n + 1) (f (n + 1)) f (simp length-set (omega arith)) one refl in
      let up : n + 1 + 1 ≡ n + 2 = omega arith in
      let last : n + 2 + 1 ≡ 3 * (t + 1) = omega arith in
      let three = front_more none (set (set l n (f n)) (n + 1) (f (n + 1))) (n + 2) (f (n + 2)) f (simp length-set (omega arith)) (rw up at two) refl in
      rw (put, is) (rw last at three)

-- nothing is stored in a list without places
put_none : (l : List Float) (e : ℕ) (own : Three Float) → length l ≡ 0 → l ≡ stored l e own
put_none [] e own h = refl
put_none (x ∷ l) e own h = absurd (omega arith)

-- the class list and the fit list, each right for the triangles before t; the fit list may be one without places
abbrev pub Classed : Input → ℕ → List ℕ → Type 0
Classed i t l = Front 0 l (3 * t) (λ (e : ℕ). class_number (class_at i e))

abbrev pub Fitted : Input → ℕ → List Float → Type 0
Fitted i t l = (e : ℕ) → e < 3 * t → e < length l → get_or l e no_fit ≡ fit_at i e

module _ (i : Input) (t : ℕ) where
  -- triangle t's judgement
  abbrev own : Three Judged
  own = judgement_of i.params.tolerance (sides_at i t)

  own_words : class_words own ≡ three_from 0 (λ (e : ℕ). class_number (class_at i e)) (3 * t)
  unfolding class_words judgement_of sides_at class_at judged_at
  own_words = simp (next_first t, next_second t, next_third t)

  own_fits : fits_by own ≡ three_from no_fit (fit_at i) (3 * t)
  unfolding fits_by judgement_of sides_at fit_at judged_at
  own_fits = refl

  -- with t's words, or its fits, stored each is right for one triangle more
  module _ (sides : Three Side) (is : sides ≡ sides_at i t) (judged : Three Judged) (by : judged ≡ judgement_of i.params.tolerance sides) where
    same : judged ≡ own
    same = by ∙ ap (judgement_of i.params.tolerance) is

    pub classed_more : (l after : List ℕ) (w : Three ℕ) → w ≡ class_words judged → after ≡ stored l (3 * t) w → 3 * t + 2 < length l → Classed i t l → Classed i (t + 1) after
    classed_more l after w e put h front = three_more 0 l after t w _ put (e ∙ ap class_words same ∙ own_words) h front

    pub fitted_more : (l after : List Float) → after ≡ stored l (3 * t) (fits_by judged) → (length l ≡ 0) ⊎ (length l ≡ length i.triangles) → 3 * t + 2 < length i.triangles
        → Fitted i t l → Fitted i (t + 1) after
    fitted_more l after put (inl none) h front = rw (put ∙ sym (put_none l (3 * t) _ none)) (λ e k b. absurd (omega arith))
    fitted_more l after put (inr all) h front =
        λ e k b. three_more no_fit l after t _ (fit_at i) put (ap fits_by same ∙ own_fits) (omega arith) (λ e k. front e k (omega arith)) e k

-- at the last triangle each list is whole
module _ (i : Input) (t : ℕ) (whole : length i.triangles ≡ 3 * t) where
  pub classed_all : (l : List ℕ) → length l ≡ length i.triangles → Classed i t l → l ≡ classes_of i
  unfolding classes_of
  classed_all l n front = is_listing 0 l (length i.triangles) _ n (λ e h. front e (omega arith))

  pub fitted_all : (l : List Float) → (length l ≡ 0) ⊎ (length l ≡ length i.triangles) → Fitted i t l → AllFit i l
  fitted_all l (inl none) front e h = absurd (omega arith)
  fitted_all l (inr same) front e h = front e (omega arith) h
