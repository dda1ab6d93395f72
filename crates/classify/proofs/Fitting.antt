-- What a fit says: it is -1 exactly where the half-edge is not Grid; any other is the distance at one of the ends and neither end's is
-- greater, it is at least 0, or -0, and strictly below the tolerance; a Grid half-edge is Grid by another tolerance exactly where its fit
-- is below that one. Assumes nothing.
use Rattle.std.specs.Prelude.{Option, Some, None}
use mathlib.Core.Path.{◌≡◌, refl, sym, ap, ◌∙◌, subst}
use mathlib.Core.Bool.{Bool, true, false, cond, ◌&&◌, not, and-false, false≢true}
use mathlib.Core.Logic.{◌⊎◌, inl, inr}
use Prim.Native.Nat.{ℕ}
use lib.Dec.{T, eqb}
use lib.Ieee.{Float, nan, inf, fin, lt, le, eq, of_bits}
use lib.Ieee.Scale.{finite}
use Rattle.measure.specs.Float.{bits}
use Rattle.measure.proofs.Compared.{lt_once, lt_through}
use Rattle.measure.proofs.DistanceBounds.{FromZero, distance_from_zero}
use Rattle.axis.specs.declared.AxisCache.{AxisCache}
use Rattle.classify.specs.declared.Near.{Near}
use Rattle.classify.specs.declared.Side.{Side}
use Rattle.measure.specs.declared.Distance.{Distance}
use Rattle.measure.specs.declared.Distance.TheVariants.{Known, Missing}
use Rattle.classify.specs.declared.Judged.{Judged}
use Rattle.classify.specs.declared.Judged.TheVariants.{Grid, Spurious}
use Rattle.classify.specs.declared.Class.{Class}
use Rattle.classify.specs.declared.Class.TheVariants as class
use Rattle.classify.specs.Match.{offered, found, nearer, match_of, side_of, distance_in, is_below, no_fit, greater_of, grid_side, judged_by, judged_of, class_by}
use Rattle.classify.specs.Classes.{Input, axes_at, side_at, judged_at, class_at}
use Rattle.classify.specs.Fits.{fit_of, fit_at}

-- ---- the distance of a match is at least 0

offered_from_zero : (informative : Bool) (angle axis : Float) → FromZero (offered informative angle axis)
unfolding offered
offered_from_zero true angle axis = distance_from_zero angle axis
offered_from_zero false angle axis = tt

nearer_from_zero : (a b : Distance) → FromZero a → FromZero b → FromZero (distance_in (nearer a b))
unfolding nearer
nearer_from_zero (Known d0) (Known d1) p q = go (lt d1 d0)
  where
    go : (t : Bool) → FromZero (distance_in (cond t (found 1 d1) (found 0 d0)))
    go true = q
    go false = p
nearer_from_zero (Known d0) Missing p q = p
nearer_from_zero Missing (Known d1) p q = q
nearer_from_zero Missing Missing p q = tt

match_from_zero : (cache : AxisCache) (angle : Float) → FromZero (distance_in (match_of cache angle))
unfolding match_of
match_from_zero cache angle =
    nearer_from_zero _ _ (offered_from_zero cache.informative0 angle cache.angle0) (offered_from_zero cache.informative1 angle cache.angle1)

-- ---- the fit of a side that is judged Grid

-- d is the distance at one of the ends
abbrev pub AtAnEnd : Side → Float → Type 0
AtAnEnd side d = (distance_in side.start ≡ Known d) ⊎ (distance_in side.end ≡ Known d)

-- what a fit that is not -1 is
pub record Fitting (tolerance : Float) (side : Side) (fit : Float) : Type 0 where
  pub at_an_end : AtAnEnd side fit
  pub greatest : (d : Float) → AtAnEnd side d → lt fit d ≡ false
  pub from_zero : le (bits 0) fit ≡ true
  pub below : lt fit tolerance ≡ true

lt_self : (x : Float) → T (finite x) → lt x x ≡ false
lt_self x f = go (lt x x) refl
  where
    go : (t : Bool) → lt x x ≡ t → lt x x ≡ false
    go true e = lt_once x x f f e
    go false e = e

known_same : (x y : Float) → Known x ≡ Known y → x ≡ y
known_same x y e = ap number e
  where
    number : Distance → Float
    number (Known d) = d
    number Missing = x

-- of two known distances below the tolerance
module _ (tolerance : Float) (side : Side) (d0 d1 : Float) (at_start : distance_in side.start ≡ Known d0) (at_end : distance_in side.end ≡ Known d1)
    (z0 : FromZero (Known d0)) (z1 : FromZero (Known d1)) (below0 : lt d0 tolerance ≡ true) (below1 : lt d1 tolerance ≡ true) where
  -- what no end's distance is above, if neither of the two is
  above_none : (x : Float) → lt x d0 ≡ false → lt x d1 ≡ false → (d : Float) → AtAnEnd side d → lt x d ≡ false
  above_none x p q d (inl e) = subst (λ (y : Float). lt x y ≡ false) (known_same d0 d (sym at_start ∙ e)) p
  above_none x p q d (inr e) = subst (λ (y : Float). lt x y ≡ false) (known_same d1 d (sym at_end ∙ e)) q

  greater_fits : Fitting tolerance side (greater_of (Known d0) (Known d1))
  unfolding greater_of
  greater_fits = go (lt d0 d1) refl
    where
      go : (t : Bool) → lt d0 d1 ≡ t → Fitting tolerance side (cond t d1 d0)
      go true e = record { at_an_end = inr at_end; greatest = above_none d1 (lt_once d0 d1 z0.0 z1.0 e) (lt_self d1 z1.0); from_zero = z1.1; below = below1 }
      go false e = record { at_an_end = inl at_start; greatest = above_none d0 (lt_self d0 z0.0) e; from_zero = z0.1; below = below0 }

is_grid : Judged → Bool
is_grid (Grid own) = true
is_grid Spurious = false

no_end : (near : Near) (tolerance : Float) → is_grid (judged_by tolerance (Some near) None) ≡ false
unfolding judged_by is_below is_grid
no_end near tolerance = ap (λ (b : Bool). is_grid (cond b (Grid (grid_side (Some near) None)) Spurious)) (and-false (lt near.distance tolerance))

-- a side that is judged Grid has both distances, each below the tolerance
grid_fits : (tolerance : Float) (side : Side) (start end : Option Near) → side.start ≡ start → side.end ≡ end → FromZero (distance_in start) → FromZero (distance_in end) → is_grid (judged_by tolerance start end) ≡ true
    → Fitting tolerance side (greater_of (distance_in start) (distance_in end))
unfolding judged_by is_below is_grid
grid_fits tolerance side (Some a) (Some b) p q z0 z1 g = go (lt a.distance tolerance) refl (lt b.distance tolerance) refl g
  where
    go : (s : Bool) → lt a.distance tolerance ≡ s → (t : Bool) → lt b.distance tolerance ≡ t → is_grid (cond (s && t) (Grid (grid_side (Some a) (Some b))) Spurious) ≡ true
        → Fitting tolerance side (greater_of (Known a.distance) (Known b.distance))
    go true e true f h = greater_fits tolerance side a.distance b.distance (ap distance_in p) (ap distance_in q) z0 z1 e f
    go true e false f h = absurd (false≢true h)
    go false e t f h = absurd (false≢true h)
grid_fits tolerance side (Some a) None p q z0 z1 g = absurd (false≢true (sym (no_end a tolerance) ∙ g))
grid_fits tolerance side None end p q z0 z1 g = absurd (false≢true g)

-- ---- by another tolerance

-- what is not below a distance is not below what that is not below
not_below_lem : (x y t : Float) → T (finite x) → T (finite y) → lt x y ≡ false → lt y t ≡ false → lt x t ≡ false
unfolding lt
not_below_lem nan y t fx fy h k = absurd fx
not_below_lem (inf s) y t fx fy h k = absurd fx
not_below_lem (fin s m e) nan t fx fy h k = absurd fy
not_below_lem (fin s m e) (inf u) t fx fy h k = absurd fy
not_below_lem (fin s m e) (fin u n d) nan fx fy h k = refl
not_below_lem (fin s m e) (fin u n d) (inf w) fx fy h k = k
not_below_lem (fin s m e) (fin u n d) (fin w p q) fx fy h k = lt_through (fin s m e) (fin u n d) (fin w p q) tt tt tt h k

-- the greater of two is below t exactly where both are
both_below : (d0 d1 t : Float) → T (finite d0) → T (finite d1) → (lt d0 t && lt d1 t) ≡ lt (greater_of (Known d0) (Known d1)) t
unfolding greater_of
both_below d0 d1 t f0 f1 = go (lt d0 d1) refl
  where
    second : (a b : Bool) → (a ≡ false → b ≡ false) → (a && b) ≡ b
    second true b h = refl
    second false b h = sym (h refl)

    first : (a b : Bool) → (b ≡ false → a ≡ false) → (a && b) ≡ a
    first false b h = refl
    first true true h = refl
    first true false h = sym (h refl)

    go : (s : Bool) → lt d0 d1 ≡ s → (lt d0 t && lt d1 t) ≡ lt (cond s d1 d0) t
    go true e = second (lt d0 t) (lt d1 t) (not_below_lem d1 d0 t f1 f0 (lt_once d0 d1 f0 f1 e))
    go false e = first (lt d0 t) (lt d1 t) (not_below_lem d0 d1 t f0 f1 e)

another_grid : (tolerance t : Float) (start end : Option Near) → FromZero (distance_in start) → FromZero (distance_in end) → is_grid (judged_by tolerance start end) ≡ true
    → is_grid (judged_by t start end) ≡ lt (greater_of (distance_in start) (distance_in end)) t
unfolding judged_by is_below is_grid
another_grid tolerance t (Some a) (Some b) z0 z1 g = go (lt a.distance t && lt b.distance t) ∙ both_below a.distance b.distance t z0.0 z1.0
  where
    go : (s : Bool) → is_grid (cond s (Grid (grid_side (Some a) (Some b))) Spurious) ≡ s
    go true = refl
    go false = refl
another_grid tolerance t (Some a) None z0 z1 g = absurd (false≢true (sym (no_end a tolerance) ∙ g))
another_grid tolerance t None end z0 z1 g = absurd (false≢true g)

-- ---- a half-edge of the lists

grid_of : Class → Bool
grid_of class.Grid = true
grid_of class.Diagonal = false
grid_of class.Spurious = false

-- a half-edge is Grid exactly where its own judgement is
same_grid : (own next last : Judged) → grid_of (class_by own next last) ≡ is_grid own
unfolding class_by grid_of is_grid
same_grid (Grid own) next last = refl
same_grid Spurious (Grid next) (Grid last) = go (not (eqb next.end last.start))
  where
    go : (t : Bool) → grid_of (cond t class.Diagonal class.Spurious) ≡ false
    go true = refl
    go false = refl
same_grid Spurious (Grid next) Spurious = refl
same_grid Spurious Spurious last = refl

grid_class : (c : Class) → grid_of c ≡ true → c ≡ class.Grid
unfolding grid_of
grid_class class.Grid h = refl
grid_class class.Diagonal h = absurd (false≢true h)
grid_class class.Spurious h = absurd (false≢true h)

fit_grid : (tolerance : Float) (start end : Option Near) → is_grid (judged_by tolerance start end) ≡ true → fit_of (judged_by tolerance start end) ≡ greater_of (distance_in start) (distance_in end)
unfolding judged_by is_grid fit_of
fit_grid tolerance start end h = go (is_below tolerance (distance_in start) && is_below tolerance (distance_in end)) h
  where
    judged_if : Bool → Judged
    judged_if b = cond b (Grid (grid_side start end)) Spurious

    go : (b : Bool) → is_grid (judged_if b) ≡ true → fit_of (judged_if b) ≡ greater_of (distance_in start) (distance_in end)
    go true h = refl
    go false h = absurd (false≢true h)

fit_spurious : (own : Judged) → is_grid own ≡ false → fit_of own ≡ no_fit
unfolding fit_of is_grid
fit_spurious (Grid own) h = absurd (false≢true (sym h))
fit_spurious Spurious h = refl

below_zero : le (bits 0) no_fit ≡ false
unfolding le lt eq of_bits
below_zero = refl

-- the lists with another tolerance
abbrev pub by_tolerance : Float → Input → Input
by_tolerance t i = record {
  xs = i.xs;
  ys = i.ys;
  angles = i.angles;
  marks = i.marks;
  spreads = i.spreads;
  triangles = i.triangles;
  params = record { tolerance = t; spread = i.params.spread };
}

class_grid : (i : Input) (e : ℕ) → grid_of (class_at i e) ≡ is_grid (judged_at i e)
unfolding class_at
class_grid i e = same_grid (judged_at i e) _ _

module _ (i : Input) (e : ℕ) where
  side_fits : is_grid (judged_at i e) ≡ true → Fitting i.params.tolerance (side_at i e) (greater_of (distance_in (side_at i e).start) (distance_in (side_at i e).end))
  unfolding judged_at judged_of side_at side_of
  side_fits g = grid_fits i.params.tolerance (side_at i e) _ _ refl refl (match_from_zero _ _) (match_from_zero _ _) g

  judged_fits : is_grid (judged_at i e) ≡ true → Fitting i.params.tolerance (side_at i e) (fit_at i e)
  unfolding fit_at judged_at judged_of
  judged_fits g = subst (Fitting i.params.tolerance (side_at i e)) (sym (fit_grid i.params.tolerance (side_at i e).start (side_at i e).end g)) (side_fits g)

  judged_none : is_grid (judged_at i e) ≡ false → fit_at i e ≡ no_fit
  unfolding fit_at
  judged_none g = fit_spurious (judged_at i e) g

  pub grid_fitting : class_at i e ≡ class.Grid → Fitting i.params.tolerance (side_at i e) (fit_at i e)
  unfolding grid_of
  grid_fitting g = judged_fits (sym (class_grid i e) ∙ ap grid_of g)

  pub none_not_grid : fit_at i e ≡ no_fit → class_at i e ≡ class.Grid → ⊥
  none_not_grid n g = false≢true (sym below_zero ∙ subst (λ (x : Float). le (bits 0) x ≡ true) n (grid_fitting g).from_zero)

  pub not_grid_none : (class_at i e ≡ class.Grid → ⊥) → fit_at i e ≡ no_fit
  not_grid_none n = go (is_grid (judged_at i e)) refl
    where
      go : (t : Bool) → is_grid (judged_at i e) ≡ t → fit_at i e ≡ no_fit
      go true g = absurd (n (grid_class (class_at i e) (class_grid i e ∙ g)))
      go false g = judged_none g

  pub any_other_fitting : (fit_at i e ≡ no_fit → ⊥) → Fitting i.params.tolerance (side_at i e) (fit_at i e)
  any_other_fitting n = go (is_grid (judged_at i e)) refl
    where
      go : (t : Bool) → is_grid (judged_at i e) ≡ t → Fitting i.params.tolerance (side_at i e) (fit_at i e)
      go true g = judged_fits g
      go false g = absurd (n (judged_none g))

  judged_another : is_grid (judged_at i e) ≡ true → (t : Float) → is_grid (judged_at (by_tolerance t i) e) ≡ lt (fit_at i e) t
  unfolding fit_at judged_at judged_of side_at side_of axes_at
  judged_another g t =
      another_grid i.params.tolerance t _ _ (match_from_zero _ _) (match_from_zero _ _) g
      ∙ ap (λ (x : Float). lt x t) (sym (fit_grid i.params.tolerance _ _ g))

  pub grid_by_another : class_at i e ≡ class.Grid → (t : Float)
      → (class_at (by_tolerance t i) e ≡ class.Grid → lt (fit_at i e) t ≡ true) × (lt (fit_at i e) t ≡ true → class_at (by_tolerance t i) e ≡ class.Grid)
  unfolding grid_of
  grid_by_another g t =
      let same = judged_another (sym (class_grid i e) ∙ ap grid_of g) t in
      (λ h. sym same ∙ sym (class_grid (by_tolerance t i) e) ∙ ap grid_of h, λ h. grid_class _ (class_grid (by_tolerance t i) e ∙ same ∙ h))
