-- What the routines of a triangle are given, what the rows have shown; and what they answer, its three sides, their judgement, and by it
-- the words of their classes and their fits.
use Rattle.std.specs.Prelude.{◌≡◌, true, List, ℕ, ◌+◌, ◌*◌, ◌%◌, ◌≤◌, ◌<◌, Float, length, get_or}
use Rattle.std.specs.Float.{nan}
use Rattle.measure.specs.Position.{is_position}
use Rattle.mesh.specs.Lists.{most_corners, most_half_edges}
use Rattle.classify.specs.declared.three.Three.{Three}
use Rattle.classify.specs.declared.Side.{Side}
use Rattle.classify.specs.declared.Judged.{Judged}
use Rattle.classify.specs.Match.{no_fit, judged_of, class_by, class_number}
use Rattle.classify.specs.Classes.{Input, side_at}
use Rattle.classify.specs.Fits.{fit_of, fit_at}

-- what the rows of the call have shown of an input that they let through
pub record Sound (i : Input) : Type 0 where
  pub ys : length i.ys ≡ length i.xs
  pub angles : length i.angles ≡ 2 * length i.xs
  pub marks : length i.marks ≡ 2 * length i.xs
  pub spreads : length i.spreads ≡ 2 * length i.xs
  pub whole : length i.triangles % 3 ≡ 0
  pub corners : length i.xs ≤ most_corners
  pub edges : length i.triangles ≤ most_half_edges
  pub placed : (k : ℕ) → k < length i.xs → (is_position (get_or i.xs k nan) ≡ true) × (is_position (get_or i.ys k nan) ≡ true)
  pub named : (e : ℕ) → e < length i.triangles → get_or i.triangles e 0 < length i.xs

-- the three sides of triangle t
unfoldable pub sides_at : Input → ℕ → Three Side
sides_at i t = record { first = side_at i (3 * t); second = side_at i (3 * t + 1); third = side_at i (3 * t + 2) }

-- each of them judged for itself
unfoldable pub judgement_of : Float → Three Side → Three Judged
judgement_of tolerance sides = record { first = judged_of tolerance sides.first; second = judged_of tolerance sides.second; third = judged_of tolerance sides.third }

-- the words of a triangle's three half-edges: each by its own judgement and those of the next two
unfoldable pub class_words : Three Judged → Three ℕ
class_words judged =
    let a = judged.first in
    let b = judged.second in
    let c = judged.third in
    record { first = class_number (class_by a b c); second = class_number (class_by b c a); third = class_number (class_by c a b) }

-- their fits: each by its own judgement alone
unfoldable pub fits_by : Three Judged → Three Float
fits_by judged = record { first = fit_of judged.first; second = fit_of judged.second; third = fit_of judged.third }

-- every place of the list holds its half-edge's fit, as is true of a list without places
abbrev pub AllFit : Input → List Float → Type 0
AllFit i l = (e : ℕ) → e < length l → get_or l e no_fit ≡ fit_at i e
