-- The entries of a run: its least x is the first record's, the height grows record by record, and the entries are numbered in order as the
-- records are, each in one of the rows. Assumes nothing.
use mathlib.Core.Path.{◌≡◌, refl, sym, ap, ◌∙◌}
use mathlib.Core.List.{List, [], ◌∷◌, ◌++◌}
use Prim.Native.Nat.{ℕ, suc, ◌-◌, ◌≤◌, ◌<◌, max}
use native.Mathlib.Decide.{ℕ_discrete}
use native.Mathlib.Omega.{arith}
use Rattle.cells.specs.Listed.{In, Entry}
use Rattle.cells.specs.Listed.In.{first, later}
use Rattle.cells.specs.Holes.{height}
use Rattle.cells.proofs.Gaps.{Numbered, in_height}
use Rattle.fates.specs.declared.Run.{Run}
use Rattle.walk.specs.inner.Emitted.{x_in, y_in, least_x, least_y, entry_in, entries_to, entries_of}
use Rattle.walk.specs.inner.Emitting.{Ascending}
use Rattle.walk.specs.Demanded.{Place}
use Rattle.walk.proofs.Shifted.{entries_more, least_le, least_met, entry_of, entry_in_lem, before_at}

-- ---- one entry more

height_snoc : (es : List Entry) (e : Entry) → height (es ++ (e ∷ [])) ≡ max (height es) (suc e.v)
unfolding height
height_snoc [] e = omega arith
height_snoc (f ∷ es) e = omega (arith, height_snoc es e)

pub height_more : (w : List ℕ) (a x y k : ℕ) → height (entries_to w a x y (suc k)) ≡ max (height (entries_to w a x y k)) (suc (y_in w a k - y))
height_more w a x y k = ap height (entries_more w a x y k) ∙ height_snoc (entries_to w a x y k) (entry_in w a x y k)

pub height_most : (es : List Entry) (b : ℕ) → ((e : Entry) → In e es → e.v < b) → height es ≤ b
unfolding height
height_most [] b h = omega arith
height_most (e ∷ es) b h = omega (arith, h e (first refl), height_most es b (λ f i. h f (later i)))

module _ (w : List ℕ) (run : Run) (o : Ascending w run) where
  abbrev a : ℕ
  a = run.at

  abbrev count : ℕ
  count = run.count

  -- ---- least words

  pub x_low : (k : ℕ) → k < count → least_x w run ≤ x_in w a k
  x_low k h = least_le (x_in w a) count k h

  pub y_low : (k : ℕ) → k < count → least_y w run ≤ y_in w a k
  y_low k h = least_le (y_in w a) count k h

  pub x_up : (j k : ℕ) → j < k → k < count → x_in w a j ≤ x_in w a k
  x_up j k h l = omega (arith, o.rises j k h l)

  pub x_first : 0 < count → least_x w run ≡ x_in w a 0
  x_first h = go (least_met (x_in w a) count (omega (arith, x_low 0 h, o.keys 0 h)))
    where
      at : (k : ℕ) → k < count → x_in w a k ≡ least_x w run → Dec (k ≡ 0) → least_x w run ≡ x_in w a 0
      at k l e (yes y) = sym e ∙ ap (x_in w a) y
      at k l e (no y) = omega (arith, x_low 0 h, x_up 0 k (omega (arith, y)) l)

      go : Place count (λ k. x_in w a k ≡ least_x w run) → least_x w run ≡ x_in w a 0
      go t = at t.at t.small t.is (ℕ_discrete t.at 0)

  -- ---- the entries

  pub numbered : Numbered (entries_of w run) (entry_in w a (least_x w run) (least_y w run)) count
  numbered = record {
    place = λ e i. (own e i).at;
    small = λ e i. (own e i).small;
    is = λ e i. sym (own e i).is;
    has = λ k h. entry_in_lem w a (least_x w run) (least_y w run) count k h;
    rises = λ j k h l. before_at w a (least_x w run) (least_y w run) j k (o.rises j k h l) (x_low j (omega arith)) (y_low j (omega arith));
  }
    where
      own : (e : Entry) → In e (entries_of w run) → Place count (λ k. e ≡ entry_in w a (least_x w run) (least_y w run) k)
      own e i = entry_of w a (least_x w run) (least_y w run) count e i

  -- each stands in one of the rows
  pub row_small : (k : ℕ) → k < count → y_in w a k - least_y w run < height (entries_of w run)
  row_small k h = in_height (entry_in_lem w a (least_x w run) (least_y w run) count k h)
