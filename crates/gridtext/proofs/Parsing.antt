-- The whole text: the P line, the C lines and the T lines that were read are a frame's lines, and what is left of the text is nothing, or begins
-- with the first bad line, since a line that fits behind them would be a C line or a T line. Assumes nothing.
use mathlib.Core.Path.{◌≡◌, refl, sym, ap, ◌∙◌}
use mathlib.Core.Logic.{◌⊎◌, inl, inr}
use mathlib.Core.List.{List, [], ◌∷◌, ◌++◌, append_assoc, append-nil, map, tail}
use Prim.Native.Nat.{ℕ, ◌+◌, ◌<◌}
use native.Mathlib.Omega.{arith}
use lib.ListN.{length, length-append}
use Rattle.cells.specs.Listed.{In}
use Rattle.cells.proofs.Tests.{in_last}
use Rattle.digits.proofs.Numerals.{split_equal}
use Rattle.gridtext.specs.declared.inner.row.Sort.{Sort}
use Rattle.gridtext.specs.Lines.{ParamsLine, CornerLine, TriangleLine, Line, LineWords}
use Rattle.gridtext.specs.Text.{most_corner_lines, most_triangle_lines, Frame, lines_of, Within, Fitting}
use Rattle.gridtext.specs.inner.Rows.{letter_of}
use Rattle.gridtext.specs.inner.Read.{sort_of, Of}
use Rattle.gridtext.proofs.Rows.{not_params}

-- ---- counting lines

cornerly : Line → ℕ
cornerly (Line.params p) = 0
cornerly (Line.corner c) = 1
cornerly (Line.triangle t) = 0

triangly : Line → ℕ
triangly (Line.params p) = 0
triangly (Line.corner c) = 0
triangly (Line.triangle t) = 1

tally : (Line → ℕ) → List Line → ℕ
tally weight [] = 0
tally weight (l ∷ ls) = weight l + tally weight ls

tally_append : (weight : Line → ℕ) (ls ms : List Line) → tally weight (ls ++ ms) ≡ tally weight ls + tally weight ms
unfolding tally
tally_append weight [] ms = omega arith
tally_append weight (l ∷ ls) ms = rw (tally_append weight ls ms) (omega arith)

module _ {A : Type 0} (line : A → Line) (weight : Line → ℕ) where
  tally_each : ((a : A) → weight (line a) ≡ 1) → (xs : List A) → tally weight (map line xs) ≡ length xs
  unfolding tally
  tally_each one [] = refl
  tally_each one (x ∷ xs) = rw (one x, tally_each one xs) (omega arith)

  tally_none : ((a : A) → weight (line a) ≡ 0) → (xs : List A) → tally weight (map line xs) ≡ 0
  unfolding tally
  tally_none none [] = refl
  tally_none none (x ∷ xs) = rw (none x, tally_none none xs)

tally_corners : (cs : List CornerLine) (ts : List TriangleLine) → tally cornerly (map Line.corner cs ++ map Line.triangle ts) ≡ length cs
unfolding cornerly
tally_corners cs ts =
    tally_append cornerly (map Line.corner cs) (map Line.triangle ts)
    ∙ rw (tally_each Line.corner cornerly (λ c. refl) cs, tally_none Line.triangle cornerly (λ t. refl) ts) (omega arith)

tally_triangles : (cs : List CornerLine) (ts : List TriangleLine) → tally triangly (map Line.corner cs ++ map Line.triangle ts) ≡ length ts
unfolding triangly
tally_triangles cs ts =
    tally_append triangly (map Line.corner cs) (map Line.triangle ts)
    ∙ rw (tally_none Line.corner triangly (λ c. refl) cs, tally_each Line.triangle triangly (λ t. refl) ts) (omega arith)

-- ---- the last of a list

pub last_same : {A : Type 0} (xs ys : List A) (x y : A) → xs ++ (x ∷ []) ≡ ys ++ (y ∷ []) → (xs ≡ ys) × (x ≡ y)
last_same xs ys x y e =
    let n : length xs ≡ length ys = omega (arith, simp length-append at (ap length e)) in
    let s = split_equal xs ys (x ∷ []) (y ∷ []) n e in
    (s.0, cc)

last_triangle : (before after : List Line) (t : TriangleLine) (ts : List TriangleLine) (l : Line) → before ++ map Line.triangle (t ∷ ts) ≡ after ++ (l ∷ []) → triangly l ≡ 1
unfolding triangly
last_triangle before after t [] l e = rw (← (last_same before after (Line.triangle t) l e).1)
last_triangle before after t (u ∷ ts) l e = last_triangle (before ++ (Line.triangle t ∷ [])) after u ts l (append_assoc before (Line.triangle t ∷ []) (map Line.triangle (u ∷ ts)) ∙ e)

last_corner : (before after : List Line) (c : CornerLine) (cs : List CornerLine) (l : Line) → before ++ map Line.corner (c ∷ cs) ≡ after ++ (l ∷ []) → cornerly l ≡ 1
unfolding cornerly
last_corner before after c [] l e = rw (← (last_same before after (Line.corner c) l e).1)
last_corner before after c (d ∷ cs) l e = last_corner (before ++ (Line.corner c ∷ [])) after d cs l (append_assoc before (Line.corner c ∷ []) (map Line.corner (d ∷ cs)) ∙ e)

-- ---- what fits behind a frame's lines

-- a C line where no T line stands, or a T line, within the limits
pub data Behind (f : Frame) : Line → Type 0 where
  corner : {c : CornerLine} → LineWords (Line.corner c) → length f.triangles ≡ 0 → length f.corners < most_corner_lines → Behind f (Line.corner c)
  triangle : {t : TriangleLine} → LineWords (Line.triangle t) → length f.triangles < most_triangle_lines → Behind f (Line.triangle t)

module _ (f g : Frame) (within : Within g) (l : Line) (e : map Line.corner g.corners ++ map Line.triangle g.triangles ≡ (map Line.corner f.corners ++ map Line.triangle f.triangles) ++ (l ∷ [])) where
  more_corners : length g.corners ≡ length f.corners + cornerly l
  unfolding tally
  more_corners =
      sym (tally_corners g.corners g.triangles) ∙ ap (tally cornerly) e
      ∙ tally_append cornerly (map Line.corner f.corners ++ map Line.triangle f.triangles) (l ∷ [])
      ∙ rw (tally_corners f.corners f.triangles) (omega arith)

  more_triangles : length g.triangles ≡ length f.triangles + triangly l
  unfolding tally
  more_triangles =
      sym (tally_triangles g.corners g.triangles) ∙ ap (tally triangly) e
      ∙ tally_append triangly (map Line.corner f.corners ++ map Line.triangle f.triangles) (l ∷ [])
      ∙ rw (tally_triangles f.corners f.triangles) (omega arith)

  -- the last line is of the last sort that there is
  last_sort : (cs : List CornerLine) (ts : List TriangleLine) → map Line.corner cs ++ map Line.triangle ts ≡ (map Line.corner f.corners ++ map Line.triangle f.triangles) ++ (l ∷ []) → (triangly l ≡ 1) ⊎ ((cornerly l ≡ 1) × (length ts ≡ 0))
  last_sort cs (t ∷ ts) q = inl (last_triangle (map Line.corner cs) (map Line.corner f.corners ++ map Line.triangle f.triangles) t ts l q)
  last_sort (c ∷ cs) [] q = inr (last_corner [] (map Line.corner f.corners ++ map Line.triangle f.triangles) c cs l (sym (append-nil (map Line.corner (c ∷ cs))) ∙ q), refl)
  last_sort [] [] q = absurd (omega (arith, simp length-append at (ap length q)))

  pub behind : LineWords l → Behind f l
  unfolding cornerly triangly
  behind w = go l refl w (last_sort g.corners g.triangles e)
    where
      go : (m : Line) → m ≡ l → LineWords m → (triangly l ≡ 1) ⊎ ((cornerly l ≡ 1) × (length g.triangles ≡ 0)) → Behind f m
      go (Line.params p) q w' (inl t) = absurd (omega (arith, rw (← q) at t))
      go (Line.params p) q w' (inr t) = absurd (omega (arith, rw (← q) at t.0))
      go (Line.corner c) q w' (inl t) = absurd (omega (arith, rw (← q) at t))
      go (Line.corner c) q w' (inr t) = Behind.corner w' (omega (arith, rw (← q) at more_triangles, t.1)) (omega (arith, rw (← q) at more_corners, within.corners))
      go (Line.triangle t) q w' _ = Behind.triangle w' (omega (arith, rw (← q) at more_triangles, within.triangles))

pub fits_behind : (f : Frame) (l : Line) (ls : List Line) → ls ≡ lines_of f ++ (l ∷ []) → Fitting ls → Behind f l
fits_behind f l ls e Fitting.none = let z : ◌≡◌ {A = ℕ} 0 1 = cc in absurd (omega arith)
fits_behind f l ls e (Fitting.some g within) = behind f g within l (ap tail e) (within.words l (rw e (in_last (lines_of f))))

-- ---- lines of a sort

module _ {A : Type 0} (line : A → Line) (sort : Sort) (out : (l : Line) → sort_of l ≡ sort → (a : A) × (l ≡ line a)) where
  pub lines_of_lem : (ls : List Line) → ((l : Line) → In l ls → Of sort l) → (as' : List A) × (ls ≡ map line as')
  lines_of_lem [] each = ([], refl)
  lines_of_lem (l ∷ ls) each =
      let a = out l (each l (In.first refl)).is in
      let r = lines_of_lem ls (λ m i. each m (In.later i)) in
      (a.0 ∷ r.0, cc)

-- whether it gives the rule or not
pub a_params : (l : Line) → letter_of (sort_of l) ≡ 80 → (p : ParamsLine) × (l ≡ Line.params p)
unfolding sort_of
a_params (Line.params p) e = (p, refl)
a_params (Line.corner c) e = absurd (omega arith)
a_params (Line.triangle t) e = absurd (omega arith)

pub a_corner : (l : Line) → sort_of l ≡ Sort.Corner → (c : CornerLine) × (l ≡ Line.corner c)
unfolding sort_of
a_corner (Line.params p) e = absurd (not_params p.rule Sort.Corner e (λ l. omega arith))
a_corner (Line.corner c) e = (c, refl)
a_corner (Line.triangle t) e = let z : ◌≡◌ {A = ℕ} 0 1 = cc in absurd (omega arith)

pub a_triangle : (l : Line) → sort_of l ≡ Sort.Triangle → (t : TriangleLine) × (l ≡ Line.triangle t)
unfolding sort_of
a_triangle (Line.params p) e = absurd (not_params p.rule Sort.Triangle e (λ l. omega arith))
a_triangle (Line.corner c) e = let z : ◌≡◌ {A = ℕ} 0 1 = cc in absurd (omega arith)
a_triangle (Line.triangle t) e = (t, refl)
