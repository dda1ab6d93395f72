-- Holes counted between neighbours. In a list in order the places of a column that hold no entry and have some above and below are those
-- between two neighbours: so the holes are, from neighbour to neighbour, the places between them whose row has entries on both sides.
-- Assumes nothing.
use mathlib.Core.Path.{◌≡◌, refl, sym, ap, ap₂, ◌∙◌}
use mathlib.Core.Bool.{Bool, true, false, cond, not, ◌&&◌, ◌||◌, and-or_distrib_right}
use mathlib.Core.List.{List}
use Prim.Native.Nat.{ℕ, zero, suc, ◌+◌, ◌-◌, ◌≤◌, ◌<◌}
use native.Mathlib.Nat.{add-zero}
use native.Mathlib.Decide.{ℕ_discrete, dec_lt}
use native.Mathlib.Omega.{arith}
use borrow.Author.Tests.{eqb-true, ltb-true, eq-eqb, ne_eqb, lt-ltb, not-true}
use lib.Dec.{eqb, ltb}
use Rattle.cells.specs.Sums.{total, how_many}
use Rattle.cells.specs.Listed.{In, some_one, Entry, Before}
use Rattle.cells.specs.Listed.In.{first, later}
use Rattle.cells.specs.Listed.Before.{by_u, by_v}
use Rattle.cells.specs.Holes.{places, width, height, here, held, lower_v, higher_v, row_around, column_around, hole, holes}
use Rattle.cells.specs.Twin.{numbers}
use Rattle.cells.specs.inner.Gaps.{gap}
use Rattle.cells.proofs.Sums.{total_same, total_more, total_sum, total_zero, how_many_same}
use Rattle.cells.proofs.Tests.{never, both, passes, not_passed, same_truth, some_in, in_some, below_in, in_below}

-- ---- places

one_of_two : (a b : Bool) → (a ≡ true → b ≡ true → ⊥) → cond (a || b) 1 0 ≡ cond a 1 0 + cond b 1 0
one_of_two true true h = absurd (h refl refl)
one_of_two true false h = refl
one_of_two false b h = omega arith

places_same : (P Q : ℕ → ℕ → Bool) (w h : ℕ) → ((u v : ℕ) → Q u v ≡ P u v) → places Q w h ≡ places P w h
unfolding places
places_same P Q w h e = total_same (λ u. how_many (P u) h) (λ u. how_many (Q u) h) w (λ u l. how_many_same (P u) (Q u) h (λ v m. e u v))

places_none : (P : ℕ → ℕ → Bool) (w h : ℕ) → ((u v : ℕ) → P u v ≡ false) → places P w h ≡ 0
unfolding places
places_none P w h e = total_zero (λ u. how_many (P u) h) w (λ u. total_zero (λ v. cond (P u v) 1 0) h (λ v. ap (λ (b : Bool). cond b 1 0) (e u v)))

-- one place more may pass
place_more : (P Q : ℕ → ℕ → Bool) (w h u v : ℕ) → u < w → v < h → P u v ≡ false → ((x y : ℕ) → (x ≡ u → y ≡ v → ⊥) → Q x y ≡ P x y) → places Q w h ≡ places P w h + cond (Q u v) 1 0
unfolding places
place_more P Q w h u v a b p same =
    total_more (λ x. how_many (P x) h) (λ x. how_many (Q x) h) w u (cond (Q u v) 1 0) a
    (total_more (λ y. cond (P u y) 1 0) (λ y. cond (Q u y) 1 0) h v (cond (Q u v) 1 0) b (rw p (omega arith)) (λ y n. ap (λ (b : Bool). cond b 1 0) (same u y (λ e f. n f))))
    (λ x n. how_many_same (P x) (Q x) h (λ y l. same x y (λ e f. n e)))

-- places of two sorts, none of which is of both
places_or : (P Q : ℕ → ℕ → Bool) (w h : ℕ) → ((u v : ℕ) → P u v ≡ true → Q u v ≡ true → ⊥) → places (λ (u v : ℕ). P u v || Q u v) w h ≡ places P w h + places Q w h
unfolding places
places_or P Q w h apart =
    total_sum (λ u. how_many (P u) h) (λ u. how_many (Q u) h) (λ u. how_many (λ v. P u v || Q u v) h) w
    (λ u. total_sum (λ v. cond (P u v) 1 0) (λ v. cond (Q u v) 1 0) (λ v. cond (P u v || Q u v) 1 0) h (λ v. one_of_two (P u v) (Q u v) (apart u v)))

-- ---- a gap

-- place (u, v) stands in column c, past a and before b
abbrev in_column : (c a b u v : ℕ) → Bool
in_column c a b u v = eqb c u && (ltb a v && ltb v b)

in_column_is : (c a b u v : ℕ) → in_column c a b u v ≡ true → (c ≡ u) × (a < v) × (v < b)
in_column_is c a b u v t =
    let s = both (eqb c u) (ltb a v && ltb v b) t in
    let r = both (ltb a v) (ltb v b) s.1 in
    (eqb-true c u s.0, ltb-true a v r.0, ltb-true v b r.1)

is_in_column : (c a b u v : ℕ) → c ≡ u → a < v → v < b → in_column c a b u v ≡ true
is_in_column c a b u v p q r = passes (eqb c u) (ltb a v && ltb v b) (eq-eqb c u p) (passes (ltb a v) (ltb v b) (lt-ltb a v q) (lt-ltb v b r))

-- between e and f, in the column of both
abbrev inside : Entry → Entry → ℕ → ℕ → Bool
inside e f u v = eqb f.u u && in_column e.u e.v f.v u v

inside_is : (e f : Entry) (u v : ℕ) → inside e f u v ≡ true → (e.u ≡ u) × (f.u ≡ u) × (e.v < v) × (v < f.v)
inside_is e f u v t =
    let s = both (eqb f.u u) (in_column e.u e.v f.v u v) t in
    let r = in_column_is e.u e.v f.v u v s.1 in
    (r.0, eqb-true f.u u s.0, r.1, r.2)

is_inside : (e f : Entry) (u v : ℕ) → e.u ≡ u → f.u ≡ u → e.v < v → v < f.v → inside e f u v ≡ true
is_inside e f u v p q r s = passes (eqb f.u u) (in_column e.u e.v f.v u v) (eq-eqb f.u u q) (is_in_column e.u e.v f.v u v p r s)

module _ (R : ℕ → ℕ → Bool) (w h : ℕ) where
  -- the d places of column c past a, one by one
  stretch : (c a d : ℕ) → c < w → a + 1 + d ≤ h → places (λ (u v : ℕ). in_column c a (a + 1 + d) u v && R u v) w h ≡ how_many (λ (j : ℕ). R c (a + 1 + j)) d
  unfolding total
  stretch c a zero l m = places_none (λ (u v : ℕ). in_column c a (a + 1 + 0) u v && R u v) w h (λ u v. not_passed (in_column c a (a + 1 + 0) u v && R u v) (λ t. omega (arith, in_column_is c a (a + 1 + 0) u v (both (in_column c a (a + 1 + 0) u v) (R u v) t).0)))
  stretch c a (suc d) l m =
      place_more (up_to d) (up_to (suc d)) w h c (a + 1 + d) l (omega arith) new others
      ∙ ap₂ ◌+◌ (stretch c a d l (omega arith)) (ap (λ (b : Bool). cond (b && R c (a + 1 + d)) 1 0) (is_in_column c a (a + 1 + suc d) c (a + 1 + d) refl (omega arith) (omega arith)))
    where
      up_to : ℕ → ℕ → ℕ → Bool
      up_to k u v = in_column c a (a + 1 + k) u v && R u v

      new : up_to d c (a + 1 + d) ≡ false
      new = not_passed (up_to d c (a + 1 + d)) (λ t. omega (arith, in_column_is c a (a + 1 + d) c (a + 1 + d) (both (in_column c a (a + 1 + d) c (a + 1 + d)) (R c (a + 1 + d)) t).0))

      others : (x y : ℕ) → (x ≡ c → y ≡ a + 1 + d → ⊥) → up_to (suc d) x y ≡ up_to d x y
      others x y n = ap (λ (b : Bool). b && R x y) (same_truth (in_column c a (a + 1 + suc d) x y) (in_column c a (a + 1 + d) x y) there back)
        where
          there : in_column c a (a + 1 + suc d) x y ≡ true → in_column c a (a + 1 + d) x y ≡ true
          there t =
              let s = in_column_is c a (a + 1 + suc d) x y t in
              let o : y ≡ a + 1 + d → ⊥ = n (sym s.0) in
              is_in_column c a (a + 1 + d) x y s.0 s.1 (omega (arith, s.2, o))

          back : in_column c a (a + 1 + d) x y ≡ true → in_column c a (a + 1 + suc d) x y ≡ true
          back t =
              let s = in_column_is c a (a + 1 + d) x y t in
              is_in_column c a (a + 1 + suc d) x y s.0 s.1 (omega (arith, s.2))

  gap_counted : (e f : Entry) → Before e f → e.u < w → f.v < h → places (λ (u v : ℕ). inside e f u v && R u v) w h ≡ gap R e f
  gap_counted e f (by_u o) l m =
      places_none (λ (u v : ℕ). inside e f u v && R u v) w h (λ u v. not_passed (inside e f u v && R u v) (λ t. omega (arith, inside_is e f u v (both (inside e f u v) (R u v) t).0)))
      ∙ rw (ne_eqb e.u f.u (λ p. omega arith))
  gap_counted e f (by_v p o) l m =
      places_same (λ (u v : ℕ). in_column e.u e.v (e.v + 1 + (f.v - (e.v + 1))) u v && R u v) (λ (u v : ℕ). inside e f u v && R u v) w h (λ u v. ap (λ (b : Bool). b && R u v) (one_column u v))
      ∙ stretch e.u e.v (f.v - (e.v + 1)) l (omega arith)
      ∙ rw (eq-eqb e.u f.u p)
    where
      end : e.v + 1 + (f.v - (e.v + 1)) ≡ f.v
      end = omega arith

      one_column : (u v : ℕ) → inside e f u v ≡ in_column e.u e.v (e.v + 1 + (f.v - (e.v + 1))) u v
      one_column u v =
          rw end
          (same_truth (inside e f u v) (in_column e.u e.v f.v u v)
          (λ t. (both (eqb f.u u) (in_column e.u e.v f.v u v) t).1)
          (λ t. let r = in_column_is e.u e.v f.v u v t in is_inside e f u v r.0 (sym p ∙ r.0) r.1 r.2))

-- ---- a list in order

-- the list has m entries, numbered in order
pub record Numbered (es : List Entry) (at : ℕ → Entry) (m : ℕ) : Type 0 where
  pub place : (e : Entry) → In e es → ℕ
  pub small : (e : Entry) (i : In e es) → place e i < m
  pub is : (e : Entry) (i : In e es) → at (place e i) ≡ e
  pub has : (k : ℕ) → k < m → In (at k) es
  pub rises : (j k : ℕ) → j < k → k < m → Before (at j) (at k)

-- an entry stands in the rectangle
in_width : {e : Entry} {es : List Entry} → In e es → e.u < width es
unfolding width
in_width (first p) = omega (arith, ap (λ (e : Entry). e.u) p)
in_width (later i) = omega (arith, in_width i)

pub in_height : {e : Entry} {es : List Entry} → In e es → e.v < height es
unfolding height
in_height (first p) = omega (arith, ap (λ (e : Entry). e.v) p)
in_height (later i) = omega (arith, in_height i)

before_u : {e f : Entry} → Before e f → e.u ≤ f.u
before_u (by_u a) = omega arith
before_u (by_v a b) = omega arith

before_v : {e f : Entry} → Before e f → e.u ≡ f.u → e.v < f.v
before_v (by_u a) p = absurd (omega arith)
before_v (by_v a b) p = b

module _ (es : List Entry) (at : ℕ → Entry) (m : ℕ) (o : Numbered es at m) where
  u_up : (j k : ℕ) → j ≤ k → k < m → (at j).u ≤ (at k).u
  u_up j k l h = go (ℕ_discrete j k)
    where
      go : Dec (j ≡ k) → (at j).u ≤ (at k).u
      go (yes e) = rw e (omega arith)
      go (no n) = before_u (o.rises j k (omega (arith, n)) h)

  v_up : (j k : ℕ) → j ≤ k → k < m → (at j).u ≡ (at k).u → (at j).v ≤ (at k).v
  v_up j k l h e = go (ℕ_discrete j k)
    where
      go : Dec (j ≡ k) → (at j).v ≤ (at k).v
      go (yes i) = rw i (omega arith)
      go (no n) = let b = before_v (o.rises j k (omega (arith, n)) h) e in omega arith

  -- place (u, v) is between two neighbours, the first of them below number k
  abbrev between : ℕ → ℕ → ℕ → Bool
  between k u v = some_one (λ (j : ℕ). inside (at j) (at (suc j)) u v) (numbers k)

  -- from an entry below (u, v) to one above it, in a column where none holds it, some neighbours have it between them
  seek : (u v d i : ℕ) → (held es u v ≡ true → ⊥) → i + d < m → (at i).u ≡ u → (at i).v < v → (at (i + d)).u ≡ u → v < (at (i + d)).v → between (m - 1) u v ≡ true
  unfolding held
  seek u v zero i free l p q r s = absurd (omega (arith, ap (λ (k : ℕ). (at k).v) (add-zero i)))
  seek u v (suc d) i free l p q r s = go (dec_lt v (at (suc i)).v) (ℕ_discrete (at (suc i)).v v) (λ a. seek u v d (suc i) free (omega arith) column a (rw end at r) (rw end at s))
    where
      end : i + suc d ≡ suc i + d
      end = omega arith

      column : (at (suc i)).u ≡ u
      column = omega (arith, u_up i (suc i) (omega arith) (omega arith), u_up (suc i) (i + suc d) (omega arith) (omega arith))

      go : Dec (v < (at (suc i)).v) → Dec ((at (suc i)).v ≡ v) → ((at (suc i)).v < v → between (m - 1) u v ≡ true) → between (m - 1) u v ≡ true
      go (yes a) b on = in_some (λ (j : ℕ). inside (at j) (at (suc j)) u v) (below_in (m - 1) i (omega arith)) (is_inside (at i) (at (suc i)) u v p column q a)
      go (no a) (yes b) on = absurd (free (in_some (here u v) (o.has (suc i) (omega arith)) (passes (eqb (at (suc i)).u u) (eqb (at (suc i)).v v) (eq-eqb (at (suc i)).u u column) (eq-eqb (at (suc i)).v v b))))
      go (no a) (no b) on = on (omega (arith, a, b))

  -- one that passes a test has a number
  pub record Found (test : Entry → Bool) : Type 0 where
    pub k : ℕ
    pub small : k < m
    pub is : test (at k) ≡ true

  pub found : (test : Entry → Bool) → some_one test es ≡ true → Found test
  found test t =
      let a = some_in test es t in
      record { k = o.place a.one a.among; small = o.small a.one a.among; is = ap test (o.is a.one a.among) ∙ a.is }

  -- a place that no entry holds, with some above and below it, is between neighbours
  around_between : (u v : ℕ) → (held es u v ≡ true → ⊥) → column_around es u v ≡ true → between (m - 1) u v ≡ true
  around_between u v free t =
      let s = both (some_one (lower_v u v) es) (some_one (higher_v u v) es) t in
      let a = found (lower_v u v) s.0 in
      let b = found (higher_v u v) s.1 in
      let p = both (eqb (at a.k).u u) (ltb (at a.k).v v) a.is in
      let q = both (eqb (at b.k).u u) (ltb v (at b.k).v) b.is in
      go a.k b.k a.small b.small (eqb-true (at a.k).u u p.0) (ltb-true (at a.k).v v p.1) (eqb-true (at b.k).u u q.0) (ltb-true v (at b.k).v q.1) (dec_lt a.k b.k)
    where
      go : (i j : ℕ) → i < m → j < m → (at i).u ≡ u → (at i).v < v → (at j).u ≡ u → v < (at j).v → Dec (i < j) → between (m - 1) u v ≡ true
      go i j hi hj p q r s (yes l) =
          let e : i + (j - i) ≡ j = omega arith in
          seek u v (j - i) i free (omega arith) p q (rw e r) (rw e s)
      go i j hi hj p q r s (no l) = absurd (omega (arith, v_up j i (omega arith) hi (r ∙ sym p)))

  -- and a place between neighbours is one that no entry holds, with some above and below it
  between_around : (u v : ℕ) → between (m - 1) u v ≡ true → (held es u v ≡ true → ⊥) × (column_around es u v ≡ true)
  unfolding held
  between_around u v t =
      let a = some_in (λ (j : ℕ). inside (at j) (at (suc j)) u v) (numbers (m - 1)) t in
      let l = in_below (m - 1) a.among in
      let s = inside_is (at a.one) (at (suc a.one)) u v a.is in
      neighbours a.one l s.0 s.1 s.2 s.3
    where
      on_place : (k : ℕ) → (eqb (at k).u u && eqb (at k).v v) ≡ true → ((at k).u ≡ u) × ((at k).v ≡ v)
      on_place k t = let s = both (eqb (at k).u u) (eqb (at k).v v) t in (eqb-true (at k).u u s.0, eqb-true (at k).v v s.1)

      free : (j k : ℕ) → j < m - 1 → k < m → (at j).u ≡ u → (at (suc j)).u ≡ u → (at j).v < v → v < (at (suc j)).v → (at k).u ≡ u → (at k).v ≡ v → Dec (j < k) → ⊥
      free j k l h p q r s x y (yes b) = omega (arith, v_up (suc j) k (omega arith) h (q ∙ sym x))
      free j k l h p q r s x y (no b) = omega (arith, v_up k j (omega arith) (omega arith) (x ∙ sym p))

      neighbours : (j : ℕ) → j < m - 1 → (at j).u ≡ u → (at (suc j)).u ≡ u → (at j).v < v → v < (at (suc j)).v → (held es u v ≡ true → ⊥) × (column_around es u v ≡ true)
      neighbours j l p q r s = (
        λ h.
            let f = found (here u v) h in
            let x = on_place f.k f.is in
            free j f.k l f.small p q r s x.0 x.1 (dec_lt j f.k),
        passes (some_one (lower_v u v) es) (some_one (higher_v u v) es)
            (in_some (lower_v u v) (o.has j (omega arith)) (passes (eqb (at j).u u) (ltb (at j).v v) (eq-eqb (at j).u u p) (lt-ltb (at j).v v r)))
            (in_some (higher_v u v) (o.has (suc j) (omega arith)) (passes (eqb (at (suc j)).u u) (ltb v (at (suc j)).v) (eq-eqb (at (suc j)).u u q) (lt-ltb v (at (suc j)).v s))),
      )

  hole_between : (u v : ℕ) → hole es u v ≡ (between (m - 1) u v && row_around es u v)
  hole_between u v = same_truth (hole es u v) (between (m - 1) u v && row_around es u v) there back
    where
      there : hole es u v ≡ true → (between (m - 1) u v && row_around es u v) ≡ true
      there t =
          let s = both (not (held es u v)) (row_around es u v && column_around es u v) t in
          let r = both (row_around es u v) (column_around es u v) s.1 in
          passes (between (m - 1) u v) (row_around es u v) (around_between u v (λ h. never (sym h ∙ not-true (held es u v) s.0)) r.1) r.0

      back : (between (m - 1) u v && row_around es u v) ≡ true → hole es u v ≡ true
      back t =
          let s = both (between (m - 1) u v) (row_around es u v) t in
          let r = between_around u v s.0 in
          passes (not (held es u v)) (row_around es u v && column_around es u v) (ap not (not_passed (held es u v) r.0)) (passes (row_around es u v) (column_around es u v) s.1 r.1)

  -- ---- from neighbour to neighbour

  -- between the first k + 1 entries
  counted : (R : ℕ → ℕ → Bool) (k : ℕ) → k ≤ m - 1 → places (λ (u v : ℕ). between k u v && R u v) (width es) (height es) ≡ total (λ (j : ℕ). gap R (at j) (at (suc j))) k
  unfolding total
  counted R zero l = places_none (λ (u v : ℕ). false) (width es) (height es) (λ u v. refl)
  counted R (suc k) l =
      places_same (λ (u v : ℕ). (inside (at k) (at (suc k)) u v && R u v) || (between k u v && R u v)) (λ (u v : ℕ). between (suc k) u v && R u v) (width es) (height es) (λ u v. and-or_distrib_right (inside (at k) (at (suc k)) u v) (between k u v) (R u v))
      ∙ places_or (λ (u v : ℕ). inside (at k) (at (suc k)) u v && R u v) (λ (u v : ℕ). between k u v && R u v) (width es) (height es) apart
      ∙ omega (arith, counted R k (omega arith), gap_counted R (width es) (height es) (at k) (at (suc k)) (o.rises k (suc k) (omega arith) (omega arith)) (in_width (o.has k (omega arith))) (in_height (o.has (suc k) (omega arith))))
    where
      apart : (u v : ℕ) → (inside (at k) (at (suc k)) u v && R u v) ≡ true → (between k u v && R u v) ≡ true → ⊥
      apart u v s t =
          let a = inside_is (at k) (at (suc k)) u v (both (inside (at k) (at (suc k)) u v) (R u v) s).0 in
          let b = some_in (λ (j : ℕ). inside (at j) (at (suc j)) u v) (numbers k) (both (between k u v) (R u v) t).0 in
          let c = inside_is (at b.one) (at (suc b.one)) u v b.is in
          let before = in_below k b.among in
          omega (arith, v_up (suc b.one) k (omega arith) (omega arith) (c.1 ∙ sym a.0))

pub holes_are : {es : List Entry} {at : ℕ → Entry} {m : ℕ} → Numbered es at m → holes es ≡ total (λ (j : ℕ). gap (row_around es) (at j) (at (suc j))) (m - 1)
unfolding holes
holes_are {es} {at} {m} o =
    places_same (λ (u v : ℕ). between es at m o (m - 1) u v && row_around es u v) (hole es) (width es) (height es) (hole_between es at m o)
    ∙ counted es at m o (row_around es) (m - 1) (omega arith)
