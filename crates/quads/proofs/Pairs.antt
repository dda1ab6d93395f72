-- What a triangle that makes a quad has: an only diagonal, a twin in a higher triangle whose only diagonal it is, and a union of four
-- corners, the first triangle's three and a new one. Assumes nothing.
use Rattle.std.specs.Prelude.{Option, Some, None}
use mathlib.Core.Path.{◌≡◌, refl, sym, ap, subst}
use mathlib.Core.Bool.{Bool, true, false, cond, false≢true}
use mathlib.Core.List.{List, [], ◌∷◌}
use Prim.Native.Nat.{ℕ, ◌+◌, ◌*◌, ◌<◌}
use native.Mathlib.Omega.{arith}
use borrow.Author.Tests.{eqb-true, eqb-false, ltb-true}
use lib.Dec.{eqb, ltb}
use lib.ListN.{length, get_or}
use Rattle.mesh.specs.HalfEdge.{triangle_of, no_twin}
use Rattle.quads.specs.declared.Quad.{Quad}
use Rattle.quads.specs.Diagonal.{only_at, is_at}
use Rattle.quads.specs.Union.{corners_of, is_in, new_to, union_of, four_from}
use Rattle.quads.specs.inner.Ordering.{Exist}
use Rattle.quads.specs.Merge.{Mesh, Input, paired_by, paired_across, paired_at}
use Rattle.quads.specs.inner.Merging.{MeshSound, Sound}
use Rattle.quads.proofs.Side.{only_own}

alone_four : (q : Quad) → None ≡ Some q → ⊥
alone_four q e = let z : ◌≡◌ {A = ℕ} 0 1 = cc in omega arith

-- triangle t makes a quad of the corners q
pub record Pair (m : Mesh) (t : ℕ) (q : Quad) : Type 0 where
  pub side : ℕ
  pub own : only_at m.classes t ≡ Some side
  pub twin : get_or m.twins side 0 ≡ no_twin → ⊥
  pub higher : t < triangle_of (get_or m.twins side 0)
  pub other : only_at m.classes (triangle_of (get_or m.twins side 0)) ≡ Some (get_or m.twins side 0)
  pub union : four_from (union_of m.triangles t (triangle_of (get_or m.twins side 0))) ≡ Some q

is_at_lem : (f : Option ℕ) (e : ℕ) → is_at f e ≡ true → f ≡ Some e
is_at_lem None e h = absurd (false≢true h)
is_at_lem (Some f) e h = ap Some (eqb-true f e h)

across : (m : Mesh) (t side : ℕ) (q : Quad) → only_at m.classes t ≡ Some side → paired_by m t (get_or m.twins side 0) ≡ Some q → Pair m t q
unfolding paired_by
across m t side q own e = go (eqb w no_twin) (ltb t (triangle_of w)) (is_at (only_at m.classes (triangle_of w)) w) refl refl refl e
  where
    w : ℕ
    w = get_or m.twins side 0

    go : (a b c : Bool) → eqb (get_or m.twins side 0) no_twin ≡ a → ltb t (triangle_of (get_or m.twins side 0)) ≡ b → is_at (only_at m.classes (triangle_of (get_or m.twins side 0))) (get_or m.twins side 0) ≡ c
        → cond a None (cond b (cond c (four_from (union_of m.triangles t (triangle_of (get_or m.twins side 0)))) None) None) ≡ Some q → Pair m t q
    go true b c p r s e = absurd (alone_four q e)
    go false false c p r s e = absurd (alone_four q e)
    go false true false p r s e = absurd (alone_four q e)
    go false true true p r s e =
        record {
          side = side;
          own = own;
          twin = eqb-false (get_or m.twins side 0) no_twin p;
          higher = ltb-true t (triangle_of (get_or m.twins side 0)) r;
          other = is_at_lem (only_at m.classes (triangle_of (get_or m.twins side 0))) (get_or m.twins side 0) s;
          union = e;
        }

pub paired : (m : Mesh) (t : ℕ) (q : Quad) → paired_at m t ≡ Some q → Pair m t q
unfolding paired_at paired_across
paired m t q e = go (only_at m.classes t) refl e
  where
    go : (f : Option ℕ) → only_at m.classes t ≡ f → paired_across m t f ≡ Some q → Pair m t q
    go None p e = absurd (alone_four q e)
    go (Some side) p e = across m t side q p e

-- ---- the twin's triangle is in the list

pub other_in : (m : Mesh) → MeshSound m → (t : ℕ) (q : Quad) → 3 * t + 2 < length m.triangles → (p : Pair m t q) → 3 * triangle_of (get_or m.twins p.side 0) + 2 < length m.triangles
other_in m s t q h p =
    let own = only_own m.classes t p.side p.own in
    let inside = s.inside p.side (omega arith) p.twin in
    let whole = s.whole in
    omega arith

-- ---- four corners of a union: the first three, and one that is new and has what the other triangle's corners have

quad_of : Quad → Option Quad → Quad
quad_of q None = q
quad_of q (Some r) = r

module _ (a b c x y z : ℕ) (q : Quad) (P : ℕ → Type 0) where
  abbrev Result : Type 0
  Result = (q.a ≡ a) × (q.b ≡ b) × (q.c ≡ c) × P q.d

  exactly : (d : ℕ) → P d → Some (record { a = a; b = b; c = c; d = d }) ≡ Some q → Result
  unfolding quad_of
  exactly d p e =
      let r : record { a = a; b = b; c = c; d = d } ≡ q = ap (quad_of q) e in
      (sym (ap (λ (u : Quad). u.a) r), sym (ap (λ (u : Quad). u.b) r), sym (ap (λ (u : Quad). u.c) r), subst P (ap (λ (u : Quad). u.d) r) p)

  one_new : (s t u : Bool) → (s ≡ false → P x) → (t ≡ false → P y) → (u ≡ false → P z)
      → four_from (a ∷ b ∷ c ∷ cond s (cond t (cond u [] (z ∷ [])) (y ∷ cond u [] (z ∷ []))) (x ∷ cond t (cond u [] (z ∷ [])) (y ∷ cond u [] (z ∷ [])))) ≡ Some q → Result
  unfolding four_from
  one_new true true true px py pz e = absurd (alone_four q e)
  one_new true true false px py pz e = exactly z (pz refl) e
  one_new true false true px py pz e = exactly y (py refl) e
  one_new true false false px py pz e = absurd (alone_four q e)
  one_new false true true px py pz e = exactly x (px refl) e
  one_new false true false px py pz e = absurd (alone_four q e)
  one_new false false u px py pz e = absurd (alone_four q e)

-- the corners of t's quad: t's own three, and one of the other triangle that is none of them
pub record Corners (triangles : List ℕ) (t u : ℕ) (q : Quad) (P : ℕ → Type 0) : Type 0 where
  pub first : q.a ≡ get_or triangles (3 * t) 0
  pub second : q.b ≡ get_or triangles (3 * t + 1) 0
  pub third : q.c ≡ get_or triangles (3 * t + 2) 0
  pub fresh : is_in q.d (corners_of triangles t) ≡ false
  pub has : P q.d

pub four_corners : (triangles : List ℕ) (t u : ℕ) (q : Quad) (P : ℕ → Type 0) → P (get_or triangles (3 * u) 0) → P (get_or triangles (3 * u + 1) 0) → P (get_or triangles (3 * u + 2) 0)
    → four_from (union_of triangles t u) ≡ Some q → Corners triangles t u q P
unfolding union_of new_to
four_corners triangles t u q P px py pz e =
    let own = corners_of triangles t in
    let r = one_new _ _ _ (get_or triangles (3 * u) 0) (get_or triangles (3 * u + 1) 0) (get_or triangles (3 * u + 2) 0) q (λ (d : ℕ). (is_in d own ≡ false) × P d)
    (is_in (get_or triangles (3 * u) 0) own) (is_in (get_or triangles (3 * u + 1) 0) own) (is_in (get_or triangles (3 * u + 2) 0) own)
    (λ f. (f, px)) (λ f. (f, py)) (λ f. (f, pz)) e in
    record { first = r.0; second = r.1; third = r.2; fresh = r.3.0; has = r.3.1 }

-- ---- the four corners exist

pub four_exist : (i : Input) → Sound i → (t : ℕ) (q : Quad) → 3 * t + 2 < length i.mesh.triangles → paired_at i.mesh t ≡ Some q → Exist (length i.xs) q
four_exist i s t q h e =
    let p = paired i.mesh t q e in
    let u = triangle_of (get_or i.mesh.twins p.side 0) in
    let room = other_in i.mesh s.mesh t q h p in
    let c = four_corners i.mesh.triangles t u q (λ (d : ℕ). d < length i.xs) (s.named (3 * u) (omega arith)) (s.named (3 * u + 1) (omega arith)) (s.named (3 * u + 2) room) p.union in
    record {
      a = rw c.first (s.named (3 * t) (omega arith));
      b = rw c.second (s.named (3 * t + 1) (omega arith));
      c = rw c.third (s.named (3 * t + 2) h);
      d = c.has;
    }
