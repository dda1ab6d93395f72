-- Two quads have no triangle in common, and each quad has four different corners that exist. Assumes nothing.
use Rattle.std.specs.Prelude.{Option, None}
use Rattle.std.specs.Prelude.{Some}
use mathlib.Core.Path.{◌≡◌, refl, sym, ap, ◌∙◌, subst}
use mathlib.Core.Bool.{true, false, or-true, false≢true}
use mathlib.Core.List.Memᴰ
use mathlib.Core.List.{List, ◌∷◌, Memᴰ}
use mathlib.Core.Logic.{◌⊎◌, inl, inr}
use Prim.Native.Nat.{ℕ, zero, suc, ◌+◌, ◌*◌, ◌%◌, ◌<◌}
use native.Mathlib.Nat.{add-zero}
use native.Mathlib.Decide.{dec_lt}
use native.Mathlib.Omega.{arith}
use borrow.Author.Tests.{eq-eqb}
use lib.Dec.{eqb}
use lib.Ieee.{Float}
use lib.ListN.{length, get_or}
use Rattle.words.specs.Sorting.{Sorting}
use Rattle.words.proofs.Sorting.{sorting}
use Rattle.mesh.specs.HalfEdge.{triangle_of}
use Rattle.mesh.specs.Cells.{names_twice}
use Rattle.mesh.proofs.Open.{twin_sound}
use Rattle.mesh.proofs.Differ.{corners_differ}
use Rattle.quads.specs.declared.Quad.{Quad}
use Rattle.quads.specs.Diagonal.{only_at}
use Rattle.quads.specs.Union.{corners_of, is_in}
use Rattle.quads.specs.Order.{corner_at, angle_key, sorted_of, turned_from, order_of}
use Rattle.quads.specs.inner.Ordering.{Exist}
use Rattle.quads.specs.Merge.{Mesh, Input, triangle_count, paired_at, made_by, quads_to, merged_of}
use Rattle.quads.specs.inner.Merging.{Sound}
use Rattle.quads.proofs.Side.{only_own}
use Rattle.quads.proofs.Sorted.{corner_in_lem, sorted_at, turned_at, sorted_in}
use Rattle.quads.proofs.Pairs.{Pair, paired, Corners, four_corners, four_exist}

-- ---- two quads have no triangle in common

-- the triangle that t makes its quad with: the one across t's only diagonal
abbrev pub partner : {m : Mesh} {t : ℕ} {q : Quad} → Pair m t q → ℕ
partner {m} p = triangle_of (get_or m.twins p.side 0)

-- k is one of the two triangles of t's quad
abbrev pub Uses : {m : Mesh} {t : ℕ} {q : Quad} → Pair m t q → ℕ → Type 0
Uses {m} {t} p k = (k ≡ t) ⊎ (k ≡ partner p)

-- the twin of t's only diagonal points back to it
points_back_lem : (i : Input) → Sound i → (t : ℕ) (q : Quad) → 3 * t + 2 < length i.mesh.triangles → (p : Pair i.mesh t q) → get_or i.mesh.twins (get_or i.mesh.twins p.side 0) 0 ≡ p.side
points_back_lem i s t q h p =
    let own = only_own i.mesh.classes t p.side p.own in
    (twin_sound i.mesh.triangles i.mesh.twins p.side (s.back p.side (omega arith)) p.twin).1

-- the partner's own only diagonal leads back to t, which is lower: the partner makes no quad
partner_makes_none : (i : Input) → Sound i → (t u : ℕ) (q r : Quad) → 3 * t + 2 < length i.mesh.triangles → (p : Pair i.mesh t q) → Pair i.mesh u r → partner p ≡ u → ⊥
partner_makes_none i s t u q r h p o e =
    let own = only_own i.mesh.classes t p.side p.own in
    let same : Some (get_or i.mesh.twins p.side 0) ≡ Some o.side = sym p.other ∙ ap (only_at i.mesh.classes) e ∙ o.own in
    let side : get_or i.mesh.twins p.side 0 ≡ o.side = cc in
    let back : get_or i.mesh.twins o.side 0 ≡ p.side = ap (λ (w : ℕ). get_or i.mesh.twins w 0) (sym side) ∙ points_back_lem i s t q h p in
    let low : u < triangle_of p.side = rw back at o.higher in
    let high : t < u = rw e at p.higher in
    omega arith

-- a partner has one only diagonal, whose twin is the one that it was reached by
same_partner : (i : Input) → Sound i → (t u : ℕ) (q r : Quad) → 3 * t + 2 < length i.mesh.triangles → 3 * u + 2 < length i.mesh.triangles
    → (p : Pair i.mesh t q) (o : Pair i.mesh u r) → partner p ≡ partner o → t ≡ u
same_partner i s t u q r ht hu p o e =
    let twins = i.mesh.twins in
    let same : Some (get_or twins p.side 0) ≡ Some (get_or twins o.side 0) = sym p.other ∙ ap (only_at i.mesh.classes) e ∙ o.other in
    let twin : get_or twins p.side 0 ≡ get_or twins o.side 0 = cc in
    let side : p.side ≡ o.side = sym (points_back_lem i s t q ht p) ∙ ap (λ (w : ℕ). get_or twins w 0) twin ∙ points_back_lem i s u r hu o in
    let mine = only_own i.mesh.classes t p.side p.own in
    let yours = only_own i.mesh.classes u o.side o.own in
    omega arith

-- triangles t and u whose quads have a triangle k in common are one
pub apart : (i : Input) → Sound i → (t u k : ℕ) (q r : Quad) → 3 * t + 2 < length i.mesh.triangles → 3 * u + 2 < length i.mesh.triangles
    → (p : Pair i.mesh t q) (o : Pair i.mesh u r) → Uses p k → Uses o k → t ≡ u
apart i s t u k q r ht hu p o (inl a) (inl b) = sym a ∙ b
apart i s t u k q r ht hu p o (inl a) (inr b) = absurd (partner_makes_none i s u t r q hu o p (sym b ∙ a))
apart i s t u k q r ht hu p o (inr a) (inl b) = absurd (partner_makes_none i s t u q r ht p o (sym a ∙ b))
apart i s t u k q r ht hu p o (inr a) (inr b) = same_partner i s t u q r ht hu p o (sym a ∙ b)

-- ---- the corners of a union are four

-- no two of the four corners are the same
abbrev pub Different : Quad → Type 0
Different q = (j k : ℕ) → j < 4 → k < 4 → corner_at q j ≡ corner_at q k → j ≡ k

-- it is enough to compare each corner with the earlier ones
each_new : (q : Quad) → ((j k : ℕ) → j < k → k < 4 → corner_at q j ≡ corner_at q k → ⊥) → Different q
each_new q new j k hj hk e = go (dec_lt j k) (dec_lt k j)
  where
    go : Dec (j < k) → Dec (k < j) → j ≡ k
    go (yes l) b = absurd (new j k l hk e)
    go (no a) (yes l) = absurd (new k j l hj (sym e))
    go (no a) (no b) = omega arith

-- a triangle that names no corner twice has three different ones
triangle_differs : (triangles : List ℕ) (t j k : ℕ) → names_twice 3 triangles t ≡ false → j < k → k < 3 → get_or triangles (3 * t + j) 0 ≡ get_or triangles (3 * t + k) 0 → ⊥
triangle_differs triangles t j k clear l h e = let swap : 3 * t ≡ t * 3 = omega arith in corners_differ 3 triangles t j k clear l h (rw swap at e)

in_head : (x : ℕ) (ys : List ℕ) → is_in x (x ∷ ys) ≡ true
unfolding is_in
in_head x ys = rw (eq-eqb x x refl)

in_tail : (x y : ℕ) (ys : List ℕ) → is_in x ys ≡ true → is_in x (y ∷ ys) ≡ true
unfolding is_in
in_tail x y ys h = rw h (or-true (eqb x y))

own_in : (triangles : List ℕ) (t k : ℕ) → k < 3 → is_in (get_or triangles (3 * t + k) 0) (corners_of triangles t) ≡ true
own_in triangles t zero h = rw (add-zero (3 * t)) (in_head (get_or triangles (3 * t) 0) _)
own_in triangles t (suc zero) h = in_tail _ (get_or triangles (3 * t) 0) _ (in_head (get_or triangles (3 * t + 1) 0) _)
own_in triangles t (suc (suc zero)) h = in_tail _ (get_or triangles (3 * t) 0) _ (in_tail _ (get_or triangles (3 * t + 1) 0) _ (in_head (get_or triangles (3 * t + 2) 0) _))
own_in triangles t (suc (suc (suc k))) h = absurd (omega arith)

-- three are a triangle's own, which differ, and the fourth is none of them
union_differs : (triangles : List ℕ) (t u : ℕ) (q : Quad) (P : ℕ → Type 0) → names_twice 3 triangles t ≡ false → Corners triangles t u q P → Different q
union_differs triangles t u q P clear c = each_new q new
  where
    own : (k : ℕ) → k < 3 → corner_at q k ≡ get_or triangles (3 * t + k) 0
    own zero h = rw (add-zero (3 * t)) c.first
    own (suc zero) h = c.second
    own (suc (suc zero)) h = c.third
    own (suc (suc (suc k))) h = absurd (omega arith)

    last : (j : ℕ) → j < 3 → corner_at q j ≡ q.d → ⊥
    last j h e = false≢true (sym c.fresh ∙ ap (λ (d : ℕ). is_in d (corners_of triangles t)) (sym e ∙ own j h) ∙ own_in triangles t j h)

    new : (j k : ℕ) → j < k → k < 4 → corner_at q j ≡ corner_at q k → ⊥
    new j k l h e = go (dec_lt k 3)
      where
        go : Dec (k < 3) → ⊥
        go (yes y) = triangle_differs triangles t j k clear l y (sym (own j (omega arith)) ∙ e ∙ own k y)
        go (no y) = let three : k ≡ 3 = omega arith in last j (omega arith) (e ∙ ap (corner_at q) three)

union_different : (i : Input) → Sound i → (t : ℕ) (q : Quad) → 3 * t + 2 < length i.mesh.triangles → paired_at i.mesh t ≡ Some q → Different q
union_different i s t q h e =
    let p = paired i.mesh t q e in
    let any : ℕ → Type 0 = λ d. Unit {0} in
    let c = four_corners i.mesh.triangles t (partner p) q any tt tt tt p.union in
    union_differs i.mesh.triangles t (partner p) q any (s.differ t (omega arith)) c

-- ---- order rearranges them

-- r's corners are q's, each from a place of its own
rearranged : (q r : Quad) (from : ℕ → ℕ) → ((k : ℕ) → k < 4 → from k < 4) → ((j k : ℕ) → j < 4 → k < 4 → from j ≡ from k → j ≡ k)
    → ((k : ℕ) → k < 4 → corner_at r k ≡ corner_at q (from k)) → Different q → Different r
rearranged q r from lt one is d j k hj hk e = one j k hj hk (d (from j) (from k) (lt j hj) (lt k hk) (sym (is j hj) ∙ e ∙ is k hk))

sorted_differs : (xs ys : List Float) (q : Quad) → Different q → Different (sorted_of xs ys q)
sorted_differs xs ys q = rearranged q (sorted_of xs ys q) order.from order.from_lt one (sorted_at xs ys q)
  where
    order : Sorting (angle_key xs ys q) 4
    order = sorting (angle_key xs ys q) 4

    one : (j k : ℕ) → j < 4 → k < 4 → order.from j ≡ order.from k → j ≡ k
    one j k hj hk e = sym (order.to_from j hj) ∙ ap order.to e ∙ order.to_from k hk

turned_differs : (q : Quad) (n : ℕ) → Different q → Different (turned_from q n)
turned_differs q n = rearranged q (turned_from q n) (λ (k : ℕ). (n + k) % 4) (λ k h. omega arith) (λ j k hj hk e. omega arith) (turned_at q n)

turned_in : (c : ℕ) (q : Quad) (n : ℕ) → Exist c q → Exist c (turned_from q n)
unfolding turned_from
turned_in c q n e = record { a = corner_in_lem c q e (n % 4); b = corner_in_lem c q e ((n + 1) % 4); c = corner_in_lem c q e ((n + 2) % 4); d = corner_in_lem c q e ((n + 3) % 4) }

-- the quad that t makes has four different corners that exist
pub four_different : (i : Input) → Sound i → (t : ℕ) (q : Quad) → 3 * t + 2 < length i.mesh.triangles → paired_at i.mesh t ≡ Some q
    → Different (order_of i.xs i.ys q) × Exist (length i.xs) (order_of i.xs i.ys q)
unfolding order_of
four_different i s t q h e = (
  turned_differs (sorted_of i.xs i.ys q) _ (sorted_differs i.xs i.ys q (union_different i s t q h e)),
  turned_in (length i.xs) (sorted_of i.xs i.ys q) _ (sorted_in i.xs i.ys (length i.xs) q (four_exist i s t q h e)),
)

-- ---- every quad of the merged list

-- what every quad that a triangle below t makes has, every quad made so far has
pub made_have : (i : Input) (P : Quad → Type 0) (t : ℕ) → ((k : ℕ) (q : Quad) → k < t → paired_at i.mesh k ≡ Some q → P (order_of i.xs i.ys q)) → (q : Quad) → Memᴰ q (quads_to i t) → P q
unfolding quads_to
made_have i P zero each q m = absurd (Memᴰ.not-nil m)
made_have i P (suc t) each q m = go (λ n. made_have i P t (λ k r l e. each k r (omega arith) e) q n) (paired_at i.mesh t) refl (Memᴰ.append_cases (quads_to i t) m)
  where
    go : (Memᴰ q (quads_to i t) → P q) → (p : Option Quad) → paired_at i.mesh t ≡ p → Memᴰ q (quads_to i t) ⊎ Memᴰ q (made_by i p) → P q
    go before p e (inl m) = before m
    go before None e (inr m) = absurd (Memᴰ.not-nil m)
    go before (Some r) e (inr m) = subst P (sym (Memᴰ.eq_of_singleton m)) (each t r (omega arith) e)

-- each of them has four different corners that exist
pub all_different : (i : Input) → Sound i → (q : Quad) → Memᴰ q (merged_of i) → Different q × Exist (length i.xs) q
unfolding merged_of
all_different i s = made_have i (λ (q : Quad). Different q × Exist (length i.xs) q) (triangle_count i.mesh) (λ k q l e. four_different i s k q (omega arith) e)
