-- The quads are at most a sixth of the half-edges: give each triangle the lower of itself and the one across its only diagonal; a
-- triangle that makes a quad is given twice, to itself and to its partner, so the quads are at most half of the triangles. Assumes nothing.
use Rattle.std.specs.Prelude.{Option, Some, None}
use mathlib.Core.Path.{◌≡◌, refl}
use mathlib.Core.Bool.{cond}
use Prim.Native.Nat.{ℕ, zero, suc, ◌+◌, ◌*◌, ◌≤◌, ◌<◌}
use native.Mathlib.Numerals.{add-one}
use native.Mathlib.Omega.{arith}
use borrow.Author.Tests.{lt-ltb, le-ltb}
use lib.Dec.{ltb}
use lib.ListN.{length, get_or}
use Rattle.words.specs.Sorting.{one, equal, below}
use Rattle.words.proofs.Rank.{equal_yes, equal_mono, below_step, below_le}
use Rattle.mesh.specs.HalfEdge.{triangle_of}
use Rattle.mesh.proofs.Open.{twin_sound}
use Rattle.quads.specs.declared.Quad.{Quad}
use Rattle.quads.specs.Diagonal.{only_at}
use Rattle.std.specs.Option.{is_some}
use Rattle.quads.specs.Merge.{Mesh, Input, triangle_count, paired_at, merged_of}
use Rattle.quads.specs.inner.Merging.{Sound, count_to}
use Rattle.quads.proofs.Side.{only_own}
use Rattle.quads.proofs.Pairs.{Pair, paired, other_in}
use Rattle.quads.proofs.Made.{count_is}

-- ---- counting

-- two places that have the key v
two_equal : (key : ℕ → ℕ) (n i j v : ℕ) → i < j → j < n → key i ≡ v → key j ≡ v → 2 ≤ equal key n v
two_equal key n i j v h l a b =
    omega (arith, equal_yes key i v a, equal_mono key v (i + 1) j (omega arith), equal_yes key j v b, equal_mono key v (j + 1) n (omega arith))

-- ---- what a triangle is given: the lower of itself and the one across its only diagonal

lower_across : Mesh → ℕ → Option ℕ → ℕ
lower_across m t None = t
lower_across m t (Some e) = cond (ltb t (triangle_of (get_or m.twins e 0))) t (triangle_of (get_or m.twins e 0))

lower : Mesh → ℕ → ℕ
lower m t = lower_across m t (only_at m.classes t)

lower_own : (m : Mesh) (t : ℕ) (q : Quad) → Pair m t q → lower m t ≡ t
unfolding lower lower_across
lower_own m t q p = rw (p.own, lt-ltb t (triangle_of (get_or m.twins p.side 0)) p.higher)

lower_other : (m : Mesh) (t : ℕ) (q : Quad) (p : Pair m t q) → get_or m.twins (get_or m.twins p.side 0) 0 ≡ p.side → lower m (triangle_of (get_or m.twins p.side 0)) ≡ t
unfolding lower lower_across
lower_other m t q p back =
    let own = only_own m.classes t p.side p.own in
    let high = p.higher in
    let e : triangle_of p.side ≡ t = omega arith in
    rw (p.other, back, e, le-ltb (triangle_of (get_or m.twins p.side 0)) t (omega arith))

-- ---- a triangle that makes a quad is given twice

two_lower : (i : Input) → Sound i → (t : ℕ) (q : Quad) → t < triangle_count i.mesh → paired_at i.mesh t ≡ Some q → 2 ≤ equal (lower i.mesh) (triangle_count i.mesh) t
two_lower i s t q h e =
    let m = i.mesh in
    let p = paired m t q e in
    let own = only_own m.classes t p.side p.own in
    let back = twin_sound m.triangles m.twins p.side (s.back p.side (omega arith)) p.twin in
    let room = other_in m s.mesh t q (omega arith) p in
    two_equal (lower m) (triangle_count m) t (triangle_of (get_or m.twins p.side 0)) t p.higher (omega arith) (lower_own m t q p) (lower_other m t q p back.1)

-- the triangles given one below t are at least twice as many as the quads of those below t
count_lower : (i : Input) → Sound i → (t : ℕ) → t ≤ triangle_count i.mesh → 2 * count_to i.mesh t ≤ below (lower i.mesh) (triangle_count i.mesh) t
unfolding count_to one
count_lower i s zero h = omega arith
count_lower i s (suc t) h = rw (← add-one t) (go (paired_at i.mesh t) refl (count_lower i s t (omega arith)))
  where
    n : ℕ
    n = triangle_count i.mesh

    go : (p : Option Quad) → paired_at i.mesh t ≡ p → 2 * count_to i.mesh t ≤ below (lower i.mesh) n t → 2 * (count_to i.mesh t + one (is_some p)) ≤ below (lower i.mesh) n (t + 1)
    go None e ih = omega (arith, below_step (lower i.mesh) t n)
    go (Some q) e ih = omega (arith, below_step (lower i.mesh) t n, two_lower i s t q (omega arith) e)

pub at_most_a_sixth : (i : Input) → Sound i → 6 * length (merged_of i) ≤ length i.mesh.triangles
unfolding merged_of
at_most_a_sixth i s =
    let n = triangle_count i.mesh in
    omega (arith, count_is i n, count_lower i s n (omega arith), below_le (lower i.mesh) n n)
