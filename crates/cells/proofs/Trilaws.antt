-- The laws of triangles: a triangle's pairs are forced across a side, every cell of a group is reached, each side of a reached triangle is one
-- of six steps, and so three triangles on one side have no assignment: one that fits is a labelling. Assumes nothing.
use mathlib.Core.Path.{◌≡◌, refl, sym, ap, ap₂, ◌∙◌, subst}
use mathlib.Core.Logic.{◌≢◌}
use mathlib.Core.List.{List}
use Prim.Native.Nat.{ℕ, zero, suc, ◌+◌, ◌*◌, ◌%◌, ◌≤◌, ◌<◌}
use native.Mathlib.Omega.{arith}
use native.Mathlib.Decide.{ℕ_discrete}
use lib.Dec.{lit<}
use lib.ListN.{length}
use lib.IntN.{ℤ, pos, negsuc, neg_ℤ, ◌+ℤ◌, ◌-ℤ◌}
use Rattle.cells.specs.Cells.{Cell, Side, Touch, cell, Has, Neighbours, everyone}
use Rattle.cells.specs.Groups.{Linked, Groups}
use Rattle.cells.specs.Kind.{Pair, ◌⊕◌, ◌⊖◌, Next, Reached, Fits}
use Rattle.cells.specs.Kind.Chain.{here, on}
use Rattle.cells.specs.Triangles.{Third, Across, Shares, Sums, Edge, ThreeOn, triangles, SumsThroughout}
use Rattle.cells.specs.Triangles.Across.{alike, opposite}
use Rattle.cells.specs.Triangles.Edge.{along, against}
use Rattle.cells.specs.Listed.{Grouping, Clear, Labelling}
use Rattle.cells.proofs.Links.{turned}
use Rattle.cells.proofs.Groups.{linked_equal}
use Rattle.cells.proofs.Whole.{up, down, sum, opp, of, to, minus, pair, up_pos, up_negsuc}
use Rattle.cells.proofs.Unique.{Laws, join, reached_back, reached_linked}

-- ---- a triangle's three corners and three sides

pub three : (P : ℕ → Type 0) → P 0 → P 1 → P 2 → (i : ℕ) → i < 3 → P i
three P a b c zero h = a
three P a b c (suc zero) h = b
three P a b c (suc (suc zero)) h = c
three P a b c (suc (suc (suc i))) h = absurd (omega arith)

-- a side of a triangle a, b, c and the third corner, by its corners
data TriangleSide (t : Cell) : ℕ → ℕ → ℕ → Type 0 where
  ab : TriangleSide t (t 0) (t 1) (t 2)
  bc : TriangleSide t (t 1) (t 2) (t 0)
  ca : TriangleSide t (t 2) (t 0) (t 1)

by_corners : {t : Cell} {x y z : ℕ} → Third t x y z → TriangleSide t x y z
by_corners {t} {x} {y} {z} s =
    let i = s.side.at in
    rw (← s.side.starts, ← s.side.ends, ← s.third) (three (λ i. TriangleSide t (t i) (t ((i + 1) % 3)) (t ((i + 2) % 3))) ab bc ca i s.side.small)

from_corners : {t : Cell} {x y z : ℕ} (P : ℕ → Type 0) → TriangleSide t x y z → ((i : ℕ) → i < 3 → P (t i)) → P x × P y × P z
from_corners P ab f = (f 0 (lit< tt), f 1 (lit< tt), f 2 (lit< tt))
from_corners P bc f = (f 1 (lit< tt), f 2 (lit< tt), f 0 (lit< tt))
from_corners P ca f = (f 2 (lit< tt), f 0 (lit< tt), f 1 (lit< tt))

to_corners : {t : Cell} {x y z : ℕ} (P : ℕ → Type 0) → TriangleSide t x y z → P x → P y → P z → (i : ℕ) → i < 3 → P (t i)
to_corners {t} P ab a b c = three (λ i. P (t i)) a b c
to_corners {t} P bc a b c = three (λ i. P (t i)) c a b
to_corners {t} P ca a b c = three (λ i. P (t i)) b c a

-- ---- the laws

across_back : {p q : Cell} {x y z w : ℕ} → Across p q x y z w → Shares q p
across_back {x = x} {y} {z} {w} (alike a b) = record { x = x; y = y; z = w; w = z; across = alike b a }
across_back {x = x} {y} {z} {w} (opposite a b) = record { x = y; y = x; z = w; w = z; across = opposite b a }

across_touch : {p q : Cell} {x y z w : ℕ} → Across p q x y z w → Touch 3 p q
across_touch (alike a b) = Touch.alike a.side b.side
across_touch (opposite a b) = Touch.opposite a.side b.side

-- of two numbers with one sum, one forces the other
rest : (z w w' s : ℤ) → z +ℤ w ≡ s → z +ℤ w' ≡ s → w ≡ w'
rest z w w' s e f = to (omega (arith, of e, of f, sum z w, sum z w'))

rest_pair : (z w w' s : Pair) → z ⊕ w ≡ s → z ⊕ w' ≡ s → w ≡ w'
rest_pair z w w' s e f = pair (rest z.0 w.0 w'.0 s.0 (ap (λ (t : Pair). t.0) e) (ap (λ (t : Pair). t.0) f)) (rest z.1 w.1 w'.1 s.1 (ap (λ (t : Pair). t.1) e) (ap (λ (t : Pair). t.1) f))

module _ (L M : ℕ → Pair) where
  third_forced : (x y z w : ℕ) → L z ⊕ L w ≡ L x ⊕ L y → M z ⊕ M w ≡ M x ⊕ M y → (L x ≡ M x) × (L y ≡ M y) × (L z ≡ M z) → L w ≡ M w
  third_forced x y z w s t e = rest_pair (M z) (L w) (M w) (M x ⊕ M y) (ap (λ (r : Pair). r ⊕ L w) (sym e.2) ∙ s ∙ ap₂ ◌⊕◌ e.0 e.1) t

  across_forced : {p q : Cell} {x y z w : ℕ} → Across p q x y z w → L z ⊕ L w ≡ L x ⊕ L y → M z ⊕ M w ≡ M x ⊕ M y → ((i : ℕ) → i < 3 → L (p i) ≡ M (p i)) → (i : ℕ) → i < 3 → L (q i) ≡ M (q i)
  across_forced {x = x} {y} {z} {w} (alike a b) s t same =
      let e = from_corners (λ c. L c ≡ M c) (by_corners a) same in
      to_corners (λ c. L c ≡ M c) (by_corners b) e.0 e.1 (third_forced x y z w s t e)
  across_forced {x = x} {y} {z} {w} (opposite a b) s t same =
      let e = from_corners (λ c. L c ≡ M c) (by_corners a) same in
      to_corners (λ c. L c ≡ M c) (by_corners b) e.1 e.0 (third_forced x y z w s t e)

pub triangle_laws : Laws triangles
triangle_laws = record {
  back = λ o. across_back o.across;
  touch = λ o. across_touch o.across;
  forced = λ {p} {q} {L} {M} o s t same. across_forced L M o.across (s o.x o.y o.z o.w o.across) (t o.x o.y o.z o.w o.across) same;
}

-- ---- every cell of a group is reached

pub third_at : {t : Cell} {x y : ℕ} (s : Side 3 t x y) → Third t x y (t ((s.at + 2) % 3))
third_at s = record { side = s; third = refl }

touch_shares : {p q : Cell} → Touch 3 p q → Shares p q
touch_shares (Touch.alike {x} {y} a b) = record { x = x; y = y; z = _; w = _; across = alike (third_at a) (third_at b) }
touch_shares (Touch.opposite {x} {y} a b) = record { x = x; y = y; z = _; w = _; across = opposite (third_at a) (third_at b) }

touch_back : {p q : Cell} → Touch 3 p q → Touch 3 q p
touch_back (Touch.alike a b) = Touch.alike b a
touch_back (Touch.opposite a b) = Touch.opposite b a

module _ (cells : List ℕ) where
  step_on : {s p q : ℕ} → Reached triangles cells s p → Has 3 cells p → Has 3 cells q → Touch 3 (cell 3 cells p) (cell 3 cells q) → Reached triangles cells s q
  step_on {s} {p} {q} r hp hq t = go (ℕ_discrete p q)
    where
      go : Dec (p ≡ q) → Reached triangles cells s q
      go (yes e) = subst (Reached triangles cells s) e r
      go (no e) = on r (record { from = hp; to = hq; two = e; step = touch_shares t })

  pub all_reached : {s q : ℕ} → Linked (Neighbours 3 cells everyone) s q → Reached triangles cells s q
  all_reached Linked.same = here
  all_reached (Linked.on l n) = step_on (all_reached l) n.from n.to n.touch
  all_reached (Linked.back l n) = step_on (all_reached l) n.to n.from (touch_back n.touch)

-- ---- the sides of a reached triangle

-- one of the six steps from a dot to a next one
data HexStep (s : Pair) : Type 0 where
  east : s ≡ (pos 1, pos 0) → HexStep s
  north : s ≡ (pos 0, pos 1) → HexStep s
  north_west : s ≡ (negsuc 0, pos 1) → HexStep s
  west : s ≡ (negsuc 0, pos 0) → HexStep s
  south : s ≡ (pos 0, negsuc 0) → HexStep s
  south_east : s ≡ (pos 1, negsuc 0) → HexStep s

-- the step back
abbrev less : Pair → Pair
less s = (neg_ℤ s.0, neg_ℤ s.1)

step_less : {s : Pair} → HexStep s → HexStep (less s)
step_less (east e) = west (ap less e)
step_less (north e) = south (ap less e)
step_less (north_west e) = south_east (ap less e)
step_less (west e) = east (ap less e)
step_less (south e) = north (ap less e)
step_less (south_east e) = north_west (ap less e)

step_back : (a b : Pair) → HexStep (b ⊖ a) → HexStep (a ⊖ b)
step_back a b s = subst HexStep (pair (minus a.0 b.0) (minus a.1 b.1)) (step_less s)

-- three pairs with one of these steps from each to the next
record Unit (a b c : Pair) : Type 0 where
  ab : HexStep (b ⊖ a)
  bc : HexStep (c ⊖ b)
  ca : HexStep (a ⊖ c)

unit_next : {a b c : Pair} → Unit a b c → Unit b c a
unit_next u = record { ab = u.bc; bc = u.ca; ca = u.ab }

unit_back : {a b c : Pair} → Unit a b c → Unit b a c
unit_back {a} {b} {c} u = record { ab = step_back a b u.ab; bc = step_back c a u.ca; ca = step_back b c u.bc }

-- where c and d add up to the sum of a and b, d differs from b as a from c, and a from d as c from b
across_less : (a b c d : ℤ) → c +ℤ d ≡ a +ℤ b → (d -ℤ b ≡ a -ℤ c) × (a -ℤ d ≡ c -ℤ b)
across_less a b c d e =
    (to (omega (arith, of e, sum c d, sum a b, opp b, opp c, sum d (neg_ℤ b), sum a (neg_ℤ c))), to (omega (arith, of e, sum c d, sum a b, opp b, opp d, sum a (neg_ℤ d), sum c (neg_ℤ b))))

-- the triangle across a side has the steps of this one
unit_across : {a b c d : Pair} → c ⊕ d ≡ a ⊕ b → Unit a b c → Unit a b d
unit_across {a} {b} {c} {d} e u =
    let e₀ = across_less a.0 b.0 c.0 d.0 (ap (λ (t : Pair). t.0) e) in
    let e₁ = across_less a.1 b.1 c.1 d.1 (ap (λ (t : Pair). t.1) e) in
    record { ab = u.ab; bc = subst HexStep (sym (pair e₀.0 e₁.0)) u.ca; ca = subst HexStep (sym (pair e₀.1 e₁.1)) u.bc }

first_unit : Unit (pos 0, pos 0) (pos 1, pos 0) (pos 0, pos 1)
first_unit = record { ab = east refl; bc = north_west refl; ca = south refl }

-- so are the pairs of t, from whichever of its sides on
abbrev Sided : (ℕ → Pair) → Cell → Type 0
Sided L t = Unit (L (t 0)) (L (t 1)) (L (t 2))

from_side : {t : Cell} {x y z : ℕ} (L : ℕ → Pair) → TriangleSide t x y z → Sided L t → Unit (L x) (L y) (L z)
from_side L ab u = u
from_side L bc u = unit_next u
from_side L ca u = unit_next (unit_next u)

to_side : {t : Cell} {x y z : ℕ} (L : ℕ → Pair) → TriangleSide t x y z → Unit (L x) (L y) (L z) → Sided L t
to_side L ab u = u
to_side L bc u = unit_next (unit_next u)
to_side L ca u = unit_next u

sided_across : {p q : Cell} {x y z w : ℕ} (L : ℕ → Pair) → Across p q x y z w → L z ⊕ L w ≡ L x ⊕ L y → Sided L p → Sided L q
sided_across L (alike a b) e u = to_side L (by_corners b) (unit_across e (from_side L (by_corners a) u))
sided_across L (opposite a b) e u = to_side L (by_corners b) (unit_back (unit_across e (from_side L (by_corners a) u)))

module _ (cells : List ℕ) {s : ℕ} {L : ℕ → Pair} (f : Fits triangles cells s L) where
  sided : {q : ℕ} → Reached triangles cells s q → Sided L (cell 3 cells q)
  sided here = rw (f.reads 0 (lit< tt), f.reads 1 (lit< tt), f.reads 2 (lit< tt)) first_unit
  sided (on {p} {q} r n) =
      let o = n.step in
      sided_across L o.across (f.holds p q r n o.x o.y o.z o.w o.across) (sided r)

-- ---- labels of one triangle

-- a is at most one more than b, in each number
abbrev pub Close : Pair → Pair → Type 0
Close a b = (up a.0 + down b.0 ≤ suc (up b.0 + down a.0)) × (up a.1 + down b.1 ≤ suc (up b.1 + down a.1))

step_up : {s : Pair} → HexStep s → (up s.0 ≤ 1) × (up s.1 ≤ 1)
step_up (east e) = rw e (omega (arith, up_pos 1), omega (arith, up_pos 0))
step_up (north e) = rw e (omega (arith, up_pos 0), omega (arith, up_pos 1))
step_up (north_west e) = rw e (omega (arith, up_negsuc 0), omega (arith, up_pos 1))
step_up (west e) = rw e (omega (arith, up_negsuc 0), omega (arith, up_pos 0))
step_up (south e) = rw e (omega (arith, up_pos 0), omega (arith, up_negsuc 0))
step_up (south_east e) = rw e (omega (arith, up_pos 1), omega (arith, up_negsuc 0))

step_close : (a b : Pair) → HexStep (b ⊖ a) → Close b a
step_close a b s =
    let h = step_up s in
    (omega (arith, h.0, sum b.0 (neg_ℤ a.0), opp a.0), omega (arith, h.1, sum b.1 (neg_ℤ a.1), opp a.1))

unit_close : (P : ℕ → Pair) → Unit (P 0) (P 1) (P 2) → (i : ℕ) → i < 3 → (j : ℕ) → j < 3 → Close (P i) (P j)
unit_close P u =
    three (λ i. (j : ℕ) → j < 3 → Close (P i) (P j))
    (three (λ j. Close (P 0) (P j)) (self 0) (before 0 1 u.ab) (step_close (P 2) (P 0) u.ca))
    (three (λ j. Close (P 1) (P j)) (step_close (P 0) (P 1) u.ab) (self 1) (before 1 2 u.bc))
    (three (λ j. Close (P 2) (P j)) (before 2 0 u.ca) (step_close (P 1) (P 2) u.bc) (self 2))
  where
    self : (i : ℕ) → Close (P i) (P i)
    self i = (omega arith, omega arith)

    before : (i j : ℕ) → HexStep (P j ⊖ P i) → Close (P i) (P j)
    before i j s = step_close (P j) (P i) (step_back (P i) (P j) s)

pub compact : (cells : List ℕ) {s q : ℕ} {L : ℕ → Pair} → Fits triangles cells s L → Reached triangles cells s q → (i : ℕ) → i < 3 → (j : ℕ) → j < 3 → Close (L (cell 3 cells q i)) (L (cell 3 cells q j))
compact cells {q = q} {L} f r = unit_close (λ i. L (cell 3 cells q i)) (sided cells f r)

-- ---- three triangles on one side

-- the ends of a step have no pair in their middle, since one of its two numbers is odd
odd_up : (a b d : ℤ) → b -ℤ a ≡ pos 1 → d +ℤ d ≡ a +ℤ b → ⊥
odd_up a b d e f = omega (arith, of e, of f, up_pos 1, opp a, sum b (neg_ℤ a), sum d d, sum a b)

odd_down : (a b d : ℤ) → b -ℤ a ≡ negsuc 0 → d +ℤ d ≡ a +ℤ b → ⊥
odd_down a b d e f = omega (arith, of e, of f, up_negsuc 0, opp a, sum b (neg_ℤ a), sum d d, sum a b)

no_middle : (a b d : Pair) → HexStep (b ⊖ a) → d ⊕ d ≡ a ⊕ b → ⊥
no_middle a b d s f = go s
  where
    f₀ : d.0 +ℤ d.0 ≡ a.0 +ℤ b.0
    f₀ = ap (λ (t : Pair). t.0) f

    f₁ : d.1 +ℤ d.1 ≡ a.1 +ℤ b.1
    f₁ = ap (λ (t : Pair). t.1) f

    go : HexStep (b ⊖ a) → ⊥
    go (east e) = odd_up a.0 b.0 d.0 (ap (λ (t : Pair). t.0) e) f₀
    go (north e) = odd_up a.1 b.1 d.1 (ap (λ (t : Pair). t.1) e) f₁
    go (north_west e) = odd_up a.1 b.1 d.1 (ap (λ (t : Pair). t.1) e) f₁
    go (west e) = odd_down a.0 b.0 d.0 (ap (λ (t : Pair). t.0) e) f₀
    go (south e) = odd_down a.1 b.1 d.1 (ap (λ (t : Pair). t.1) e) f₁
    go (south_east e) = odd_up a.0 b.0 d.0 (ap (λ (t : Pair). t.0) e) f₀

-- the third corner of a triangle on a side
abbrev apex : {t : Cell} {x y : ℕ} → Edge t x y → ℕ
apex {t} (along s) = t ((s.at + 2) % 3)
apex {t} (against s) = t ((s.at + 2) % 3)

pub edge_touch : {p q : Cell} {x y : ℕ} → Edge p x y → Edge q x y → Touch 3 p q
edge_touch (along a) (along b) = Touch.alike a b
edge_touch (along a) (against b) = Touch.opposite a b
edge_touch (against a) (along b) = Touch.opposite a b
edge_touch (against a) (against b) = Touch.alike a b

other_way : (a b : Pair) → a ⊕ b ≡ b ⊕ a
other_way a b = pair (to (omega (arith, sum a.0 b.0, sum b.0 a.0))) (to (omega (arith, sum a.1 b.1, sum b.1 a.1)))

edge_sums : {p q : Cell} {x y : ℕ} (L : ℕ → Pair) → Sums L p q → (a : Edge p x y) (b : Edge q x y) → L (apex a) ⊕ L (apex b) ≡ L x ⊕ L y
edge_sums L h (along a) (along b) = h _ _ _ _ (alike (third_at a) (third_at b))
edge_sums L h (along a) (against b) = h _ _ _ _ (opposite (third_at a) (third_at b))
edge_sums {x = x} {y} L h (against a) (along b) = h _ _ _ _ (opposite (third_at a) (third_at b)) ∙ other_way (L y) (L x)
edge_sums {x = x} {y} L h (against a) (against b) = h _ _ _ _ (alike (third_at a) (third_at b)) ∙ other_way (L y) (L x)

edge_step : {t : Cell} {x y : ℕ} (L : ℕ → Pair) → Sided L t → Edge t x y → HexStep (L y ⊖ L x)
edge_step L u (along s) = (from_side L (by_corners (third_at s)) u).ab
edge_step {x = x} {y} L u (against s) = step_back (L y) (L x) (from_side L (by_corners (third_at s)) u).ab

module _ (cells : List ℕ) {s : ℕ} {L : ℕ → Pair} (f : Fits triangles cells s L) where
  pub three_refuted : {p q r : ℕ} → Reached triangles cells s p → Has 3 cells p → Has 3 cells q → Has 3 cells r → p ≢ q → q ≢ r → p ≢ r → ThreeOn (cell 3 cells p) (cell 3 cells q) (cell 3 cells r) → ⊥
  three_refuted {p} {q} {r} reached hp hq hr pq qr pr t =
      let to_q : Next triangles cells p q = record { from = hp; to = hq; two = pq; step = touch_shares (edge_touch t.first t.second) } in
      let to_r : Next triangles cells p r = record { from = hp; to = hr; two = pr; step = touch_shares (edge_touch t.first t.third) } in
      let q_to_r : Next triangles cells q r = record { from = hq; to = hr; two = qr; step = touch_shares (edge_touch t.second t.third) } in
      let z : Pair = L (apex t.first) in
      let w : Pair = L (apex t.second) in
      let v : Pair = L (apex t.third) in
      let same : w ≡ v = rest_pair z w v (L t.x ⊕ L t.y) (edge_sums L (f.holds p q reached to_q) t.first t.second) (edge_sums L (f.holds p r reached to_r) t.first t.third) in
      no_middle (L t.x) (L t.y) w (edge_step L (sided cells f reached) t.first) (ap (λ (d : Pair). w ⊕ d) same ∙ edge_sums L (f.holds q r (on reached to_q) q_to_r) t.second t.third)

-- a chain to another cell ends in the list
ends_in : (cells : List ℕ) {p q : ℕ} → p ≢ q → Reached triangles cells p q → Has 3 cells q
ends_in cells d here = absurd (d refl)
ends_in cells d (on r n) = n.to

module _ (cells : List ℕ) (g : Grouping) (G : Groups (Neighbours 3 cells everyone) g.n g.number) {s : ℕ} where
  reach : (q : ℕ) → q < g.n → g.number q ≡ s → Reached triangles cells s q
  reach q h e = all_reached cells (turned (subst (Linked (Neighbours 3 cells everyone) q) e (G.linked q h)))

  -- of two cells of the group each is in the list
  both_in : {p q : ℕ} → p ≢ q → Reached triangles cells s p → Reached triangles cells s q → Has 3 cells p × Has 3 cells q
  both_in d to_p to_q =
      let p_to_q = join (reached_back triangles triangle_laws cells to_p) to_q in
      (ends_in cells (λ e. d (sym e)) (reached_back triangles triangle_laws cells p_to_q), ends_in cells d p_to_q)

  triangle_clear : {L : ℕ → Pair} → Fits triangles cells s L → Clear triangles cells g s
  triangle_clear f = record {
    clear = λ p q r hp hq hr ep eq er pq qr pr t.
        let to_p = reach p hp ep in
        let in_q = both_in pq to_p (reach q hq eq) in
        three_refuted cells f to_p in_q.0 in_q.1 (both_in pr to_p (reach r hr er)).1 pq qr pr t;
  }

  pub triangle_labelling : {L : ℕ → Pair} → Fits triangles cells s L → Labelling triangles cells g s L
  triangle_labelling f = record { clear = triangle_clear f; fits = f }

  -- an assignment fits exactly when the sums hold between every two cells of the group
  pub fits_throughout : {L : ℕ → Pair} → Fits triangles cells s L → SumsThroughout cells g s L
  fits_throughout f = record {
    reads = f.reads;
    sums = λ p q hp hq d ep eq x y z w a.
        let in_List = both_in d (reach p hp ep) (reach q hq eq) in
        f.holds p q (reach p hp ep) (record { from = in_List.0; to = in_List.1; two = d; step = record { x = x; y = y; z = z; w = w; across = a } }) x y z w a;
  }

  pub throughout_fits : {L : ℕ → Pair} → length cells ≡ 3 * g.n → g.number s ≡ s → SumsThroughout cells g s L → Fits triangles cells s L
  throughout_fits whole lowest t = record {
    reads = t.reads;
    holds = λ p q r n. t.sums p q (omega (arith, n.from)) (omega (arith, n.to)) n.two (same r) (same (on r n));
  }
    where
      same : {q : ℕ} → Reached triangles cells s q → g.number q ≡ s
      same r = sym (linked_equal G (reached_linked triangles triangle_laws cells r)) ∙ lowest
