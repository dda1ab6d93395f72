-- Under an assignment that fits from a seed, over n quads, the second number of every reached corner's pair is at most n from 0. A quad's
-- height, its corners' least distance from 0, rises by at most one at a step, so that each height up to it has its own quad. Assumes nothing.
use mathlib.Core.Path.{◌≡◌, sym, ap, ◌∙◌, subst}
use mathlib.Core.List.{List}
use Prim.Native.Nat.{ℕ, suc, ◌+◌, ◌*◌, ◌≤◌, ◌<◌, min}
use native.Mathlib.Decide.{dec_lt}
use native.Mathlib.Omega.{arith}
use lib.Dec.{lit<}
use lib.IntN.{ℤ, pos, negsuc, neg_ℤ}
use lib.ListN.{length}
use Rattle.cells.specs.Cells.{cell}
use Rattle.cells.specs.Kind.{Pair, ◌⊖◌, Chain, Next, Reached, ReachedCorner, Fits}
use Rattle.cells.specs.Kind.Chain.{here, on}
use Rattle.cells.specs.Quads.{turn, OneStep, Square, quads}
use Rattle.cells.specs.Quads.OneStep.{east, north, west, south}
use Rattle.cells.proofs.NoMore.{no_more}
use Rattle.cells.proofs.Whole.{up, down, up_pos, up_negsuc, sum, opp, of_1}
use Rattle.cells.proofs.Unique.{reached_has}
use Rattle.cells.proofs.Squares.{square_next, four, side_ends, all_round}

-- ---- heights along chains

-- a reached cell of height k
record Met (E : ℕ → ℕ → Type 0) (s : ℕ) (h : ℕ → ℕ) (k : ℕ) : Type 0 where
  at : ℕ
  reached : Chain E s at
  high : h at ≡ k

module _ {E : ℕ → ℕ → Type 0} {s : ℕ} (h : ℕ → ℕ) (start : h s ≡ 0) (rise : (p q : ℕ) → Chain E s p → E p q → h q ≤ suc (h p)) where
  -- where a step rises by at most one, a chain leaves out no height
  met : {q : ℕ} → Chain E s q → (k : ℕ) → k < suc (h q) → Met E s h k
  met here k l = record { at = s; reached = here; high = omega arith }
  met (on {p} {q} r e) k l = go (dec_lt k (suc (h p))) (λ m. met r k m)
    where
      go : Dec (k < suc (h p)) → (k < suc (h p) → Met E s h k) → Met E s h k
      go (yes m) met_before = met_before m
      go (no m) met_before = record { at = q; reached = on r e; high = omega (arith, rise p q r e) }

  -- so a reached cell is lower than the number of cells
  height_small : {q : ℕ} (n : ℕ) → ((p : ℕ) → Chain E s p → p < n) → Chain E s q → h q < n
  height_small {q} n small c =
      let m = met c in
      omega (arith, no_more (suc (h q)) n (λ k l. (m k l).at) (λ k l. small (m k l).at (m k l).reached) (λ j k a b e. sym (m j a).high ∙ ap h e ∙ (m k b).high))

-- ---- the second numbers of a square

-- how far a pair's second number is from 0
abbrev far : Pair → ℕ
far p = up p.1 + down p.1

-- a, which is b and u - d more, is at most u + d further from 0
further : (a b : ℤ) (u d : ℕ) → up a + (down b + d) ≡ (up b + u) + down a → up a + down a ≤ (up b + down b) + (u + d)
further (pos a) b u d e = omega (arith, up_pos a)
further (negsuc a) b u d e = omega (arith, up_negsuc a)

step_far : {s : Pair} → OneStep s → far s + far (turn s) ≤ 1
step_far (east e) = rw e (omega (arith, up_pos 0, up_pos 1))
step_far (north e) = rw e (omega (arith, up_pos 0, up_pos 1))
step_far (west e) = rw e (omega (arith, up_pos 0, up_negsuc 0))
step_far (south e) = rw e (omega (arith, up_pos 0, up_negsuc 0))

abbrev least : Pair → Pair → Pair → Pair → ℕ
least a b c d = min (min (far a) (far b)) (min (far c) (far d))

-- the first corner's second number differs from the others' by one number of the side's step or by both
square_near : {a b c d : Pair} → Square a b c d → far a ≤ suc (least a b c d)
square_near {a} {b} {c} {d} s =
    let t : Pair = b ⊖ a in
    let ab : up a.1 + (down b.1 + up t.1) ≡ (up b.1 + down t.1) + down a.1 = omega (arith, sum b.1 (neg_ℤ a.1), opp a.1) in
    let bc : up c.1 + (down b.1 + down t.0) ≡ (up b.1 + up t.0) + down c.1 = omega (arith, of_1 s.third, sum b.1 t.0) in
    let cd : up d.1 + (down c.1 + up t.1) ≡ (up c.1 + down t.1) + down d.1 = omega (arith, of_1 s.fourth, sum c.1 (neg_ℤ t.1), opp t.1) in
    let to_b = further a.1 b.1 (down t.1) (up t.1) ab in
    let to_c = further a.1 c.1 (down t.0 + down t.1) (up t.0 + up t.1) (omega arith) in
    let to_d = further a.1 d.1 (down t.0) (up t.0) (omega arith) in
    omega (arith, step_far s.side)

-- ---- quads

module _ (cells : List ℕ) (n s : ℕ) (count : length cells ≡ 4 * n) (seed : s < n) {L : ℕ → Pair} (f : Fits quads cells s L) where
  abbrev away : ℕ → ℕ
  away q = least (L (cell 4 cells q 0)) (L (cell 4 cells q 1)) (L (cell 4 cells q 2)) (L (cell 4 cells q 3))

  corner_above : (q i : ℕ) → i < 4 → away q ≤ far (L (cell 4 cells q i))
  corner_above q = four (λ i. away q ≤ far (L (cell 4 cells q i))) (omega arith) (omega arith) (omega arith) (omega arith)

  -- none of its corners is more than one further from 0 than the quad is
  corner_near : (q : ℕ) → Reached quads cells s q → (i : ℕ) → i < 4 → far (L (cell 4 cells q i)) ≤ suc (away q)
  corner_near q r =
      let a = all_round cells f r in
      let b = square_next a in
      let c = square_next b in
      four (λ i. far (L (cell 4 cells q i)) ≤ suc (away q)) (square_near a) (omega (arith, square_near b)) (omega (arith, square_near c)) (omega (arith, square_near (square_next c)))

  -- the quads of a step have a corner in common
  step_rise : (p q : ℕ) → Reached quads cells s p → Next quads cells p q → away q ≤ suc (away p)
  step_rise p q r e =
      let a = side_ends (λ c. far (L c) ≤ suc (away p)) e.step.there (corner_near p r) in
      let b = side_ends (λ c. away q ≤ far (L c)) e.step.back (corner_above q) in
      omega arith

  reached_small : (q : ℕ) → Reached quads cells s q → q < n
  reached_small q r = omega (arith, count, reached_has quads cells (omega (arith, count)) r)

  pub labels_near : {c : ℕ} → ReachedCorner quads cells s c → (up (L c).1 ≤ n) × (down (L c).1 ≤ n)
  labels_near k =
      let start : away s ≡ 0 = omega (arith, ap far (f.reads 0 (lit< tt)), up_pos 0) in
      let low = height_small away start step_rise n reached_small k.reached in
      let near = corner_near k.of k.reached k.place k.small in
      subst (λ (x : ℕ). (up (L x).1 ≤ n) × (down (L x).1 ≤ n)) k.is (omega arith, omega arith)
