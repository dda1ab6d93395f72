-- Quads seen from another seed: an assignment that fits from one quad, turned by quarters and shifted, fits from each quad reached, since a
-- square turned and shifted is a square; the lone corners are the same. Assumes nothing.
use mathlib.Core.Path.{◌≡◌, refl, sym, ap, ◌∙◌, subst}
use mathlib.Core.List.{List}
use Prim.Native.Nat.{ℕ, zero, suc, ◌<◌}
use native.Mathlib.Omega.{arith}
use lib.Dec.{lit<}
use lib.ListN.{get_or}
use lib.IntN.{ℤ, pos, neg_ℤ, ◌+ℤ◌, ◌-ℤ◌}
use Rattle.cells.specs.Cells.{cell}
use Rattle.cells.specs.Kind.{Pair, ◌⊕◌, ◌⊖◌, origin, Reached, ReachedCorner, Fits, Lone}
use Rattle.cells.specs.Quads.{turn, turns, moved, OneStep, Square, quads}
use Rattle.cells.specs.Quads.OneStep.{east, north, west, south}
use Rattle.cells.specs.Turned.{Turned}
use Rattle.cells.proofs.Whole.{sum, opp, of, to, pair, up_pos}
use Rattle.cells.proofs.Unique.{join, reached_back, corner_from, one_labelling}
use Rattle.cells.proofs.Squares.{turn_step, square_forced, first_square, four, quad_laws, all_round, fits_round}

-- ---- turning and shifting go through differences and sums

neg_less : (a b : ℤ) → neg_ℤ b -ℤ neg_ℤ a ≡ neg_ℤ (b -ℤ a)
neg_less a b = to (omega (arith, opp a, opp b, sum b (neg_ℤ a), opp (b -ℤ a), sum (neg_ℤ b) (neg_ℤ (neg_ℤ a)), opp (neg_ℤ a)))

neg_sum : (a b : ℤ) → neg_ℤ (a +ℤ b) ≡ neg_ℤ a +ℤ neg_ℤ b
neg_sum a b = to (omega (arith, opp a, opp b, sum a b, opp (a +ℤ b), sum (neg_ℤ a) (neg_ℤ b)))

shift_less : (a b e : ℤ) → (b +ℤ e) -ℤ (a +ℤ e) ≡ b -ℤ a
shift_less a b e = to (omega (arith, opp a, sum b (neg_ℤ a), sum b e, sum a e, opp (a +ℤ e), sum (b +ℤ e) (neg_ℤ (a +ℤ e))))

shift_sum : (a b e : ℤ) → (a +ℤ b) +ℤ e ≡ (a +ℤ e) +ℤ b
shift_sum a b e = to (omega (arith, sum a b, sum (a +ℤ b) e, sum a e, sum (a +ℤ e) b))

turn_less : (a b : Pair) → turn b ⊖ turn a ≡ turn (b ⊖ a)
turn_less a b = pair (neg_less a.1 b.1) refl

turn_sum : (a b : Pair) → turn (a ⊕ b) ≡ turn a ⊕ turn b
turn_sum a b = pair (neg_sum a.1 b.1) refl

turns_less : (t : ℕ) (a b : Pair) → turns t b ⊖ turns t a ≡ turns t (b ⊖ a)
turns_less zero a b = refl
turns_less (suc t) a b = turn_less (turns t a) (turns t b) ∙ ap turn (turns_less t a b)

pub turns_sum : (t : ℕ) (a b : Pair) → turns t (a ⊕ b) ≡ turns t a ⊕ turns t b
turns_sum zero a b = refl
turns_sum (suc t) a b = ap turn (turns_sum t a b) ∙ turn_sum (turns t a) (turns t b)

pub moved_less : (t : ℕ) (d a b : Pair) → moved t d b ⊖ moved t d a ≡ turns t (b ⊖ a)
moved_less t d a b = pair (shift_less (turns t a).0 (turns t b).0 d.0) (shift_less (turns t a).1 (turns t b).1 d.1) ∙ turns_less t a b

-- ---- a square turned and shifted is a square

square_turn : {a b c d : Pair} → Square a b c d → Square (turn a) (turn b) (turn c) (turn d)
square_turn {a} {b} {c} {d} s =
    let e : turn b ⊖ turn a ≡ turn (b ⊖ a) = turn_less a b in
    record {
      side = subst OneStep (sym e) (turn_step s.side);
      third = ap turn s.third ∙ turn_sum b (turn (b ⊖ a)) ∙ ap (λ (r : Pair). turn b ⊕ turn r) (sym e);
      fourth = ap turn s.fourth ∙ sym (turn_less (b ⊖ a) c) ∙ ap (λ (r : Pair). turn c ⊖ r) (sym e);
    }

square_shift : {a b c d : Pair} (e : Pair) → Square a b c d → Square (a ⊕ e) (b ⊕ e) (c ⊕ e) (d ⊕ e)
square_shift {a} {b} {c} {d} e s =
    let l : (b ⊕ e) ⊖ (a ⊕ e) ≡ b ⊖ a = pair (shift_less a.0 b.0 e.0) (shift_less a.1 b.1 e.1) in
    record {
      side = subst OneStep (sym l) s.side;
      third = ap (λ (r : Pair). r ⊕ e) s.third ∙ past b (turn (b ⊖ a)) ∙ ap (λ (r : Pair). (b ⊕ e) ⊕ turn r) (sym l);
      fourth = ap (λ (r : Pair). r ⊕ e) s.fourth ∙ less c (b ⊖ a) ∙ ap (λ (r : Pair). (c ⊕ e) ⊖ r) (sym l);
    }
  where
    past : (p q : Pair) → (p ⊕ q) ⊕ e ≡ (p ⊕ e) ⊕ q
    past p q = pair (shift_sum p.0 q.0 e.0) (shift_sum p.1 q.1 e.1)

    less : (p q : Pair) → (p ⊖ q) ⊕ e ≡ (p ⊕ e) ⊖ q
    less p q = pair (shift_sum p.0 (neg_ℤ q.0) e.0) (shift_sum p.1 (neg_ℤ q.1) e.1)

square_turns : (t : ℕ) {a b c d : Pair} → Square a b c d → Square (turns t a) (turns t b) (turns t c) (turns t d)
square_turns zero s = s
square_turns (suc t) s = square_turn (square_turns t s)

pub square_moved : (t : ℕ) (e : Pair) {a b c d : Pair} → Square a b c d → Square (moved t e a) (moved t e b) (moved t e c) (moved t e d)
square_moved t e s = square_shift e (square_turns t s)

-- ---- another seed

-- of a step, the turns that take it east
record Eastward (s : Pair) : Type 0 where
  t : ℕ
  small : t < 4
  is : turns t s ≡ (pos 1, pos 0)

eastward : {s : Pair} → OneStep s → Eastward s
eastward (east e) = record { t = 0; small = lit< tt; is = e }
eastward (north e) = record { t = 3; small = lit< tt; is = ap (turns 3) e }
eastward (west e) = record { t = 2; small = lit< tt; is = ap (turns 2) e }
eastward (south e) = record { t = 1; small = lit< tt; is = ap (turns 1) e }

home : (a : ℤ) → a +ℤ (pos 0 -ℤ a) ≡ pos 0
home a = to (omega (arith, opp a, up_pos 0, sum (pos 0) (neg_ℤ a), sum a (pos 0 -ℤ a)))

after : (a b s : ℤ) → b -ℤ a ≡ s → a ≡ pos 0 → b ≡ s
after a b s e f = to (omega (arith, of e, of f, opp a, up_pos 0, sum b (neg_ℤ a)))

-- L, turned t times and shifted by d, fits from r
pub record Reseeded (cells : List ℕ) (r : ℕ) (L : ℕ → Pair) : Type 0 where
  pub t : ℕ
  pub small : t < 4
  pub d : Pair
  pub fits : Fits quads cells r (λ c. moved t d (L c))

module _ (cells : List ℕ) where
  turned_east : {s r : ℕ} {L : ℕ → Pair} → Fits quads cells s L → Reached quads cells s r → (t : ℕ) → turns t (L (cell 4 cells r 1) ⊖ L (cell 4 cells r 0)) ≡ (pos 1, pos 0) → Fits quads cells r (λ c. moved t (origin ⊖ turns t (L (cell 4 cells r 0))) (L c))
  turned_east {s} {r} {L} f h t e =
      let a : Pair = L (cell 4 cells r 0) in
      let b : Pair = L (cell 4 cells r 1) in
      let m : Pair → Pair = moved t (origin ⊖ turns t a) in
      let a_is : m a ≡ origin = pair (home (turns t a).0) (home (turns t a).1) in
      let l : m b ⊖ m a ≡ (pos 1, pos 0) = moved_less t (origin ⊖ turns t a) a b ∙ e in
      let b_is : m b ≡ (pos 1, pos 0) = pair (after (m a).0 (m b).0 (pos 1) (ap (λ (p : Pair). p.0) l) (ap (λ (p : Pair). p.0) a_is)) (after (m a).1 (m b).1 (pos 0) (ap (λ (p : Pair). p.1) l) (ap (λ (p : Pair). p.1) a_is)) in
      let g = square_forced (square_moved t (origin ⊖ turns t a) (all_round cells f h)) first_square a_is b_is in
      fits_round cells (four (λ i. m (L (cell 4 cells r i)) ≡ get_or quads.first i origin) a_is b_is g.0 g.1)
      (λ q k. square_moved t (origin ⊖ turns t a) (all_round cells f (join h k)))

  pub reseed : {s r : ℕ} {L : ℕ → Pair} → Fits quads cells s L → Reached quads cells s r → Reseeded cells r L
  reseed {s} {r} {L} f h =
      let w = eastward (all_round cells f h).side in
      record { t = w.t; small = w.small; d = origin ⊖ turns w.t (L (cell 4 cells r 0)); fits = turned_east f h w.t w.is }

  -- whatever fits from a reached quad differs by a turn and a shift
  pub two_seeds : {s r : ℕ} {L M : ℕ → Pair} → Fits quads cells s L → Fits quads cells r M → Reached quads cells s r → Turned (ReachedCorner quads cells s) L M
  two_seeds f g h =
      let e = reseed f h in
      record { t = e.t; small = e.small; d = e.d; is = λ c k. one_labelling quads quad_laws cells g e.fits (corner_from quads quad_laws cells h k) }

  -- and leaves the same corners lone
  pub lone_reseeded : {s r c : ℕ} {L M : ℕ → Pair} → Fits quads cells s L → Fits quads cells r M → Reached quads cells s r → Lone quads cells s L c → Lone quads cells r M c
  lone_reseeded {c = c} f g h l =
      let b = reached_back quads quad_laws cells h in
      let w = two_seeds g f b in
      record {
        reached = corner_from quads quad_laws cells h l.reached;
        alone = λ d k e. l.alone d (corner_from quads quad_laws cells b k) (w.is d k ∙ ap (moved w.t w.d) e ∙ sym (w.is c (corner_from quads quad_laws cells h l.reached)));
      }
