-- The laws of quads: a unit square is one from each of its corners, two pairs of it force the others, and so a quad's pairs are forced
-- across a side. An assignment fits exactly when the seed reads and every reached quad goes round, and is then a labelling. Assumes nothing.
use mathlib.Core.Path.{◌≡◌, refl, sym, ap, ap₂, ◌∙◌, subst}
use mathlib.Core.List.{List}
use Prim.Native.Nat.{ℕ, zero, suc, ◌+◌, ◌%◌, ◌<◌}
use native.Mathlib.Omega.{arith}
use lib.Dec.{lit<}
use lib.ListN.{get_or}
use lib.IntN.{ℤ, pos, neg_ℤ, ◌-ℤ◌}
use Rattle.cells.specs.Cells.{Cell, Side, Touch, cell}
use Rattle.cells.specs.Kind.{Pair, ◌⊕◌, ◌⊖◌, origin, Reached, Fits}
use Rattle.cells.specs.Kind.Chain.{here, on}
use Rattle.cells.specs.Listed.{Grouping, Labelling}
use Rattle.cells.specs.Quads.{turn, OneStep, Square, Round, quads}
use Rattle.cells.specs.Quads.OneStep.{east, north, west, south}
use Rattle.cells.proofs.Whole.{sum, opp, of, to, minus, pair, of_0, of_1}
use Rattle.cells.proofs.Unique.{Laws}

-- ---- unit squares

-- a step turned is a step
pub turn_step : {s : Pair} → OneStep s → OneStep (turn s)
turn_step (east e) = north (ap turn e)
turn_step (north e) = west (ap turn e)
turn_step (west e) = south (ap turn e)
turn_step (south e) = east (ap turn e)

-- the same side run the other way
pub step_back : (a b : Pair) → OneStep (b ⊖ a) → OneStep (a ⊖ b)
step_back a b s = subst OneStep (pair (minus a.0 b.0) (minus a.1 b.1)) (turn_step (turn_step s))

add_less : (b c t : Pair) → c ≡ b ⊕ t → c ⊖ b ≡ t
add_less b c t e = pair
    (to (omega (arith, of_0 e, sum b.0 t.0, sum c.0 (neg_ℤ b.0), opp b.0)))
    (to (omega (arith, of_1 e, sum b.1 t.1, sum c.1 (neg_ℤ b.1), opp b.1)))

round_back : (a b c d : ℤ) → d ≡ c -ℤ (b -ℤ a) → a ≡ d -ℤ (c -ℤ b)
round_back a b c d e =
    to (omega (arith, of e, sum c (neg_ℤ (b -ℤ a)), opp (b -ℤ a), sum b (neg_ℤ a), opp a, sum d (neg_ℤ (c -ℤ b)), opp (c -ℤ b), sum c (neg_ℤ b), opp b))

-- the same square from its next corner on
pub square_next : {a b c d : Pair} → Square a b c d → Square b c d a
square_next {a} {b} {c} {d} s =
    let e : c ⊖ b ≡ turn (b ⊖ a) = add_less b c (turn (b ⊖ a)) s.third in
    record {
      side = rw e (turn_step s.side);
      third = s.fourth ∙ ap (λ (t : Pair). c ⊕ turn t) (sym e);
      fourth = pair (round_back a.0 b.0 c.0 d.0 (ap (λ (t : Pair). t.0) s.fourth)) (round_back a.1 b.1 c.1 d.1 (ap (λ (t : Pair). t.1) s.fourth));
    }

-- a square's first two pairs force its others
pub square_forced : {a b c d a' b' c' d' : Pair} → Square a b c d → Square a' b' c' d' → a ≡ a' → b ≡ b' → (c ≡ c') × (d ≡ d')
square_forced {a} {b} {c} {d} {a'} {b'} {c'} {d'} s t e f =
    let g : c ≡ c' = s.third ∙ ap₂ (λ (x y : Pair). y ⊕ turn (y ⊖ x)) e f ∙ sym t.third in
    let h : b ⊖ a ≡ b' ⊖ a' = ap₂ (λ (x y : Pair). y ⊖ x) e f in
    (g, s.fourth ∙ ap₂ (λ (x y : Pair). x ⊖ y) g h ∙ sym t.fourth)

-- what the seed reads is a unit square
pub first_square : Square (pos 0, pos 0) (pos 1, pos 0) (pos 1, pos 1) (pos 0, pos 1)
first_square = record { side = east refl; third = refl; fourth = refl }

-- ---- a quad's four corners and four sides

pub four : (P : ℕ → Type 0) → P 0 → P 1 → P 2 → P 3 → (i : ℕ) → i < 4 → P i
four P a b c d zero h = a
four P a b c d (suc zero) h = b
four P a b c d (suc (suc zero)) h = c
four P a b c d (suc (suc (suc zero))) h = d
four P a b c d (suc (suc (suc (suc i)))) h = absurd (omega arith)

-- a side of a quad a, b, c, d, by its corners
pub data QuadSide (q : Cell) : ℕ → ℕ → Type 0 where
  ab : QuadSide q (q 0) (q 1)
  bc : QuadSide q (q 1) (q 2)
  cd : QuadSide q (q 2) (q 3)
  da : QuadSide q (q 3) (q 0)

pub quad_side : {q : Cell} {x y : ℕ} → Side 4 q x y → QuadSide q x y
quad_side {q} {x} {y} s =
    subst (λ (b : ℕ). QuadSide q x b) s.ends (subst (λ (a : ℕ). QuadSide q a (q ((s.at + 1) % 4))) s.starts (four (λ i. QuadSide q (q i) (q ((i + 1) % 4))) ab bc cd da s.at s.small))

-- two assignments that go round q and agree on a side of it agree on q
along : {q : Cell} {x y : ℕ} (L M : ℕ → Pair) → QuadSide q x y → Round L q → Round M q → L x ≡ M x → L y ≡ M y → (i : ℕ) → i < 4 → L (q i) ≡ M (q i)
along {q} L M ab s t e f =
    let g = square_forced s t e f in
    four (λ i. L (q i) ≡ M (q i)) e f g.0 g.1
along {q} L M bc s t e f =
    let g = square_forced (square_next s) (square_next t) e f in
    four (λ i. L (q i) ≡ M (q i)) g.1 e f g.0
along {q} L M cd s t e f =
    let g = square_forced (square_next (square_next s)) (square_next (square_next t)) e f in
    four (λ i. L (q i) ≡ M (q i)) g.0 g.1 e f
along {q} L M da s t e f =
    let g = square_forced (square_next (square_next (square_next s))) (square_next (square_next (square_next t))) e f in
    four (λ i. L (q i) ≡ M (q i)) f g.0 g.1 e

pub side_forced : {q : Cell} {x y : ℕ} (L M : ℕ → Pair) → Side 4 q x y → Round L q → Round M q → L x ≡ M x → L y ≡ M y → (i : ℕ) → i < 4 → L (q i) ≡ M (q i)
side_forced L M s = along L M (quad_side s)

-- a side's ends are corners
pub side_ends : {q : Cell} {x y : ℕ} (P : ℕ → Type 0) → Side 4 q x y → ((i : ℕ) → i < 4 → P (q i)) → P x × P y
side_ends {q} P s f = go (quad_side s)
  where
    go : {x y : ℕ} → QuadSide q x y → P x × P y
    go ab = (f 0 (lit< tt), f 1 (lit< tt))
    go bc = (f 1 (lit< tt), f 2 (lit< tt))
    go cd = (f 2 (lit< tt), f 3 (lit< tt))
    go da = (f 3 (lit< tt), f 0 (lit< tt))

pub quad_laws : Laws quads
quad_laws = record {
  back = λ o. record { x = o.y; y = o.x; there = o.back; back = o.there };
  touch = λ o. Touch.opposite o.there o.back;
  forced = λ {p} {q} {L} {M} o s t same. let e = side_ends (λ c. L c ≡ M c) o.there same in side_forced L M o.back s t e.1 e.0;
}

-- ---- fitting is reading at the seed and going round at every reached quad

module _ (cells : List ℕ) where
  pub all_round : {s q : ℕ} {L : ℕ → Pair} → Fits quads cells s L → Reached quads cells s q → Round L (cell 4 cells q)
  all_round f here = rw (f.reads 0 (lit< tt), f.reads 1 (lit< tt), f.reads 2 (lit< tt), f.reads 3 (lit< tt)) first_square
  all_round f (on {p} {q} r n) = f.holds p q r n

  pub fits_round : {s : ℕ} {L : ℕ → Pair} → ((i : ℕ) → i < 4 → L (cell 4 cells s i) ≡ get_or quads.first i origin) → ((q : ℕ) → Reached quads cells s q → Round L (cell 4 cells q)) → Fits quads cells s L
  fits_round a b = record { reads = a; holds = λ p q r n. b q (on r n) }

-- no three quads are a crowd
pub no_crowd : {cells : List ℕ} {g : Grouping} {s : ℕ} {L : ℕ → Pair} → Fits quads cells s L → Labelling quads cells g s L
no_crowd f = record { clear = record { clear = λ p q r hp hq hr ep eq er pq qr pr crowd. crowd }; fits = f }
