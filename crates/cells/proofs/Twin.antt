-- The twin tells the truth: what it reads fits, at every reached corner and at no other, and where it reads nothing, nothing fits.
-- Assumes nothing.
use mathlib.Core.Path.{◌≡◌, refl, sym, ap, ap₂, ◌∙◌, subst}
use mathlib.Core.Bool.{Bool, true, false, cond}
use mathlib.Core.List.{List, [], ◌∷◌, map}
use mathlib.Core.Logic.{◌⊎◌, inl, inr}
use mathlib.Core.Option.{Option, none, some}
use Prim.Native.Nat.{ℕ, ◌+◌, ◌%◌}
use native.Mathlib.Omega.{arith}
use borrow.Author.Tests.{eqb-true, eqb-false, eq-eqb}
use lib.Dec.{eqb, lit<}
use lib.IntN.{ℤ, pos, negsuc}
use lib.ListN.{get_or}
use Rattle.cells.specs.Cells.{cell, Has}
use Rattle.cells.specs.Kind.{Pair, origin, Reached, ReachedCorner, Fits}
use Rattle.cells.specs.Kind.Chain.{here, on}
use Rattle.cells.specs.Quads.{Square, Round, quads}
use Rattle.cells.specs.Listed.{In}
use Rattle.cells.specs.Listed.In.{first, later}
use Rattle.cells.specs.Twin.{same_number, same_pair, Known, third_of, after, first_side, Reading, start, end, seek, known_from, reading, label, agree, judged, solve}
use Rattle.cells.proofs.Whole.{pair}
use Rattle.cells.proofs.Squares.{square_next, four, fits_round}
use Rattle.cells.proofs.Tests.{never, both, not_in, every_in, fails, in_map, map_in}
use Rattle.cells.proofs.Laying.{KnownQuad, KnownSide, every_side, Ended, known_ends, seek_none, is_against, square_on}

same_number_is : (a b : ℤ) → same_number a b ≡ true → a ≡ b
same_number_is (pos m) (pos n) e = ap pos (eqb-true m n e)
same_number_is (pos m) (negsuc n) e = never (sym e)
same_number_is (negsuc m) (pos n) e = never (sym e)
same_number_is (negsuc m) (negsuc n) e = ap negsuc (eqb-true m n e)

same_number_self : (a : ℤ) → same_number a a ≡ true
same_number_self (pos m) = eq-eqb m m refl
same_number_self (negsuc m) = eq-eqb m m refl

pub same_pair_is : (p q : Pair) → same_pair p q ≡ true → p ≡ q
same_pair_is p q e =
    let f = both (same_number p.0 q.0) (same_number p.1 q.1) e in
    pair (same_number_is p.0 q.0 f.0) (same_number_is p.1 q.1 f.1)

pub is_same_pair : (p q : Pair) → p ≡ q → same_pair p q ≡ true
is_same_pair p q e = ap (λ (z : Pair). same_pair z q) e ∙ rw (same_number_self q.0, same_number_self q.1)

-- a reading of c
pub record Read (rs : List Reading) (c : ℕ) : Type 0 where
  pub r : Reading
  pub among : In r rs
  pub is : r.corner ≡ c

-- the reading that gives c its label
record First (rs : List Reading) (c : ℕ) : Type 0 where
  r : Reading
  among : In r rs
  is : r.corner ≡ c
  gives : label rs c ≡ r.pair

label_first : (rs : List Reading) (r : Reading) → In r rs → First rs r.corner
label_first [] r i = not_in i
label_first (t ∷ rs) r i = go (eqb t.corner r.corner) refl i (λ j. label_first rs r j)
  where
    go : (b : Bool) → eqb t.corner r.corner ≡ b → In r (t ∷ rs) → (In r rs → First rs r.corner) → First (t ∷ rs) r.corner
    go true e i f = record { r = t; among = first refl; is = eqb-true t.corner r.corner e; gives = ap (λ (b : Bool). cond b t.pair (label rs r.corner)) e }
    go false e (first p) f = absurd (eqb-false t.corner r.corner e (ap (λ (z : Reading). z.corner) (sym p)))
    go false e (later j) f =
        let d = f j in
        record { r = d.r; among = later d.among; is = d.is; gives = ap (λ (b : Bool). cond b t.pair (label rs r.corner)) e ∙ d.gives }

module _ (cells : List ℕ) (s : ℕ) (ks : List Known) (w : Ended cells s ks) where
  -- every reached quad is known
  known : {q : ℕ} → Reached quads cells s q → KnownQuad ks q
  known here = record { k = first_side s; among = w.seed; is = refl }
  known (on {p} {q} r n) = go (w.closed q (omega (arith, n.to))) (every_side cells s ks w.sound (known r) n.step.there.at n.step.there.small)
    where
      go : KnownQuad ks q ⊎ (seek cells q ks ≡ none) → KnownSide ks p n.step.there.at → KnownQuad ks q
      go (inl k) a = k
      go (inr e) a =
          let b = n.step.back in
          let t = seek_none cells q ks e a.k a.among b.at b.small in
          let x : start cells a.k ≡ n.step.x = ap₂ (cell 4 cells) a.is a.at ∙ n.step.there.starts in
          let y : end cells a.k ≡ n.step.y = ap₂ (λ (m i : ℕ). cell 4 cells m ((i + 1) % 4)) a.is a.at ∙ n.step.there.ends in
          never (sym (is_against cells q a.k b.at (λ h. n.two (sym a.is ∙ h)) (b.starts ∙ sym y) (b.ends ∙ sym x)) ∙ t)

  abbrev rs : List Reading
  rs = map (reading cells) ks

  -- where two known sides of one corner differ, nothing fits
  none_fits : agree rs ≡ false → (L : ℕ → Pair) → Fits quads cells s L → ⊥
  none_fits e L f =
      let a = fails (λ (r : Reading). same_pair (label rs r.corner) r.pair) rs e in
      let b = label_first rs a.one a.among in
      never (sym (is_same_pair (label rs a.one.corner) a.one.pair (b.gives ∙ sym (reads b.r b.among) ∙ ap L b.is ∙ reads a.one a.among)) ∙ a.is)
    where
      reads : (r : Reading) → In r rs → L r.corner ≡ r.pair
      reads r i =
          let m = map_in (reading cells) ks i in
          subst (λ (z : Reading). L z.corner ≡ z.pair) (sym m.is) ((w.sound.good m.of m.among).forced L f).0

  module _ (e : agree rs ≡ true) where
    same_label : (r : Reading) → In r rs → label rs r.corner ≡ r.pair
    same_label r i = same_pair_is (label rs r.corner) r.pair (every_in (λ (r : Reading). same_pair (label rs r.corner) r.pair) e i)

    label_is : (k : Known) → In k ks → label rs (start cells k) ≡ k.p
    label_is k i = same_label (reading cells k) (in_map (reading cells) i)

    corners : (k : Known) → In k ks → k.place ≡ 0
        → (label rs (cell 4 cells k.quad 0) ≡ k.p) × (label rs (cell 4 cells k.quad 1) ≡ k.q) × (label rs (cell 4 cells k.quad 2) ≡ third_of k.p k.q) × (label rs (cell 4 cells k.quad 3) ≡ third_of k.q (third_of k.p k.q))
    corners k i h =
        let next = w.sound.next in
        let a = next k i in
        let b = next (after k) a in
        let at : ℕ → Pair = λ j. label rs (cell 4 cells k.quad j) in (
          ap at (sym h) ∙ label_is k i,
          ap (λ (j : ℕ). at ((j + 1) % 4)) (sym h) ∙ label_is (after k) a,
          ap (λ (j : ℕ). at (((j + 1) % 4 + 1) % 4)) (sym h) ∙ label_is (after (after k)) b,
          ap (λ (j : ℕ). at ((((j + 1) % 4 + 1) % 4 + 1) % 4)) (sym h) ∙ label_is (after (after (after k))) (next (after (after k)) b),
        )

    -- the known quads go round unit squares
    goes_round : {q : ℕ} → KnownSide ks q 0 → Round (label rs) (cell 4 cells q)
    goes_round {q} a =
        let c = corners a.k a.among a.at in
        let sq = square_on a.k.p a.k.q (w.sound.good a.k a.among).step in
        subst (λ (n : ℕ). Round (label rs) (cell 4 cells n)) a.is (rw (c.0, c.1, c.2, c.3) (subst (Square a.k.p a.k.q (third_of a.k.p a.k.q)) (square_next sq).third sq))

    fits : Fits quads cells s (label rs)
    fits =
        let c = corners (first_side s) w.seed refl in
        fits_round cells (four (λ i. label rs (cell 4 cells s i) ≡ get_or quads.first i origin) c.0 c.1 c.2 c.3)
        (λ q r. goes_round (every_side cells s ks w.sound (known r) 0 (lit< tt)))

  -- the readings are of the reached corners
  read_reached : (r : Reading) → In r rs → ReachedCorner quads cells s r.corner
  read_reached r i =
      let m = map_in (reading cells) ks i in
      let g = w.sound.good m.of m.among in
      subst (λ (z : Reading). ReachedCorner quads cells s z.corner) (sym m.is) (record { of = m.of.quad; reached = g.reached; place = m.of.place; small = g.small; is = refl })

  reached_read : (c : ℕ) → ReachedCorner quads cells s c → Read rs c
  reached_read c h =
      let a = every_side cells s ks w.sound (known h.reached) h.place h.small in
      record { r = reading cells a.k; among = in_map (reading cells) a.among; is = ap₂ (cell 4 cells) a.is a.at ∙ h.is }

-- ---- what the twin says

-- the readings fit, and are of the reached corners and no others
pub record Solved (cells : List ℕ) (s : ℕ) (rs : List Reading) : Type 0 where
  pub fits : Fits quads cells s (label rs)
  pub reached : (r : Reading) → In r rs → ReachedCorner quads cells s r.corner
  pub every : (c : ℕ) → ReachedCorner quads cells s c → Read rs c
  pub same : (r : Reading) → In r rs → label rs r.corner ≡ r.pair

pub data Solves (cells : List ℕ) (s : ℕ) : Option (List Reading) → Type 0 where
  solved : {rs : List Reading} → Solved cells s rs → Solves cells s (some rs)
  unsolved : ((L : ℕ → Pair) → Fits quads cells s L → ⊥) → Solves cells s none

pub solve_is : (cells : List ℕ) (s : ℕ) → Has 4 cells s → Solves cells s (solve cells s)
solve_is cells s h = go (agree (map (reading cells) ks)) refl
  where
    ks : List Known
    ks = known_from cells s

    w : Ended cells s ks
    w = known_ends cells s h

    go : (b : Bool) → agree (map (reading cells) ks) ≡ b → Solves cells s (judged b (map (reading cells) ks))
    go true e = solved (record { fits = fits cells s ks w e; reached = read_reached cells s ks w; every = reached_read cells s ks w; same = same_label cells s ks w e })
    go false e = unsolved (none_fits cells s ks w e)
