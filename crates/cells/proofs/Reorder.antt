-- The order of the cells changes no chain, no assignment and no lone corner; groups go over to groups with as many cells, and where a group
-- is joined by steps, they lead from its lowest cell to the lowest in the other order. Over every kind of cell. Assumes nothing.
use mathlib.Core.Path.{◌≡◌, refl, sym, ap, ◌∙◌, subst, fun_ext}
use mathlib.Core.Bool.{true}
use mathlib.Core.List.{List}
use Prim.Native.Nat.{ℕ, ◌<◌}
use native.Mathlib.Omega.{arith}
use borrow.Author.Tests.{eqb-true, eq-eqb}
use lib.Dec.{eqb}
use Rattle.cells.specs.Cells.{cell, Has, Neighbours, everyone}
use Rattle.cells.specs.Groups.{Linked, Groups}
use Rattle.cells.specs.Groups.Linked.{same, on, back}
use Rattle.cells.specs.Kind.{Pair, Kind, Chain, Next, Reached, ReachedCorner, Fits, Lone}
use Rattle.cells.specs.Listed.{Grouping, members}
use Rattle.cells.specs.Reordered.{Reordered, Joined}
use Rattle.cells.proofs.Unique.{Laws, reached_has, reached_back}
use Rattle.cells.proofs.Groups.{linked_equal, own_number, equal_linked}
use Rattle.cells.proofs.Counted.{one_count, exactly_by, Below, exactly_how_many}

-- and back: the cells are the others in another order
abbrev pub flip : {size : ℕ} {cells others : List ℕ} → Reordered size cells others → Reordered size others cells
flip {size} {cells} {others} o =
    record {
      len = sym o.len;
      to = o.from;
      from = o.to;
      to_has = o.from_has;
      from_has = o.to_has;
      from_to = o.to_from;
      to_from = o.from_to;
      same = λ q h i. sym (o.same (o.from q) (o.from_has q h) i) ∙ ap (λ (z : ℕ). cell size others z i) (o.to_from q h);
    }

whole_cell : {size : ℕ} {cells others : List ℕ} (o : Reordered size cells others) (q : ℕ) → Has size cells q → cell size others (o.to q) ≡ cell size cells q
whole_cell o q h = fun_ext (o.same q h)

-- ---- chains, assignments, lone corners

module _ (k : Kind) {cells others : List ℕ} (o : Reordered k.size cells others) where
  next_there : {p q : ℕ} → Next k cells p q → Next k others (o.to p) (o.to q)
  next_there {p} {q} n =
      record {
        from = o.to_has p n.from;
        to = o.to_has q n.to;
        two = λ e. n.two (sym (o.from_to p n.from) ∙ ap o.from e ∙ o.from_to q n.to);
        step = rw (whole_cell o p n.from, whole_cell o q n.to) n.step;
      }

  reached_there : {s q : ℕ} → Reached k cells s q → Reached k others (o.to s) (o.to q)
  reached_there Chain.here = Chain.here
  reached_there (Chain.on r n) = Chain.on (reached_there r) (next_there n)

  corner_there : {s c : ℕ} → Has k.size cells s → ReachedCorner k cells s c → ReachedCorner k others (o.to s) c
  corner_there h r = record { of = o.to r.of; reached = reached_there r.reached; place = r.place; small = r.small; is = o.same r.of (reached_has k cells h r.reached) r.place ∙ r.is }

module _ (k : Kind) {cells others : List ℕ} (o : Reordered k.size cells others) {s : ℕ} (h : Has k.size cells s) where
  corner_back : {c : ℕ} → ReachedCorner k others (o.to s) c → ReachedCorner k cells s c
  corner_back {c} r = subst (λ (z : ℕ). ReachedCorner k cells z c) (o.from_to s h) (corner_there k (flip o) (o.to_has s h) r)

  pub fits_there : {L : ℕ → Pair} → Fits k cells s L → Fits k others (o.to s) L
  fits_there {L} f =
      record {
        reads = λ i l. ap L (o.same s h i) ∙ f.reads i l;
        holds = λ p q r n.
            let r₀ : Reached k cells s (o.from p) = subst (λ (z : ℕ). Reached k cells z (o.from p)) (o.from_to s h) (reached_there k (flip o) r) in
            let b : k.Holds L (cell k.size cells (o.from p)) (cell k.size cells (o.from q)) = f.holds (o.from p) (o.from q) r₀ (next_there k (flip o) n) in
            rw (whole_cell (flip o) p n.from, whole_cell (flip o) q n.to) at b;
      }

  -- where the cell of the one reaches r in the other, the cell of r reaches it
  pub led_home : Laws k → {r : ℕ} → Reached k others (o.to s) r → Reached k cells (o.from r) s
  led_home w {r} c = subst (Reached k cells (o.from r)) (o.from_to s h) (reached_there k (flip o) (reached_back k w others c))

  pub lone_there : {L : ℕ → Pair} {c : ℕ} → Lone k cells s L c → Lone k others (o.to s) L c
  lone_there l = record { reached = corner_there k o h l.reached; alone = λ d r e. l.alone d (corner_back r) e }

-- ---- groups

module _ {size : ℕ} {cells others : List ℕ} (o : Reordered size cells others) where
  neighbours_there : {p q : ℕ} → Neighbours size cells everyone p q → Neighbours size others everyone (o.to p) (o.to q)
  neighbours_there {p} {q} n =
      record { from = o.to_has p n.from; to = o.to_has q n.to; from_among = refl; to_among = refl; touch = rw (whole_cell o p n.from, whole_cell o q n.to) n.touch }

  linked_there : {p q : ℕ} → Linked (Neighbours size cells everyone) p q → Linked (Neighbours size others everyone) (o.to p) (o.to q)
  linked_there same = same
  linked_there (on l n) = on (linked_there l) (neighbours_there n)
  linked_there (back l n) = back (linked_there l) (neighbours_there n)

-- the groups of both lists, where the numbers below n are exactly those of the list's cells
module _ (k : Kind) {cells others : List ℕ} (o : Reordered k.size cells others) (g h : Grouping) (as_many : h.n ≡ g.n) (has : (q : ℕ) → q < g.n → Has k.size cells q) (below : (q : ℕ) → Has k.size cells q → q < g.n)
    (G : Groups (Neighbours k.size cells everyone) g.n g.number) (H : Groups (Neighbours k.size others everyone) h.n h.number) where
  has_there : (q : ℕ) → q < g.n → Has k.size others q
  has_there q l = omega (arith, o.len, has q l)

  small_there : (q : ℕ) → q < g.n → o.to q < h.n
  small_there q l = omega (arith, as_many, below (o.to q) (omega (arith, o.len, o.to_has q (has q l))))

  small_back : (q : ℕ) → q < h.n → o.from q < g.n
  small_back q l = below (o.from q) (o.from_has q (has_there q (omega (arith, as_many))))

  there_again : (q : ℕ) → q < h.n → o.to (o.from q) ≡ q
  there_again q l = o.to_from q (has_there q (omega (arith, as_many)))

  group_there : (p q : ℕ) → p < g.n → q < g.n → g.number p ≡ g.number q → h.number (o.to p) ≡ h.number (o.to q)
  group_there p q lp lq e = linked_equal H (linked_there o (equal_linked G lp lq e))

  group_back : (p q : ℕ) → p < g.n → q < g.n → h.number (o.to p) ≡ h.number (o.to q) → g.number p ≡ g.number q
  group_back p q lp lq e =
      let l = linked_there (flip o) (equal_linked H (small_there p lp) (small_there q lq) e) in
      linked_equal G (rw (o.from_to p (has p lp), o.from_to q (has q lq)) at l)

  -- two cells are in one group here exactly when they are there
  pub one_group : (p q : ℕ) → p < g.n → q < g.n → (g.number p ≡ g.number q → h.number (o.to p) ≡ h.number (o.to q)) × (h.number (o.to p) ≡ h.number (o.to q) → g.number p ≡ g.number q)
  one_group p q lp lq = (group_there p q lp lq, group_back p q lp lq)

  module _ (q : ℕ) (l : q < g.n) where
    -- of the group of q, the lowest cell in the one order and in the other
    abbrev s : ℕ
    s = g.number q

    abbrev r : ℕ
    r = h.number (o.to q)

    -- a cell of the group there is one of it here
    home : (p : ℕ) → p < h.n → h.number p ≡ r → g.number (o.from p) ≡ s
    home p b e = group_back (o.from p) q (small_back p b) l (ap h.number (there_again p b) ∙ e)

    -- the group has as many cells
    pub members_there : members k cells g s ≡ members k others h r
    members_there =
        one_count There
        (exactly_by Here There o.to
        (λ p b. (small_there p b.0, eq-eqb (h.number (o.to p)) r (group_there p q b.0 l (eqb-true (g.number p) s b.1))))
        (λ p c b d e. sym (o.from_to p (has p b.0)) ∙ ap o.from e ∙ o.from_to c (has c d.0))
        (λ p b. record { at = o.from p; holds = (small_back p b.0, eq-eqb (g.number (o.from p)) s (home p b.0 (eqb-true (h.number p) r b.1))); is = there_again p b.0 })
        (exactly_how_many (λ (p : ℕ). eqb (g.number p) s) g.n))
        (exactly_how_many (λ (p : ℕ). eqb (h.number p) r) h.n)
      where
        Here : ℕ → Type 0
        Here = Below (λ p. eqb (g.number p) s ≡ true) g.n

        There : ℕ → Type 0
        There = Below (λ p. eqb (h.number p) r ≡ true) h.n

    -- where it is joined, steps lead from its lowest cell here to its lowest there
    pub led : Joined k cells g s → Reached k others (o.to s) r
    led j =
        let far : r < h.n = omega (arith, H.lowest (o.to q) (small_there q l), small_there q l) in
        let chain = j.joined s (o.from r) (omega (arith, G.lowest q l)) (small_back r far) (own_number G l) (home r far (own_number H (small_there q l))) in
        subst (Reached k others (o.to s)) (there_again r far) (reached_there k o chain)
