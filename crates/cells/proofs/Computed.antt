-- The computed components are the components. Assumes nothing.
use mathlib.Core.Path.{◌≡◌, refl, sym, ap, ap₂, ◌∙◌, subst}
use mathlib.Core.Bool.{Bool, true, false, cond, not, ◌||◌}
use mathlib.Core.List.{List, [], ◌∷◌, map}
use mathlib.Core.Option.{Option, none, some}
use Prim.Native.Nat.{ℕ, zero, suc, ◌/◌, ◌≤◌}
use native.Mathlib.Omega.{arith}
use borrow.Author.Tests.{eqb-true, eqb-false, eq-eqb, ltb-true, ltb-false}
use lib.Dec.{eqb, ltb}
use lib.IntN.{pos}
use lib.ListN.{length}
use Rattle.cells.specs.Cells.{Has}
use Rattle.cells.specs.Kind.{Pair, ◌⊕◌, Lone}
use Rattle.cells.specs.Quads.{quads}
use Rattle.cells.specs.Listed.{In, Entry, Listed, Grouping, members, Component, Dropped, Components}
use Rattle.cells.specs.Listed.In.{first, later}
use Rattle.cells.specs.Listed.Dropped.{few_cells, no_labelling, few_corners}
use Rattle.cells.specs.Listed.Components.{start, within, dropped, kept}
use Rattle.cells.specs.Twin.{same_pair, Reading, label, solve}
use Rattle.cells.specs.Computed.{lone, those, least, placed, listing_of, listing, added, long_enough, from_readings, yielded, computed}
use Rattle.cells.proofs.Whole.{pair}
use Rattle.cells.proofs.Tests.{never, implied, implies, every_in, in_every, Made, map_in, in_map, not_in}
use Rattle.cells.proofs.Twin.{same_pair_is, is_same_pair, Solved, Solves, solve_is}
use Rattle.cells.proofs.Twin.Solves.{solved, unsolved}
use Rattle.cells.proofs.Squares.{no_crowd}
use Rattle.cells.proofs.Lowest.{reaches, stands, none_over}
use Rattle.cells.proofs.Inserted.{order_in, in_the_order, order_sorted}

-- ---- those that pass a test

those_in : (test : Reading → Bool) {r : Reading} (rs : List Reading) → In r (those test rs) → In r rs × (test r ≡ true)
those_in test [] i = not_in i
those_in test {r} (t ∷ rs) i = go (test t) refl i (λ j. those_in test rs j)
  where
    go : (b : Bool) → test t ≡ b → In r (cond b (t ∷ those test rs) (those test rs)) → (In r (those test rs) → In r rs × (test r ≡ true)) → In r (t ∷ rs) × (test r ≡ true)
    go true e (first p) h = (first p, ap test p ∙ e)
    go true e (later j) h = (later (h j).0, (h j).1)
    go false e j h = (later (h j).0, (h j).1)

in_those : (test : Reading → Bool) {r : Reading} (rs : List Reading) → In r rs → test r ≡ true → In r (those test rs)
in_those test [] i h = not_in i
in_those test {r} (t ∷ rs) i h = go (test t) refl i (λ j. in_those test rs j h)
  where
    go : (b : Bool) → test t ≡ b → In r (t ∷ rs) → (In r rs → In r (those test rs)) → In r (cond b (t ∷ those test rs) (those test rs))
    go true e (first p) f = first p
    go true e (later j) f = later (f j)
    go false e (first p) f = never (sym h ∙ ap test p ∙ e)
    go false e (later j) f = f j

-- ---- entries of readings

placed_at : (rs : List Reading) (r : Reading) → In r rs → r.pair ≡ least rs ⊕ (pos (placed (least rs) r).u, pos (placed (least rs) r).v)
placed_at rs r i = pair (stands (λ (p : Pair). p.0) rs r i) (stands (λ (p : Pair). p.1) rs r i)

-- readings of one pair are of one corner
module _ (rs : List Reading) (alone : (r t : Reading) → In r rs → In t rs → r.pair ≡ t.pair → r.corner ≡ t.corner) where
  one_entry : (e f : Entry) → In e (map (placed (least rs)) rs) → In f (map (placed (least rs)) rs) → e.u ≡ f.u → e.v ≡ f.v → e ≡ f
  one_entry e f i j u v = go (map_in (placed (least rs)) rs i) (map_in (placed (least rs)) rs j)
    where
      go : Made (placed (least rs)) e rs → Made (placed (least rs)) f rs → e ≡ f
      go m n =
          let at : ℕ → ℕ → Pair = λ u v. least rs ⊕ (pos u, pos v) in
          let e_at : m.of.pair ≡ at e.u e.v = placed_at rs m.of m.among ∙ ap (λ (x : Entry). at x.u x.v) (sym m.is) in
          let f_at : n.of.pair ≡ at f.u f.v = placed_at rs n.of n.among ∙ ap (λ (x : Entry). at x.u x.v) (sym n.is) in
          let p : m.of.pair ≡ n.of.pair = e_at ∙ ap₂ at u v ∙ sym f_at in
          m.is ∙ ap₂ (λ (c : ℕ) (p : Pair). placed (least rs) (record { corner = c; pair = p })) (alone m.of n.of m.among n.among p) p ∙ sym n.is

  listed_of : {e : Entry} → In e (listing_of rs) → Made (placed (least rs)) e rs
  listed_of i = map_in (placed (least rs)) rs (order_in (map (placed (least rs)) rs) i)

  in_listing : {r : Reading} → In r rs → In (placed (least rs) r) (listing_of rs)
  in_listing i = in_the_order (map (placed (least rs)) rs) one_entry (in_map (placed (least rs)) i)

-- ---- a group's listing

module _ (cells : List ℕ) (s : ℕ) (rs : List Reading) (z : Solved cells s rs) where
  abbrev ls : List Reading
  ls = those (lone rs) rs

  abbrev L : ℕ → Pair
  L = label rs

  one_corner : (r t : Reading) → lone rs r ≡ true → In t rs → t.pair ≡ r.pair → t.corner ≡ r.corner
  one_corner r t h i e =
      eqb-true t.corner r.corner (implied (same_pair t.pair r.pair) (eqb t.corner r.corner) (every_in (λ (t : Reading). not (same_pair t.pair r.pair) || eqb t.corner r.corner) h i) (is_same_pair t.pair r.pair e))

  lone_is : (r : Reading) → In r rs → lone rs r ≡ true → Lone quads cells s L r.corner
  lone_is r i h =
      record {
        reached = z.reached r i;
        alone = λ d k e.
            let t = z.every d k in
            let p : t.r.pair ≡ r.pair = sym (z.same t.r t.among) ∙ ap L t.is ∙ e ∙ z.same r i in
            sym t.is ∙ one_corner r t.r h t.among p;
      }

  is_lone : (r : Reading) → In r rs → Lone quads cells s L r.corner → lone rs r ≡ true
  is_lone r i n =
      in_every (λ (t : Reading). not (same_pair t.pair r.pair) || eqb t.corner r.corner) rs
      (λ t j. implies (same_pair t.pair r.pair) (eqb t.corner r.corner)
      (λ e. eq-eqb t.corner r.corner (n.alone t.corner (z.reached t j) (z.same t j ∙ same_pair_is t.pair r.pair e ∙ sym (z.same r i)))))

  alone : (r t : Reading) → In r ls → In t ls → r.pair ≡ t.pair → r.corner ≡ t.corner
  alone r t i j e = one_corner t r (those_in (lone rs) rs j).1 (those_in (lone rs) rs i).0 e

  listing_is : Listed quads cells s L (listing rs)
  listing_is =
      record {
        least = least ls;
        lone = λ e i.
            let m = listed_of ls alone i in
            let h = those_in (lone rs) rs m.among in
            subst (λ (x : Entry). Lone quads cells s L x.corner) (sym m.is) (lone_is m.of h.0 h.1);
        pairs = λ e i.
            let m = listed_of ls alone i in
            subst (λ (x : Entry). L x.corner ≡ least ls ⊕ (pos x.u, pos x.v)) (sym m.is) (z.same m.of (those_in (lone rs) rs m.among).0 ∙ placed_at ls m.of m.among);
        every = λ c n.
            let t = z.every c n.reached in
            let h = is_lone t.r t.among (subst (Lone quads cells s L) (sym t.is) n) in
            record { entry = placed (least ls) t.r; among = in_listing ls alone (in_those (lone rs) rs t.among h); is = t.is };
        zero_u = λ e i.
            let h = reaches (λ (p : Pair). p.0) ls (listed_of ls alone i).among in
            record { entry = placed (least ls) h.r; among = in_listing ls alone h.among; is = none_over h.is };
        zero_v = λ e i.
            let h = reaches (λ (p : Pair). p.1) ls (listed_of ls alone i).among in
            record { entry = placed (least ls) h.r; among = in_listing ls alone h.among; is = none_over h.is };
        ordered = order_sorted (map (placed (least ls)) ls);
      }

-- ---- what becomes of a group

module _ (cells : List ℕ) (g : Grouping) where
  data Becomes (s : ℕ) : Option (List Entry) → Type 0 where
    stays : {es : List Entry} → Component quads cells g s es → Becomes s (some es)
    goes : Dropped quads cells g s → Becomes s none

  module _ (s : ℕ) (enough : g.least_cells ≤ members quads cells g s) where
    long_is : (rs : List Reading) → Solved cells s rs → Becomes s (long_enough cells g (listing rs))
    long_is rs z = go (ltb (length (listing rs)) g.least_corners) refl
      where
        go : (b : Bool) → ltb (length (listing rs)) g.least_corners ≡ b → Becomes s (cond b none (some (listing rs)))
        go true e = goes (few_corners enough (label rs) (no_crowd z.fits) (listing rs) (listing_is cells s rs z) (ltb-true _ _ e))
        go false e = stays (record { enough = enough; L = label rs; labelling = no_crowd z.fits; listed = listing_is cells s rs z; corners = ltb-false _ _ e })

    from_is : (o : Option (List Reading)) → Solves cells s o → Becomes s (from_readings cells g o)
    from_is none (unsolved h) = goes (no_labelling enough (λ L l. h L l.fits))
    from_is (some rs) (solved z) = long_is rs z

  yielded_is : (s : ℕ) → Has 4 cells s → Becomes s (yielded cells g s)
  yielded_is s h = go (ltb (members quads cells g s) g.least_cells) refl
    where
      go : (b : Bool) → ltb (members quads cells g s) g.least_cells ≡ b → Becomes s (cond b none (from_readings cells g (solve cells s)))
      go true e = goes (few_cells (ltb-true _ _ e))
      go false e = from_is s (ltb-false _ _ e) (solve cells s) (solve_is cells s h)

  pub computed_are : (m : ℕ) → m ≤ length cells / 4 → Components quads cells g m (computed cells g m)
  computed_are zero h = start
  computed_are (suc m) h = go (eqb (g.number m) m) refl (yielded cells g m) (yielded_is m (omega arith)) (computed_are m (omega arith))
    where
      go : (b : Bool) → eqb (g.number m) m ≡ b → (o : Option (List Entry)) → Becomes m o → Components quads cells g m (computed cells g m)
          → Components quads cells g (suc m) (added (computed cells g m) (cond b o none))
      go true e (some es) (stays c) r = kept r (eqb-true (g.number m) m e) c
      go true e none (goes d) r = dropped r (eqb-true (g.number m) m e) d
      go false e o b r = within r (eqb-false (g.number m) m e)
