-- The quads in two orders are as listed: by computation, and what is no case is refuted by a corner or two. Assumes nothing.
use mathlib.Core.Path.{◌≡◌, refl, sym, ap, ap₂, ◌∙◌}
use mathlib.Core.Bool.{Bool, true, not, ◌&&◌, ◌||◌}
use mathlib.Core.List.{List, [], ◌∷◌}
use mathlib.Core.Option.{some}
use Prim.Native.Nat.{ℕ, zero, suc, ◌+◌, ◌*◌, ◌-◌, ◌%◌, ◌<◌}
use native.Mathlib.Omega.{arith}
use borrow.Author.Tests.{eqb-true, eq-eqb, ltb-true}
use lib.Dec.{eqb, ltb, lit<}
use lib.IntN.{pos}
use lib.ListN.{length, get_or}
use Rattle.cells.specs.Cells.{cell, Has}
use Rattle.cells.specs.Kind.{Pair, ◌⊖◌, Next, Reached}
use Rattle.cells.specs.Kind.Chain.{here, on}
use Rattle.cells.specs.Quads.{turns, moved, quads}
use Rattle.cells.specs.Listed.{In, some_one, Entry, Some}
use Rattle.cells.specs.Listed.In.{first, later}
use Rattle.cells.specs.Sums.{total}
use Rattle.cells.specs.Holes.{holes, places, width, height, held}
use Rattle.cells.specs.Twin.{same_pair, every_one, numbers, Reading}
use Rattle.cells.specs.Example.{entry, square}
use Rattle.cells.specs.Reordered.{Reordered, SameCorners}
use Rattle.cells.specs.Turned.{entry_pair, OfOneCorner, TurnedListing}
use Rattle.cells.specs.Orders.{opposite, opposite_back, lying, standing, alike, alike_back, hung, hung_last, Orders}
use Rattle.cells.proofs.Unique.{join, reached_back}
use Rattle.cells.proofs.Squares.{four, quad_laws}
use Rattle.cells.proofs.Tests.{never, both, implied, every_in, some_in, in_some, below_in}
use Rattle.cells.proofs.Twin.{same_pair_is, Read, Solves, solve_is}
use Rattle.cells.proofs.Twin.Solves.{solved}
use Rattle.cells.proofs.Reseed.{moved_less}
use Rattle.cells.proofs.Examples.{example_says}

-- ---- reorderings, by the places where quads go and come from

-- each place goes to a place, and comes back from it
abbrev goes : ℕ → (to from : ℕ → ℕ) → Bool
goes n to from = every_one (λ (q : ℕ). ltb (to q) n && eqb (from (to q)) q) (numbers n)

-- each quad stands where it goes, each of its corners as it stood
abbrev corner_stands : (ℕ → ℕ) → (cells others : List ℕ) → ℕ → ℕ → Bool
corner_stands to cells others q i = eqb (get_or others (4 * to q + i) 0) (get_or cells (4 * q + i) 0)

abbrev stands : ℕ → (ℕ → ℕ) → (cells others : List ℕ) → Bool
stands n to cells others = every_one (λ (q : ℕ). every_one (corner_stands to cells others q) (numbers 4)) (numbers n)

gone : (n : ℕ) (to from : ℕ → ℕ) → goes n to from ≡ true → (q : ℕ) → q < n → (to q < n) × (from (to q) ≡ q)
gone n to from t q l =
    let a = both (ltb (to q) n) (eqb (from (to q)) q) (every_in (λ (q : ℕ). ltb (to q) n && eqb (from (to q)) q) t (below_in n q l)) in
    (ltb-true _ _ a.0, eqb-true _ _ a.1)

reordered_by : (n : ℕ) (to from : ℕ → ℕ) (cells others : List ℕ) → length cells ≡ 4 * n → length others ≡ length cells → goes n to from ≡ true → goes n from to ≡ true → stands n to cells others ≡ true → Reordered 4 cells others
reordered_by n to from cells others e f there back s =
    record {
      len = f;
      to = to;
      from = from;
      to_has = λ q h. omega (arith, e, f, (gone n to from there q (omega (arith, e))).0);
      from_has = λ q h. omega (arith, e, f, (gone n from to back q (omega (arith, e, f))).0);
      from_to = λ q h. (gone n to from there q (omega (arith, e))).1;
      to_from = λ q h. (gone n from to back q (omega (arith, e, f))).1;
      same = λ q h i. eqb-true _ _ (every_in (corner_stands to cells others q) (every_in (λ (q : ℕ). every_one (corner_stands to cells others q) (numbers 4)) s (below_in n q (omega (arith, e)))) (below_in 4 (i % 4) (omega arith)));
    }

-- one quad goes to its own place, and each of its corners does
alone : (a b c d i j k l : ℕ) → Reordered 4 (a ∷ b ∷ c ∷ d ∷ []) (i ∷ j ∷ k ∷ l ∷ []) → (a ≡ i) × (b ≡ j)
alone a b c d i j k l o =
    let z : o.to 0 ≡ 0 = omega (arith, o.to_has 0 (omega arith)) in
    let first_is = rw z at (o.same 0 (omega arith) 0) in
    let second_is = rw z at (o.same 0 (omega arith) 1) in
    (sym first_is, sym second_is)

-- the second quad would come from one that begins with 0
not_for_another : Reordered 4 (0 ∷ 1 ∷ 2 ∷ 3 ∷ 0 ∷ 1 ∷ 2 ∷ 3 ∷ []) opposite → ⊥
not_for_another o = go (o.from 1) (o.from_has 1 (omega arith)) (rw (o.to_from 1 (omega arith)) at (o.same (o.from 1) (o.from_has 1 (omega arith)) 0))
  where
    go : (p : ℕ) → Has 4 (0 ∷ 1 ∷ 2 ∷ 3 ∷ 0 ∷ 1 ∷ 2 ∷ 3 ∷ []) p → 2 ≡ cell 4 (0 ∷ 1 ∷ 2 ∷ 3 ∷ 0 ∷ 1 ∷ 2 ∷ 3 ∷ []) p 0 → ⊥
    go zero h e = omega arith
    go (suc zero) h e = omega arith
    go (suc (suc p)) h e = omega arith

-- ---- steps

there : Next quads opposite 0 1
there = record { from = omega arith; to = omega arith; two = λ e. omega arith; step = record { x = 1; y = 2; there = record { at = 1; small = lit< tt; starts = refl; ends = refl }; back = record { at = 0; small = lit< tt; starts = refl; ends = refl } } }

from_first : (q : ℕ) → q < 2 → Reached quads opposite 0 q
from_first zero l = here
from_first (suc zero) l = on here there
from_first (suc (suc q)) l = absurd (omega arith)

-- corner 5 of the second quad is read where the first reaches it
read_in : {rs : List Reading} → Solves alike 0 (some rs) → Reached quads alike 0 1 → Read rs 5
read_in (solved s) r = s.every 5 (record { of = 1; reached = r; place = 2; small = lit< tt; is = refl })

not_reached : Reached quads alike 0 1 → ⊥
not_reached r =
    let a = read_in (solve_is alike 0 (omega arith)) r in
    never (sym (in_some (λ (x : Reading). eqb x.corner 5) a.among (eq-eqb _ 5 a.is)))

-- ---- corners

-- an entry is of the corner; one of the entries is of the corner of e
abbrev of_corner : ℕ → Entry → Bool
of_corner c f = eqb f.corner c

abbrev lists : List Entry → Entry → Bool
lists fs e = some_one (of_corner e.corner) fs

listed_in : (es fs : List Entry) → every_one (lists fs) es ≡ true → (e : Entry) → In e es → Some fs (λ f. f.corner ≡ e.corner)
listed_in es fs t e i =
    let a = some_in (of_corner e.corner) fs (every_in (lists fs) t i) in
    record { entry = a.one; among = a.among; is = eqb-true _ _ a.is }

-- what is listed is found
found : {c : ℕ} {fs : List Entry} → Some fs (λ f. f.corner ≡ c) → some_one (of_corner c) fs ≡ true
found {c} a = in_some (of_corner c) a.among (eq-eqb _ c a.is)

-- corner 0 is in the one alone, and corner 4 in the other
not_same : SameCorners (square 0 1 2 3) (square 1 2 5 4) → ⊥
not_same c = never (sym (found (c.there (entry 0 0 0) (first refl))))

not_more : SameCorners (square 0 1 2 3) lying → ⊥
not_more c = never (sym (found (c.back (entry 2 0 4) (later (later (later (later (first refl))))))))

-- ---- turns

-- entries of one corner have pairs that t turns and a shift by d take to each other
abbrev moves : ℕ → Pair → Entry → Entry → Bool
moves t d e f = not (of_corner e.corner f) || same_pair (entry_pair f) (moved t d (entry_pair e))

fits_turn : (t : ℕ) (d : Pair) (es fs : List Entry) → every_one (λ (e : Entry). every_one (moves t d e) fs) es ≡ true → (x : Entry × Entry) → OfOneCorner es fs x → entry_pair x.1 ≡ moved t d (entry_pair x.0)
fits_turn t d es fs h x i =
    let a = every_in (moves t d x.0) (every_in (λ (e : Entry). every_one (moves t d e) fs) h i.0) i.1 in
    same_pair_is _ _ (implied _ _ a (eq-eqb _ _ i.2))

-- from one corner to another the turns alone are seen
step_turned : {es fs : List Entry} (w : TurnedListing es fs) (x y : Entry × Entry) → OfOneCorner es fs x → OfOneCorner es fs y → entry_pair y.1 ⊖ entry_pair x.1 ≡ turns w.t (entry_pair y.0 ⊖ entry_pair x.0)
step_turned w x y i j = ap₂ (λ (p q : Pair). p ⊖ q) (w.is y j) (w.is x i) ∙ moved_less w.t w.d (entry_pair x.0) (entry_pair y.0)

-- east turned is north by one turn alone
one_turn : (t : ℕ) → t < 4 → (pos 0, pos 1) ≡ turns t (pos 1, pos 0) → t ≡ 1
one_turn = four (λ t. (pos 0, pos 1) ≡ turns t (pos 1, pos 0) → t ≡ 1) (λ e. never (ap (same_pair (pos 0, pos 1)) e)) (λ e. refl) (λ e. never (ap (same_pair (pos 0, pos 1)) e)) (λ e. never (ap (same_pair (pos 0, pos 1)) e))

turned_once : (w : TurnedListing lying standing) → w.t ≡ 1
turned_once w =
    one_turn w.t w.small
    (step_turned w (entry 0 0 0, entry 1 0 0) (entry 1 0 1, entry 1 1 1) (first refl, later (later (later (first refl))), refl) (later (later (first refl)), later (later (later (later (first refl)))), refl))

not_mirrored : TurnedListing (square 0 1 2 3) (square 0 3 2 1) → ⊥
not_mirrored w =
    let t = one_turn w.t w.small (step_turned w (entry 0 0 0, entry 0 0 0) (entry 1 0 1, entry 0 1 1) (first refl, first refl, refl) (later (later (first refl)), later (first refl), refl)) in
    let e = step_turned w (entry 0 0 0, entry 0 0 0) (entry 0 1 3, entry 1 0 3) (first refl, first refl, refl) (later (first refl), later (later (first refl)), refl) in
    never (ap (same_pair (pos 1, pos 0)) (e ∙ ap (λ (t : ℕ). turns t (pos 0, pos 1)) t))

-- ---- the list

pub orders : Orders
unfolding total holes places width height held
orders =
    record {
      opposite_reordered = reordered_by 2 (λ q. 1 - q) (λ q. 1 - q) opposite opposite_back refl refl refl refl refl;
      opposite_joined = record { joined = λ p q lp lq e f. join (reached_back quads quad_laws opposite (from_first p (omega arith))) (from_first q (omega arith)) };
      opposite_first = example_says _ refl;
      opposite_second = example_says _ refl;
      six_corners = record { there = listed_in lying standing refl; back = listed_in standing lying refl };
      turned = record { t = 1; small = lit< tt; d = (pos 1, pos 0); is = fits_turn 1 (pos 1, pos 0) lying standing refl };
      once = turned_once;
      alike_reordered = reordered_by 2 (λ q. 1 - q) (λ q. 1 - q) alike alike_back refl refl refl refl refl;
      alike_not_joined = λ j. not_reached (j.joined 0 1 (lit< tt) (lit< tt) refl refl);
      alike_first = example_says _ refl;
      alike_second = example_says _ refl;
      other_corners = not_same;
      hung_reordered = reordered_by 4 (λ q. (q + 3) % 4) (λ q. (q + 1) % 4) hung hung_last refl refl refl refl refl;
      hung_first = example_says _ refl;
      hung_second = example_says _ refl;
      begun_elsewhere = λ o. omega (arith, (alone 0 1 2 3 1 2 3 0 o).0);
      run_back = λ o. omega (arith, (alone 0 1 2 3 0 3 2 1 o).1);
      for_another = not_for_another;
      a_word_more = λ o. omega (arith, o.len);
      more_corners = not_more;
      mirrored = not_mirrored;
    }
