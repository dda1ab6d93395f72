-- Quads in another order: what fits from a quad in the one, turned and shifted, fits from every quad that it reaches in the other; the lone
-- corners are the same, so that listings have the same corners, with pairs that one turn and one shift take to the others. Assumes nothing.
use mathlib.Core.Path.{◌≡◌, sym, ap, ◌∙◌}
use mathlib.Core.List.{List}
use Prim.Native.Nat.{ℕ}
use native.Mathlib.Omega.{arith}
use lib.IntN.{ℤ, neg_ℤ, ◌+ℤ◌, ◌-ℤ◌}
use Rattle.cells.specs.Cells.{Has}
use Rattle.cells.specs.Kind.{Pair, ◌⊕◌, ◌⊖◌, Reached, Fits, Lone}
use Rattle.cells.specs.Quads.{turns, moved, quads}
use Rattle.cells.specs.Listed.{Entry, Listed}
use Rattle.cells.specs.Reordered.{Reordered, SameCorners}
use Rattle.cells.specs.Turned.{entry_pair, OfOneCorner, TurnedListing}
use Rattle.cells.proofs.Whole.{sum, opp, of, to, pair}
use Rattle.cells.proofs.Unique.{reached_has}
use Rattle.cells.proofs.Squares.{quad_laws}
use Rattle.cells.proofs.Reseed.{turns_sum, Reseeded, reseed, two_seeds, lone_reseeded}
use Rattle.cells.proofs.Reorder.{flip, fits_there, led_home, lone_there}

regroup : (m f a b d : ℤ) → m +ℤ f ≡ (a +ℤ b) +ℤ d → f ≡ b +ℤ ((a +ℤ d) -ℤ m)
regroup m f a b d e = to (omega (arith, of e, sum m f, sum a b, sum (a +ℤ b) d, sum a d, opp m, sum (a +ℤ d) (neg_ℤ m), sum b ((a +ℤ d) -ℤ m)))

-- where z is counted from m and y from n, the shift is as much further
from_the_least : (t : ℕ) (m n d z y : Pair) → n ⊕ y ≡ moved t d (m ⊕ z) → y ≡ moved t ((turns t m ⊕ d) ⊖ n) z
from_the_least t m n d z y e =
    let s : n ⊕ y ≡ (turns t m ⊕ turns t z) ⊕ d = e ∙ ap (λ (p : Pair). p ⊕ d) (turns_sum t m z) in
    pair (regroup n.0 y.0 (turns t m).0 (turns t z).0 d.0 (ap (λ (p : Pair). p.0) s)) (regroup n.1 y.1 (turns t m).1 (turns t z).1 d.1 (ap (λ (p : Pair). p.1) s))

module _ {cells others : List ℕ} (o : Reordered 4 cells others) {s r : ℕ} (h : Has 4 cells s) (led : Reached quads others (o.to s) r) where
  pub fits_led : {L : ℕ → Pair} → Fits quads cells s L → Reseeded others r L
  fits_led f = reseed others (fits_there quads o h f) led

  pub lone_led : {L K : ℕ → Pair} {c : ℕ} → Fits quads cells s L → Fits quads others r K → Lone quads cells s L c → Lone quads others r K c
  lone_led f g l = lone_reseeded others (fits_there quads o h f) g led (lone_there quads o h l)

module _ {cells others : List ℕ} (o : Reordered 4 cells others) {s r : ℕ} (h : Has 4 cells s) (led : Reached quads others (o.to s) r) {L K : ℕ → Pair} (f : Fits quads cells s L) (g : Fits quads others r K)
    {es fs : List Entry} (a : Listed quads cells s L es) (b : Listed quads others r K fs) where
  pub same_corners : SameCorners es fs
  same_corners =
      record {
        there = λ e i. b.every e.corner (lone_led o h led f g (a.lone e i));
        back = λ e i. a.every e.corner (lone_led (flip o) (reached_has quads others (o.to_has s h) led) (led_home quads o h quad_laws led) g f (b.lone e i));
      }

  pub turned_listing : TurnedListing es fs
  turned_listing =
      let w = two_seeds others (fits_there quads o h f) g led in
      let there : (x : Entry × Entry) → OfOneCorner es fs x → b.least ⊕ entry_pair x.1 ≡ moved w.t w.d (a.least ⊕ entry_pair x.0) =
      λ x i. sym (b.pairs x.1 i.1) ∙ ap K i.2 ∙ w.is x.0.corner (lone_there quads o h (a.lone x.0 i.0)).reached ∙ ap (moved w.t w.d) (a.pairs x.0 i.0) in
      record { t = w.t; small = w.small; d = (turns w.t a.least ⊕ w.d) ⊖ b.least; is = λ x i. from_the_least w.t a.least b.least w.d (entry_pair x.0) (entry_pair x.1) (there x i) }
