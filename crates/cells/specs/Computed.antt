-- The components of a small list of quads, computed: of each group's readings the lone ones, shifted so that both minima are zero, in
-- order.
use Rattle.std.specs.Prelude.{Bool, true, false, cond, not, ◌&&◌, ◌||◌, List, [], ◌∷◌, ◌++◌, map, ℕ, zero, suc, eqb, ltb, ℤ, pos, negsuc, nat_abs, ◌-ℤ◌, length}
use Rattle.std.proofs.Math.Option.{Option, none, some}
use Rattle.cells.specs.Kind.{Pair}
use Rattle.cells.specs.Quads.{quads}
use Rattle.cells.specs.Listed.{Entry, Grouping, members}
use Rattle.cells.specs.Twin.{same_pair, every_one, Reading, solve}

-- ---- lone readings

-- every reading of the same pair is of the same corner
abbrev pub lone : List Reading → Reading → Bool
lone rs r = every_one (λ (t : Reading). not (same_pair t.pair r.pair) || eqb t.corner r.corner) rs

abbrev pub those : (Reading → Bool) → List Reading → List Reading
those test [] = []
those test (r ∷ rs) = cond (test r) (r ∷ those test rs) (those test rs)

-- ---- the shift

-- of a and b, by the difference of b and a
abbrev pub lower_by : ℤ → ℤ → ℤ → ℤ
lower_by (pos n) a b = a
lower_by (negsuc n) a b = b

abbrev pub lower : ℤ → ℤ → ℤ
lower a b = lower_by (b -ℤ a) a b

-- the lowest number that f reads; of no readings, 0
abbrev pub lowest : (Pair → ℤ) → List Reading → ℤ
lowest f [] = pos 0
lowest f (r ∷ []) = f r.pair
lowest f (r ∷ t ∷ rs) = lower (f r.pair) (lowest f (t ∷ rs))

abbrev pub least : List Reading → Pair
least rs = (lowest (λ (p : Pair). p.0) rs, lowest (λ (p : Pair). p.1) rs)

abbrev pub placed : Pair → Reading → Entry
placed low r = record { u = nat_abs (r.pair.0 -ℤ low.0); v = nat_abs (r.pair.1 -ℤ low.1); corner = r.corner }

-- ---- the order

abbrev pub comes_before : Entry → Entry → Bool
comes_before e f = ltb e.u f.u || (eqb e.u f.u && ltb e.v f.v)

-- e before f, behind it, or at its place, which is then the same entry
abbrev pub inserted : Bool → Bool → Entry → Entry → List Entry → List Entry → List Entry
inserted true after e f fs behind = e ∷ f ∷ fs
inserted false true e f fs behind = f ∷ behind
inserted false false e f fs behind = f ∷ fs

abbrev pub insert : Entry → List Entry → List Entry
insert e [] = e ∷ []
insert e (f ∷ fs) = inserted (comes_before e f) (comes_before f e) e f fs (insert e fs)

abbrev pub in_order : List Entry → List Entry
in_order [] = []
in_order (e ∷ es) = insert e (in_order es)

abbrev pub listing_of : List Reading → List Entry
listing_of rs = in_order (map (placed (least rs)) rs)

abbrev pub listing : List Reading → List Entry
listing rs = listing_of (those (lone rs) rs)

-- ---- the groups

abbrev pub added : List (List Entry) → Option (List Entry) → List (List Entry)
added out none = out
added out (some es) = out ++ (es ∷ [])

module _ (cells : List ℕ) (g : Grouping) where
  abbrev pub long_enough : List Entry → Option (List Entry)
  long_enough es = cond (ltb (length es) g.least_corners) none (some es)

  abbrev pub from_readings : Option (List Reading) → Option (List Entry)
  from_readings none = none
  from_readings (some rs) = long_enough (listing rs)

  -- what the group of lowest quad s yields
  abbrev pub yielded : ℕ → Option (List Entry)
  yielded s = cond (ltb (members quads cells g s) g.least_cells) none (from_readings (solve cells s))

  -- the components of the groups whose lowest quad is below m
  abbrev pub computed : ℕ → List (List Entry)
  computed zero = []
  computed (suc m) = added (computed m) (cond (eqb (g.number m) m) (yielded m) none)
