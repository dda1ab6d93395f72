-- Does the order of the quads matter? Two stations label the same quads, each in its own order and with the same least quads and least
-- corners, and both calls are done; the number of corners, the workspace and the room may differ. Take a group of which any two quads are
-- joined through sides run in opposite senses. Both stations keep it, or both drop it. Where they keep it, both components list the same
-- corners; and one number of quarter turns, none to three, and one shift, the same for all of them, take each corner's pair at the one to its
-- pair at the other.
-- What it does not say. Of a group that hangs on a side run alike: there it need not hold (`orders`). Of the order of the components, which
-- goes by the quads' numbers. Of rows 9 and 10, which speak of the whole list, where another group may hang so. Of the holes. Of quads begun
-- at another corner or run the other way: they are other quads. It follows from the contract `Allowed`. Assumes nothing.
use Rattle.walk.specs.Call.{wrote}
use mathlib.Core.Path.{◌≡◌}
use mathlib.Core.List.{List}
use Prim.Native.Nat.{ℕ, ◌<◌}
use native.Mathlib.Omega.{arith}
use Rattle.cells.specs.Quads.{quads}
use Rattle.cells.specs.Reordered.{Reordered, Joined, SameCorners}
use Rattle.cells.specs.Turned.{TurnedListing}
use Rattle.cells.proofs.Reorder.{one_group}
use Rattle.cells.proofs.Relisted.{same_corners, turned_listing}
pub use Rattle.cells.proofs.Orders.{orders}
use Rattle.walk.specs.Input.{Input, quad_count}
use Rattle.walk.specs.Call.{Outcome, Allowed}
use Rattle.walk.specs.DoneCall.{DoneCall, grouping_of, HasComponent, listing}
use Rattle.walk.proofs.Demand.{answered, amounts}
use Rattle.walk.proofs.Carried.{has_exactly, component_of, lowest_has, as_many, has, below, to_the_lowest, demanded_same}

-- every call that answered k components and l entries is such a call
pub done_call : (i : Input) (work components entries : List ℕ) (o : Outcome) → Allowed i work components entries o → (k l : ℕ) → o.answer ≡ wrote k l → DoneCall i o
done_call i work components entries o allowed k l done =
    let a = answered i work components entries o allowed k l done in
    let w = amounts i work components entries o allowed k l done a.number a.groups in
    record { work = work; components = components; entries = entries; allowed = allowed; k = k; l = l; done = done; number = a.number; groups = a.groups; seed = w.seed; seeds = w.seeds }

-- the calls of two stations; quad q of the one is quad `o.to q` of the other, its corners as they stood
module _ {i j : Input} {p r : Outcome} (one : DoneCall i p) (other : DoneCall j r) (o : Reordered 4 i.quads j.quads) where
  -- two quads are in one group at the one exactly when they are at the other
  pub groups_same : (a b : ℕ) → a < quad_count i → b < quad_count i
      → (one.number a ≡ one.number b → other.number (o.to a) ≡ other.number (o.to b)) × (other.number (o.to a) ≡ other.number (o.to b) → one.number a ≡ one.number b)
  groups_same = one_group quads o (grouping_of one) (grouping_of other) (as_many one other o) (has one other o) (below one other o) one.groups other.groups

  -- any two quads of the group of q are joined through sides run in opposite senses; this is asked at the one alone
  module _ (q : ℕ) (small : q < quad_count i) (joined : Joined quads i.quads (grouping_of one) (one.number q)) where
    -- with the same least quads and corners it is kept or dropped as before
    pub kept_same : j.params ≡ i.params → (HasComponent one q → HasComponent other (o.to q)) × (HasComponent other (o.to q) → HasComponent one q)
    kept_same least =
        let here = has_exactly one q small in
        let there = has_exactly other (o.to q) (omega (arith, o.to_has q (omega arith))) in
        let same = demanded_same one other o q small joined least in
        (λ a. there.1 (same.0 (here.0 a)), λ b. here.1 (same.1 (there.0 b)))

    -- its components list the same corners
    pub corners_same : (a : HasComponent one q) (b : HasComponent other (o.to q)) → SameCorners (listing p a.at) (listing r b.at)
    corners_same a b =
        let c = component_of one q a in
        let d = component_of other (o.to q) b in
        same_corners o (lowest_has one q small) (to_the_lowest one other o q small joined) c.labelling.fits d.labelling.fits c.listed d.listed

    -- and the same turns and one shift take their pairs at the one to those at the other
    pub pairs_turned : (a : HasComponent one q) (b : HasComponent other (o.to q)) → TurnedListing (listing p a.at) (listing r b.at)
    pairs_turned a b =
        let c = component_of one q a in
        let d = component_of other (o.to q) b in
        turned_listing o (lowest_has one q small) (to_the_lowest one other o q small joined) c.labelling.fits d.labelling.fits c.listed d.listed
