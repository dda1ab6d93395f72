-- Two calls that are done, the same quads in another order. Of a group that is joined through sides run in opposite senses, steps lead from
-- its lowest quad to the one that is the lowest in the other, and it has all that is demanded in the one exactly when in the other. Assumes
-- nothing.
use mathlib.Core.Path.{◌≡◌, sym, ap, subst}
use Prim.Native.Nat.{ℕ, ◌<◌}
use native.Mathlib.Omega.{arith}
use Rattle.cells.specs.Cells.{Has}
use Rattle.cells.specs.Kind.{Reached}
use Rattle.cells.specs.Quads.{quads}
use Rattle.cells.specs.Listed.{members, Component}
use Rattle.cells.specs.Reordered.{Reordered, Joined}
use Rattle.cells.proofs.Unique.{reached_has}
use Rattle.cells.proofs.Squares.{quad_laws}
use Rattle.cells.proofs.Groups.{own_number}
use Rattle.cells.proofs.Reorder.{flip, led_home, members_there, led}
use Rattle.cells.proofs.Relisted.{fits_led, lone_led}
use Rattle.fates.specs.declared.LabelParams.{LabelParams}
use Rattle.walk.specs.Input.{Input, quad_count, grouping}
use Rattle.walk.specs.Call.{Outcome}
use Rattle.walk.specs.Demanded.{AtLeast, Demanded}
use Rattle.walk.specs.DoneCall.{DoneCall, grouping_of, HasComponent, listing}
use Rattle.walk.proofs.Reasons.{at_least_over}
use Rattle.walk.proofs.Demand.{exists, of_a_group}

-- ---- demand 3 of a done call

module _ {i : Input} {o : Outcome} (x : DoneCall i o) (q : ℕ) where
  pub has_exactly : q < quad_count i → (HasComponent x q → Demanded i x.number (x.number q)) × (Demanded i x.number (x.number q) → HasComponent x q)
  has_exactly l =
      exists i x.work x.components x.entries o x.allowed x.k x.l x.done x.number x.groups x.seed x.seeds (x.number q)
      (omega (arith, x.groups.lowest q l)) (own_number x.groups l)

  pub component_of : (a : HasComponent x q) → Component quads i.quads (grouping_of x) (x.number q) (listing o a.at)
  component_of a =
      subst (λ (s : ℕ). Component quads i.quads (grouping_of x) s (listing o a.at)) a.is
      (of_a_group i x.work x.components x.entries o x.allowed x.k x.l x.done x.number x.groups x.seed x.seeds a.at a.small)

  pub lowest_has : q < quad_count i → Has 4 i.quads (x.number q)
  lowest_has l = omega (arith, x.groups.lowest q l)

-- ---- from the one to the other

-- where s of the one reaches r in the other, and their groups have as many quads
demanded_over : {i j : Input} {N M : ℕ → ℕ} {s r : ℕ} (o : Reordered 4 i.quads j.quads) → Has 4 i.quads s → Reached quads j.quads (o.to s) r
    → members quads i.quads (grouping i N) s ≡ members quads j.quads (grouping j M) r → j.params ≡ i.params → Demanded i N s → Demanded j M r
demanded_over o h led many least d =
    let e = fits_led o h led d.fits in
    record {
      enough = omega (arith, many, d.enough, ap (λ (p : LabelParams). p.quads) least);
      L = _;
      fits = e.fits;
      corners = subst (AtLeast _) (ap (λ (p : LabelParams). p.corners) (sym least)) (at_least_over (λ c l. lone_led o h led d.fits e.fits l) d.corners);
    }

module _ {i j : Input} {p r : Outcome} (one : DoneCall i p) (other : DoneCall j r) (o : Reordered 4 i.quads j.quads) where
  pub as_many : quad_count j ≡ quad_count i
  as_many = omega (arith, o.len)

  pub has : (q : ℕ) → q < quad_count i → Has 4 i.quads q
  has q l = omega arith

  pub below : (q : ℕ) → Has 4 i.quads q → q < quad_count i
  below q h = omega arith

  module _ (q : ℕ) (small : q < quad_count i) where
    members_same : members quads i.quads (grouping_of one) (one.number q) ≡ members quads j.quads (grouping_of other) (other.number (o.to q))
    members_same = members_there quads o (grouping_of one) (grouping_of other) as_many has below one.groups other.groups q small

    module _ (joined : Joined quads i.quads (grouping_of one) (one.number q)) where
      pub to_the_lowest : Reached quads j.quads (o.to (one.number q)) (other.number (o.to q))
      to_the_lowest = led quads o (grouping_of one) (grouping_of other) as_many has below one.groups other.groups q small joined

      pub demanded_same : j.params ≡ i.params
          → (Demanded i one.number (one.number q) → Demanded j other.number (other.number (o.to q))) × (Demanded j other.number (other.number (o.to q)) → Demanded i one.number (one.number q))
      demanded_same least =
          let h = lowest_has one q small in (
            demanded_over o h to_the_lowest members_same least,
            demanded_over (flip o) (reached_has quads j.quads (o.to_has (one.number q) h) to_the_lowest) (led_home quads o h quad_laws to_the_lowest) (sym members_same) (sym least),
          )
