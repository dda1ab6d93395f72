-- The call on two quads in both orders is as listed: by computation, and since there is one answer. Assumes nothing.
use mathlib.Core.Path.{◌≡◌, refl, sym, ap, subst}
use mathlib.Core.List.{List, [], ◌∷◌}
use Prim.Native.Nat.{ℕ, zero, suc, ◌<◌}
use native.Mathlib.Omega.{arith}
use lib.ListN.{get_or, replicate}
use Rattle.refusal.specs.First.{first_of}
use Rattle.refusal.specs.Rows.{refuse_first}
use Rattle.mesh.specs.Cells.{not_below, corners_row, some, names_twice, twice_row}
use Rattle.cells.specs.Sums.{total}
use Rattle.cells.specs.Holes.{holes, places, width, height, held}
use Rattle.cells.specs.Quads.{quads}
use Rattle.cells.specs.Listed.{Entry}
use Rattle.cells.specs.Reordered.{Joined}
use Rattle.cells.specs.Orders.{opposite, opposite_back, lying, standing}
use Rattle.cells.proofs.Groups.{one_answer}
use Rattle.cells.proofs.Check.{groups_are}
use Rattle.cells.proofs.Computed.{computed_are}
use Rattle.walk.specs.Input.{GroupsOf, grouping, Answer}
use Rattle.walk.specs.Call.{gate_of, entry_gate, entry_words, all_entries, component_words}
use Rattle.walk.specs.Call.Allowed.{labelled}
use Rattle.walk.specs.Read.{entries_from, components_from}
use Rattle.walk.specs.DoneCall.{DoneCall, grouping_of, HasComponent}
use Rattle.walk.specs.TwoCalls.{two_quads, six_entries, lying_words, standing_words, TwoCalls}
use Rattle.walk.proofs.Determined.{one_out}
use Rattle.walk.proofs.Demand.{answered}
use Rattle.walk.proofs.Success.{components_told}
use Rattle.walk.proofs.Order.{orders, done_call}

abbrev zero_for_all : ℕ → ℕ
zero_for_all q = 0

grouped : GroupsOf (two_quads opposite) zero_for_all
grouped = groups_are opposite zero_for_all refl

lies : Answer (two_quads opposite) (lying ∷ [])
unfolding total
lies = record { number = zero_for_all; groups = grouped; components = computed_are opposite (grouping (two_quads opposite) zero_for_all) 2 (omega arith) }

stands : Answer (two_quads opposite_back) (standing ∷ [])
unfolding total
stands = record { number = zero_for_all; groups = groups_are opposite_back zero_for_all refl; components = computed_are opposite_back (grouping (two_quads opposite_back) zero_for_all) 2 (omega arith) }

-- ---- the group of the first quad

zero_at : (q : ℕ) → q < 2 → ◌≡◌ {A = ℕ} (get_or (0 ∷ 0 ∷ []) q 0) 0
zero_at zero l = refl
zero_at (suc zero) l = refl
zero_at (suc (suc q)) l = absurd (omega arith)

module _ (x : DoneCall (two_quads opposite) (six_entries lying_words)) where
  is_joined : Joined quads opposite (grouping_of x) (x.number 0)
  is_joined = record { joined = λ p q lp lq e f. orders.opposite_joined.joined p q lp lq (zero_at p lp) (zero_at q lq) }

  -- the component is of the group of quad 0, as there is one group
  has_one : HasComponent x 0
  has_one =
      let one : 1 ≡ x.k = ap components_told x.done in
      let y = x.seeds.each 0 (omega arith) in
      let seed_is = one_answer x.groups grouped y.small in
      record { at = 0; small = omega arith; is = omega (arith, y.lowest, seed_is, one_answer {x = 0} x.groups grouped (omega arith)) }

-- ---- the words of the one order are not left in the other, since there is one answer

-- the corner of the first entry
first_corner : List (List Entry) → ℕ
first_corner [] = 0
first_corner ([] ∷ out) = 0
first_corner ((e ∷ es) ∷ out) = e.corner

not_left : DoneCall (two_quads opposite_back) (six_entries lying_words) → ⊥
unfolding entries_from components_from first_corner
not_left x =
    let a = answered (two_quads opposite_back) x.work x.components x.entries (six_entries lying_words) x.allowed x.k x.l x.done in
    let b : Answer (two_quads opposite_back) (lying ∷ []) = subst (λ (k : ℕ). Answer (two_quads opposite_back) (components_from (0 ∷ 6 ∷ 0 ∷ []) lying_words 0 k)) (sym (ap components_told x.done)) a in
    let e : ◌≡◌ {A = ℕ} 0 3 = ap first_corner (one_out (two_quads opposite_back) (lying ∷ []) (standing ∷ []) b stands) in
    omega arith

pub two_calls : TwoCalls
unfolding first_of refuse_first not_below corners_row some names_twice twice_row holes places total width height held gate_of entry_gate entry_words all_entries component_words entries_from
two_calls =
    record {
      first = done_call (two_quads opposite) (replicate 160 5) (replicate 3 7) (replicate 18 7) (six_entries lying_words) (labelled refl (lying ∷ []) lies) 1 6 refl;
      second = done_call (two_quads opposite_back) (replicate 160 5) (replicate 3 7) (replicate 18 7) (six_entries standing_words) (labelled refl (standing ∷ []) stands) 1 6 refl;
      first_lists = refl;
      second_lists = refl;
      joined = is_joined;
      has = has_one;
      not_exchanged = not_left;
    }
