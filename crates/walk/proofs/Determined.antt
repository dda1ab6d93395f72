-- The call has one outcome (`determined`): the rows decide, an input has one grouping of its quads, and a grouping one list of components,
-- which depends on the groups' numbers of its cells alone. Assumes nothing.
use Rattle.std.specs.Prelude.{Err}
use mathlib.Core.Path.{◌≡◌, sym, ap, ◌∙◌}
use mathlib.Core.List.{List}
use Prim.Native.Nat.{ℕ, ◌≤◌, ◌<◌}
use native.Mathlib.Omega.{arith}
use lib.Dec.{eqb}
use lib.ListN.{length}
use Rattle.refusal.specs.declared.Refusal.{Refusal}
use Rattle.refusal.specs.Rows.{◌then◌}
use Rattle.refusal.proofs.Rows.{shut_open, one_why}
use Rattle.cells.specs.Kind.{Pair, Kind}
use Rattle.cells.specs.Quads.{quads}
use Rattle.cells.specs.Listed.{Entry, grouping_by, members, Labelling, Component, Dropped, Components}
use Rattle.cells.specs.Listed.Dropped.{few_cells, no_labelling, few_corners}
use Rattle.cells.specs.Listed.Components.{start, within, dropped, kept}
use Rattle.cells.proofs.Sums.{how_many_same}
use Rattle.cells.proofs.Groups.{one_answer}
use Rattle.cells.proofs.Squares.{quad_laws}
use Rattle.cells.proofs.Yields.{components_determined}
use Rattle.walk.specs.Input.{Input, quad_count, GroupsOf, grouping, Answer}
use Rattle.walk.specs.Call.{all_entries, entry_gate, room_row, entries_row, Outcome, outcome_by, Allowed}
use Rattle.walk.specs.Call.Allowed.{refused, labelled}

-- ---- two numberings that agree below n

module _ (k : Kind) (cells : List ℕ) (n few least : ℕ) where
  labelling_same : (number other : ℕ → ℕ) → ((q : ℕ) → q < n → number q ≡ other q) → {s : ℕ} {L : ℕ → Pair} → Labelling k cells (grouping_by n number few least) s L → Labelling k cells (grouping_by n other few least) s L
  labelling_same number other same m = record {
    clear = record { clear = λ p q r lp lq lr ep eq er. m.clear.clear p q r lp lq lr (same p lp ∙ ep) (same q lq ∙ eq) (same r lr ∙ er) };
    fits = m.fits;
  }

  module _ (number other : ℕ → ℕ) (same : (q : ℕ) → q < n → number q ≡ other q) where
    members_same : (s : ℕ) → members k cells (grouping_by n other few least) s ≡ members k cells (grouping_by n number few least) s
    members_same s = how_many_same (λ (q : ℕ). eqb (number q) s) (λ (q : ℕ). eqb (other q) s) n (λ q l. ap (λ (v : ℕ). eqb v s) (sym (same q l)))

    enough_same : (s : ℕ) → few ≤ members k cells (grouping_by n number few least) s → few ≤ members k cells (grouping_by n other few least) s
    enough_same s l = omega (arith, members_same s)

    component_same : {s : ℕ} {es : List Entry} → Component k cells (grouping_by n number few least) s es → Component k cells (grouping_by n other few least) s es
    component_same {s} c = record { enough = enough_same s c.enough; L = c.L; labelling = labelling_same number other same c.labelling; listed = c.listed; corners = c.corners }

    dropped_same : {s : ℕ} → Dropped k cells (grouping_by n number few least) s → Dropped k cells (grouping_by n other few least) s
    dropped_same {s} (few_cells l) = few_cells (omega (arith, members_same s))
    dropped_same {s} (no_labelling l r) = no_labelling (enough_same s l) (λ L m. r L (labelling_same other number (λ q b. sym (same q b)) m))
    dropped_same {s} (few_corners l L m es o c) = few_corners (enough_same s l) L (labelling_same number other same m) es o c

    components_same : (m : ℕ) (out : List (List Entry)) → m ≤ n → Components k cells (grouping_by n number few least) m out → Components k cells (grouping_by n other few least) m out
    components_same m out b start = start
    components_same m out b (within {m = p} c e) = within (components_same p out (omega arith) c) (λ f. e (same p (omega arith) ∙ f))
    components_same m out b (dropped {m = p} c e d) = dropped (components_same p out (omega arith) c) (sym (same p (omega arith)) ∙ e) (dropped_same d)
    components_same m out b (kept {m = p} {out = rest} c e d) = kept (components_same p rest (omega arith) c) (sym (same p (omega arith)) ∙ e) (component_same d)

-- ---- the answer

-- the components under any numbering of the groups
pub components_under : (i : Input) (out : List (List Entry)) (number : ℕ → ℕ) → GroupsOf i number → Answer i out → Components quads i.quads (grouping i number) (quad_count i) out
components_under i out number G a =
    components_same quads i.quads (quad_count i) i.params.quads i.params.corners a.number number (λ q l. one_answer a.groups G l) (quad_count i) out (omega arith) a.components

pub one_out : (i : Input) (out other : List (List Entry)) → Answer i out → Answer i other → out ≡ other
one_out i out other a b = components_determined quads i.quads (grouping i b.number) quad_laws (components_under i out b.number b.groups a) b.components

-- ---- the outcome

pub determined : (i : Input) (work components entries : List ℕ) (o p : Outcome) → Allowed i work components entries o → Allowed i work components entries p → o ≡ p
determined i work components entries o p (refused why e) (refused other f) =
    ap (λ (w : Refusal). record { answer = Err w; work = work; components = components; entries = entries }) (one_why (entry_gate i (length work)) why other e f)
determined i work components entries o p (refused why e) (labelled f out a) = absurd (shut_open (entry_gate i (length work)) why e f)
determined i work components entries o p (labelled e out a) (refused why f) = absurd (shut_open (entry_gate i (length work)) why f e)
determined i work components entries o p (labelled e out a) (labelled f other b) =
    ap (λ (l : List (List Entry)). outcome_by (room_row (length components) (length l) then entries_row (length entries) (length (all_entries l))) l work components entries) (one_out i out other a b)
