-- Demand 3 for a frame: what crates/walk shows of `label_components` holds of the quads that the filters keep, since the outcome of a call
-- that rows 1 to 8 let through is one that labelling these quads allows. It is of the words in the caller's lists after a call that is done,
-- and of what rows 9 and 10 say is wanted. All of it follows from the contract `Allowed`, whose outcome is the only one (`determined`); that
-- assignments agree (`only`), and seeds (`one_seed`), is walk's as it stands. Assumes nothing.
use Rattle.std.specs.Prelude.{Err}
use Rattle.walk.specs.Call.{wrote}
use mathlib.Core.Path.{◌≡◌}
use mathlib.Core.List.{List}
use Prim.Native.Nat.{ℕ, ◌+◌, ◌/◌, ◌≤◌, ◌<◌}
use lib.ListN.{length}
use Rattle.std.specs.Prelude.{Ok}
use Rattle.refusal.specs.declared.Refusal.TheVariants.{RecordsShort, EntriesShort}
use Rattle.refusal.proofs.Rows.{shut_open}
use Rattle.cells.specs.Kind.{Pair, Fits}
use Rattle.cells.specs.Listed.{Component}
use Rattle.cells.specs.Counted.{Exactly}
use Rattle.cells.specs.Sums.{total}
use Rattle.cells.specs.Holes.{holes}
use Rattle.cells.specs.Quads.{quads}
use Rattle.filter.specs.Marks.{Marked, kept_of}
use Rattle.walk.specs.Input as labels
use Rattle.walk.specs.Input.{quad_count, GroupsOf, grouping}
use Rattle.walk.specs.Call as labelling_call
use Rattle.walk.specs.Call.{Outcome}
use Rattle.walk.specs.Call.Allowed.{labelled as labelled_quads}
use Rattle.walk.specs.Read.{entry_at, before_of, count_of, holes_of, component_at, components_from}
use Rattle.walk.specs.Demanded.{Place, Demanded, Yields, Seeds, Decided, Lists}
use Rattle.walk.specs.Wanted.{Wanted, ByRoom}
use Rattle.walk.proofs.Success.{refused_done}
use Rattle.walk.proofs.Early.{not_9, not_10}
use Rattle.walk.proofs.Demand as walk
pub use Rattle.walk.proofs.Demand.{only, one_seed}
use Rattle.frame.specs.Stages.{Input, filtering, labelling, Answer}
use Rattle.frame.specs.Call.{entry_gate, Allowed}
use Rattle.frame.specs.Call.Allowed.{refused, labelled}
pub use Rattle.frame.proofs.Determined.{determined}
use Rattle.frame.proofs.Determined.{labelled_under}
use Rattle.frame.proofs.Through.{kept_through}
use Rattle.frame.proofs.Early.{entry_early}

-- what labelling reads, where the marks of the filters are these
abbrev pub read : Input → List ℕ → labels.Input
read i marks = labelling i (kept_of (filtering i) marks)

-- ---- a call that rows 1 to 8 let through

-- its outcome is one that labelling the quads kept allows
as_labelled : (i : Input) (work components entries : List ℕ) (o : Outcome) → Allowed i work components entries o → entry_gate i (length work) ≡ Ok tt
    → (marks : List ℕ) → Marked (filtering i) marks → labelling_call.Allowed (read i marks) work components entries o
as_labelled i work components entries o (refused why e) through marks marked = absurd (shut_open (entry_gate i (length work)) why e through)
as_labelled i work components entries o (labelled e out a) through marks marked = labelled_quads (kept_through i _ e marks) out (labelled_under i out marks marked a)

-- there are such marks
marks_of : (i : Input) (work components entries : List ℕ) (o : Outcome) → Allowed i work components entries o → entry_gate i (length work) ≡ Ok tt → (marks : List ℕ) × Marked (filtering i) marks
marks_of i work components entries o (refused why e) through = absurd (shut_open (entry_gate i (length work)) why e through)
marks_of i work components entries o (labelled e out a) through = (a.marks, a.marked)

open_done : (i : Input) (work components entries : List ℕ) (o : Outcome) → Allowed i work components entries o → (k l : ℕ) → o.answer ≡ wrote k l → entry_gate i (length work) ≡ Ok tt
open_done i work components entries o (refused why e) k l done = absurd (refused_done why k l done)
open_done i work components entries o (labelled e out a) k l done = e

open_by_9 : (i : Input) (work components entries : List ℕ) (o : Outcome) → Allowed i work components entries o → (w : ℕ) → o.answer ≡ Err (RecordsShort w) → entry_gate i (length work) ≡ Ok tt
open_by_9 i work components entries o (refused why e) w f = absurd (not_9 (entry_gate i (length work)) (entry_early i (length work)) why w e f)
open_by_9 i work components entries o (labelled e out a) w f = e

open_by_10 : (i : Input) (work components entries : List ℕ) (o : Outcome) → Allowed i work components entries o → (w : ℕ) → o.answer ≡ Err (EntriesShort w) → entry_gate i (length work) ≡ Ok tt
open_by_10 i work components entries o (refused why e) w f = absurd (not_10 (entry_gate i (length work)) (entry_early i (length work)) why w e f)
open_by_10 i work components entries o (labelled e out a) w f = e

-- ---- a call that is done

-- it answered k components and l entries
module _ (i : Input) (work components entries : List ℕ) (o : Outcome) (allowed : Allowed i work components entries o) (k l : ℕ) (done : o.answer ≡ wrote k l) where
  -- there are marks of the filters, and `marks_determined` of crates/filter says that they are the only ones
  pub filtered : (marks : List ℕ) × Marked (filtering i) marks
  filtered = marks_of i work components entries o allowed (open_done i work components entries o allowed k l done)

  -- under these, the outcome is one that labelling the quads kept allows
  pub taken : (marks : List ℕ) → Marked (filtering i) marks → labelling_call.Allowed (read i marks) work components entries o
  taken = as_labelled i work components entries o allowed (open_done i work components entries o allowed k l done)

  -- what the lists read as is the answer
  pub answered : Answer i (components_from o.components o.entries 0 k)
  answered = let (marks, marked) = filtered in record { marks = marks; marked = marked; labelled = walk.answered (read i marks) work components entries o (taken marks marked) k l done }

  -- the third word of a component is the count of its holes
  pub holes_counted : (j : ℕ) → j < k → holes_of o.components j ≡ holes (component_at o.components o.entries j)
  holes_counted = let (marks, marked) = filtered in walk.holes_counted (read i marks) work components entries o (taken marks marked) k l done

  -- its first word is the number of entries of the components before it
  pub starts : (j : ℕ) → j < k → before_of o.components j ≡ total (count_of o.components) j
  starts = let (marks, marked) = filtered in walk.starts (read i marks) work components entries o (taken marks marked) k l done

  pub in_all : l ≡ total (count_of o.components) k
  in_all = let (marks, marked) = filtered in walk.in_all (read i marks) work components entries o (taken marks marked) k l done

  -- under the marks, and the numbers of the groups of the quads kept: `answered` gives both
  module _ (marks : List ℕ) (marked : Marked (filtering i) marks) (number : ℕ → ℕ) (groups : GroupsOf (read i marks) number) where
    -- k is the number of groups that have all that is demanded, and l the sum of their lone corners
    pub amounts : Wanted (read i marks) number k l
    amounts = walk.amounts (read i marks) work components entries o (taken marks marked) k l done number groups

    -- of the lowest quads of these groups in order, which `amounts` gives and which are the only ones (`one_seed`)
    module _ (seed : ℕ → ℕ) (seeds : Seeds (read i marks) number k seed) where
      -- component j, as it is read, is of the group of lowest quad seed j
      pub of_a_group : (j : ℕ) → j < k → Component quads (read i marks).quads (grouping (read i marks) number) (seed j) (component_at o.components o.entries j)
      of_a_group = walk.of_a_group (read i marks) work components entries o (taken marks marked) k l done number groups seed seeds

      -- components are in the order of their groups' lowest quads, and no group has two
      pub in_order : (j m : ℕ) → j < m → m < k → seed j < seed m
      in_order = walk.in_order (read i marks) work components entries o (taken marks marked) k l done number groups seed seeds

      -- a group has a component exactly when it has all that is demanded
      pub exists : (s : ℕ) → s < quad_count (read i marks) → number s ≡ s
          → (Place k (λ j. seed j ≡ s) → Demanded (read i marks) number s) × (Demanded (read i marks) number s → Place k (λ j. seed j ≡ s))
      exists = walk.exists (read i marks) work components entries o (taken marks marked) k l done number groups seed seeds

      -- and where it has none, what it lacks
      pub decided : (s : ℕ) → s < quad_count (read i marks) → number s ≡ s → Decided (read i marks) number k seed s
      decided = walk.decided (read i marks) work components entries o (taken marks marked) k l done number groups seed seeds

      -- under every assignment that fits, component j lists exactly the lone corners with their shifted pairs
      pub exactly_the_lone : (j : ℕ) → j < k → (L : ℕ → Pair) → Fits quads (read i marks).quads (seed j) L
          → Lists (read i marks).quads (seed j) L (λ p. entry_at o.entries (before_of o.components j + p)) (count_of o.components j)
      exactly_the_lone = walk.exactly_the_lone (read i marks) work components entries o (taken marks marked) k l done number groups seed seeds

-- ---- rows 9 and 10

module _ (i : Input) (work components entries : List ℕ) (o : Outcome) (allowed : Allowed i work components entries o) where
  -- a call that rows 1 to 8 let through: there are marks of the filters, and numbers of the groups of the quads kept
  module _ (through : entry_gate i (length work) ≡ Ok tt) where
    pub grouped : (marks : List ℕ) × (Marked (filtering i) marks × ((number : ℕ → ℕ) × GroupsOf (read i marks) number))
    grouped =
        let (marks, marked) = marks_of i work components entries o allowed through in
        (marks, (marked, walk.grouped (read i marks) work components entries o (as_labelled i work components entries o allowed through marks marked) (kept_through i _ through marks)))

    module _ (marks : List ℕ) (marked : Marked (filtering i) marks) (number : ℕ → ℕ) (groups : GroupsOf (read i marks) number) where
      -- so many records and entries are wanted
      pub wanted : (k : ℕ) × ((l : ℕ) × Wanted (read i marks) number k l)
      wanted = walk.wanted (read i marks) work components entries o (as_labelled i work components entries o allowed through marks marked) (kept_through i _ through marks) number groups

      -- it is refused by row 9 exactly when there is room for fewer records, and by row 10 exactly when there is room for these but not for
      -- the entries; else it is done
      pub by_room : (k l : ℕ) → Wanted (read i marks) number k l → ByRoom (length components / 3) (length entries / 3) k l o.answer
      by_room = walk.by_room (read i marks) work components entries o (as_labelled i work components entries o allowed through marks marked) (kept_through i _ through marks) number groups

  module _ (marks : List ℕ) (marked : Marked (filtering i) marks) (number : ℕ → ℕ) (groups : GroupsOf (read i marks) number) (w : ℕ) where
    -- row 9: w groups have all that is demanded, and there is room for fewer
    pub records_wanted : o.answer ≡ Err (RecordsShort w) → Exactly (Yields (read i marks) number) w × (length components / 3 < w)
    records_wanted e = walk.records_wanted (read i marks) work components entries o (as_labelled i work components entries o allowed (open_by_9 i work components entries o allowed w e) marks marked) number groups w e

    -- row 10: the lone corners of the groups that have all that is demanded are w in all; there is room for the groups, but for fewer entries
    pub entries_wanted : o.answer ≡ Err (EntriesShort w) → (k : ℕ) × (Wanted (read i marks) number k w × (k ≤ length components / 3) × (length entries / 3 < w))
    entries_wanted e = walk.entries_wanted (read i marks) work components entries o (as_labelled i work components entries o allowed (open_by_10 i work components entries o allowed w e) marks marked) number groups w e
