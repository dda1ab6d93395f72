-- Demand 3. Of the words in the caller's lists after a call that is done: a group has a component exactly when it has all that is demanded,
-- which is when its fate is to be kept; its assignment is the only one, its component lists exactly the lone corners, the holes are counted.
-- Of rows 9 and 10: what they say is wanted is the number of those groups, and the sum of their lone corners. All of it follows from the
-- contract `Allowed`, whose outcome is the only one (`determined`). Assumes nothing.
use Rattle.std.specs.Prelude.{Err}
use Rattle.walk.specs.Call.{wrote}
use mathlib.Core.Path.{◌≡◌, refl, sym, ap, ◌∙◌, subst}
use mathlib.Core.Bool.{true}
use mathlib.Core.Logic.{◌⊎◌, inl, inr}
use mathlib.Core.List.{List}
use Prim.Native.Nat.{ℕ, ◌+◌, ◌/◌, ◌≤◌, ◌<◌}
use native.Mathlib.Omega.{arith}
use lib.ListN.{length}
use Rattle.std.specs.Prelude.{Ok}
use Rattle.refusal.specs.declared.Refusal.TheVariants.{RecordsShort, EntriesShort}
use Rattle.cells.specs.Kind.{Pair, ReachedCorner, Fits}
use Rattle.cells.specs.Counted.{Exactly}
use Rattle.cells.specs.Sums.{total}
use Rattle.cells.specs.Holes.{holes}
use Rattle.cells.specs.Listed.{Component}
use Rattle.cells.specs.Quads.{quads}
use Rattle.cells.proofs.Unique.{one_labelling}
use Rattle.cells.proofs.Squares.{quad_laws}
use Rattle.fates.specs.declared.Fate.{Fate}
use Rattle.fates.specs.Judged.{Becomes, is_kept}
use Rattle.walk.specs.Input.{Input, quad_count, GroupsOf, grouping, Answer}
use Rattle.walk.specs.Call.{entry_gate, Outcome, Allowed}
use Rattle.walk.specs.Read.{entry_at, before_of, count_of, holes_of, component_at, components_from}
use Rattle.walk.specs.Demanded.{Place, Demanded, Yields, Seeds, Lacks, Decided, Lists}
use Rattle.walk.specs.Demanded.Decided.{kept, dropped}
use Rattle.walk.specs.Wanted.{Wanted, ByRoom}
pub use Rattle.walk.proofs.Determined.{determined}
pub use Rattle.walk.proofs.Seeds.{one_seed}
use Rattle.walk.proofs.Seeds.{exactly_yields}
use Rattle.walk.proofs.ReadBack.{reads_back, component_is, holes_of_lem, starts_at, entries_in_all}
use Rattle.walk.proofs.ByPlace.{lists, entries_count, entries_are}
use Rattle.walk.proofs.Success.{Success, success}
use Rattle.walk.proofs.Reasons.{listed_under, not_both}
use Rattle.walk.proofs.ByFate.{kept_demanded, demanded_kept}
use Rattle.walk.proofs.Wanted as want
use Rattle.walk.proofs.Early.{open_by_9, open_by_10}
use Rattle.walk.proofs.ByRoom.{Passed, passed, told_by_9, told_by_10}

-- two assignments that fit from a quad agree on every corner reached from it
pub only : (cells : List ℕ) (s c : ℕ) (L M : ℕ → Pair) → Fits quads cells s L → Fits quads cells s M → ReachedCorner quads cells s c → L c ≡ M c
only cells s c L M f g r = one_labelling quads quad_laws cells f g r

-- ---- a call that is done

-- it answered k components and l entries
module _ (i : Input) (work components entries : List ℕ) (o : Outcome) (allowed : Allowed i work components entries o) (k l : ℕ) (done : o.answer ≡ wrote k l) where
  written : Success i o k l
  written = success i work components entries o k l allowed done

  -- what the lists read as is the answer
  pub answered : Answer i (components_from o.components o.entries 0 k)
  answered =
      let s = written in
      subst (Answer i) (sym (reads_back o.components o.entries s.out s.past s.rest s.components s.entries) ∙ ap (components_from o.components o.entries 0) (sym s.count)) s.answer

  -- the third word of a component is the count of its holes
  pub holes_counted : (j : ℕ) → j < k → holes_of o.components j ≡ holes (component_at o.components o.entries j)
  holes_counted j h = let s = written in holes_of_lem o.components o.entries s.out s.past s.rest s.components s.entries j (omega (arith, s.count))

  -- its first word is the number of entries of the components before it
  pub starts : (j : ℕ) → j < k → before_of o.components j ≡ total (count_of o.components) j
  starts j h = let s = written in starts_at o.components o.entries s.out s.past s.rest s.components s.entries j (omega (arith, s.count))

  pub in_all : l ≡ total (count_of o.components) k
  in_all =
      let s = written in
      s.total ∙ entries_in_all o.components o.entries s.out s.past s.rest s.components s.entries ∙ ap (total (count_of o.components)) (sym s.count)

  -- under the numbers of the groups, which `answered` gives and which are the only ones
  module _ (number : ℕ → ℕ) (groups : GroupsOf i number) where
    -- k is the number of groups that have all that is demanded, and l the sum of their lone corners
    pub amounts : Wanted i number k l
    amounts = let s = written in want.amounts_are s.count s.total (want.wanted groups s.answer)

    -- of the lowest quads of these groups in order, which `amounts` gives and which are the only ones (`one_seed`)
    module _ (seed : ℕ → ℕ) (seeds : Seeds i number k seed) where
      -- components are in the order of their groups' lowest quads, and no group has two
      pub in_order : (j m : ℕ) → j < m → m < k → seed j < seed m
      in_order = seeds.rises

      -- component j, as it is read, is of the group of lowest quad seed j
      pub of_a_group : (j : ℕ) → j < k → Component quads i.quads (grouping i number) (seed j) (component_at o.components o.entries j)
      of_a_group j h =
          let s = written in
          let b : j < length s.out = omega (arith, s.count) in
          rw (component_is o.components o.entries s.out s.past s.rest s.components s.entries j b) (want.component_of groups s.answer seeds j b)

      -- a group has a component exactly when it has all that is demanded
      pub exists : (s : ℕ) → s < quad_count i → number s ≡ s → (Place k (λ j. seed j ≡ s) → Demanded i number s) × (Demanded i number s → Place k (λ j. seed j ≡ s))
      exists s h e = (λ p. subst (Demanded i number) p.is (seeds.each p.at p.small).demanded, λ d. seeds.every s (record { small = h; lowest = e; demanded = d }))

      -- and where it has none, what it lacks
      pub decided : (s : ℕ) → s < quad_count i → number s ≡ s → Decided i number k seed s
      decided s h e = go (want.has_or_lacks groups written.answer s h e)
        where
          go : Demanded i number s ⊎ Lacks i number s → Decided i number k seed s
          go (inl d) = kept ((exists s h e).1 d) d
          go (inr m) = dropped (λ p. not_both i number s m ((exists s h e).0 p)) m

      -- and exactly when its fate is to be kept
      pub kept_yields : (s : ℕ) → s < quad_count i → number s ≡ s → (f : Fate) → Becomes i.quads (grouping i number) s f
          → (Place k (λ j. seed j ≡ s) → is_kept f ≡ true) × (is_kept f ≡ true → Place k (λ j. seed j ≡ s))
      kept_yields s h e f b = (λ p. demanded_kept i number s f b e ((exists s h e).0 p), λ t. (exists s h e).1 (kept_demanded i number s f b t))

      -- under every assignment that fits, component j lists exactly the lone corners with their shifted pairs
      pub exactly_the_lone : (j : ℕ) → j < k → (L : ℕ → Pair) → Fits quads i.quads (seed j) L
          → Lists i.quads (seed j) L (λ p. entry_at o.entries (before_of o.components j + p)) (count_of o.components j)
      exactly_the_lone j h L f =
          let c = of_a_group j h in
          let es = component_at o.components o.entries j in
          lists i.quads (seed j) L es (listed_under i.quads (seed j) L c.L es f c.labelling.fits c.listed) (count_of o.components j) (λ p. entry_at o.entries (before_of o.components j + p))
          (entries_count o.entries (before_of o.components j) (count_of o.components j))
          (entries_are o.entries (before_of o.components j) (count_of o.components j))

-- ---- rows 9 and 10

module _ (i : Input) (work components entries : List ℕ) (o : Outcome) (allowed : Allowed i work components entries o) where
  -- a call that rows 1 to 8 let through: there are numbers of the groups, and `one_answer` of crates/cells says that they are the only ones
  module _ (through : entry_gate i (length work) ≡ Ok tt) where
    passes : Passed i components entries o.answer
    passes = passed i work components entries o allowed through

    pub grouped : (number : ℕ → ℕ) × GroupsOf i number
    grouped = let a = passes.is in (a.number, a.groups)

    -- so many records and entries are wanted
    pub wanted : (number : ℕ → ℕ) → GroupsOf i number → (k : ℕ) × ((l : ℕ) × Wanted i number k l)
    wanted number groups = (_, (_, want.wanted groups passes.is))

    -- it is refused by row 9 exactly when there is room for fewer records, and by row 10 exactly when there is room for these but not for
    -- the entries; else it is done
    pub by_room : (number : ℕ → ℕ) → GroupsOf i number → (k l : ℕ) → Wanted i number k l → ByRoom (length components / 3) (length entries / 3) k l o.answer
    by_room number groups k l w =
        let own = want.wanted groups passes.is in
        rw (want.as_many_records w own, want.as_many_entries w own) passes.room

  module _ (number : ℕ → ℕ) (groups : GroupsOf i number) (w : ℕ) where
    -- row 9: w groups have all that is demanded, and there is room for fewer
    pub records_wanted : o.answer ≡ Err (RecordsShort w) → Exactly (Yields i number) w × (length components / 3 < w)
    records_wanted e =
        let through = open_by_9 i work components entries o allowed w e in
        let (k, (l, a)) = wanted through number groups in
        let t = told_by_9 (by_room through number groups k l a) w e in
        rw (← t.0) (exactly_yields a.seeds, t.1)

    -- row 10: the lone corners of the groups that have all that is demanded are w in all; there is room for the groups, but for fewer entries
    pub entries_wanted : o.answer ≡ Err (EntriesShort w) → (k : ℕ) × (Wanted i number k w × (k ≤ length components / 3) × (length entries / 3 < w))
    entries_wanted e =
        let through = open_by_10 i work components entries o allowed w e in
        let (k, (l, a)) = wanted through number groups in
        let t = told_by_10 (by_room through number groups k l a) w e in
        (k, (want.amounts_are refl (sym t.0) a, t.1, omega (arith, t.0, t.2)))
