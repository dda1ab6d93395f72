-- From the groups of the quads, their records, the records in order, the lengths by group and the middle one of each run: the groups of the
-- records ascend, and each group's median stands in its place, while marks, groups and lengths are as they were. Assumes nothing.
use mathlib.Core.Path.{◌≡◌, sym, ap, ◌∙◌}
use mathlib.Core.List.{List}
use Prim.Native.Nat.{ℕ, ◌+◌, ◌*◌, ◌/◌, ◌≤◌, ◌<◌}
use native.Mathlib.Omega.{arith}
use lib.ListN.{length, get_or}
use Rattle.words.specs.inner.Regions.{Outside}
use Rattle.words.specs.Sorting.{Sorting}
use Rattle.words.specs.inner.Order.{word_of, Ordered, group_of, short_of}
use Rattle.words.proofs.Cuts.{ascends}
use Rattle.cells.proofs.Groups.{groups_same}
use Rattle.mesh.specs.Lists.{most_quads}
use Rattle.cells.specs.inner.Table.{groups_at}
use Rattle.cells.specs.inner.Sides.{Grouped}
use Rattle.filter.specs.inner.Layout.{records_at, ordering_at, gathered_at, lengths_at, medians_at}
use Rattle.filter.specs.inner.Steps.{Recorded, Gathered, Rising, MedianAt, Centred, MiddleWord, Weighed}
use Rattle.filter.proofs.Middle.{middle_word}

module _ (quads : List ℕ) (n : ℕ) (xs gs rs os : List ℕ) (few : n ≤ most_quads) (grouped : Grouped 4 quads n xs gs) (recorded : Recorded n n gs rs) (sorted : Ordered (short_of rs (records_at n)) rs os (records_at n) (ordering_at n) n) where
  -- the group of a quad is below n
  small : (q : ℕ) → q < n → get_or gs (groups_at n + q) 0 < n
  small q h = omega (arith, grouped.groups.lowest q h)

  key_is : (q : ℕ) → q < n → group_of rs (records_at n) q ≡ get_or gs (groups_at n + q) 0
  key_is q h = omega (arith, recorded.groups q h, small q h)

  -- quads of one group are in their order: the numbers of the records ascend
  short_is : (q : ℕ) → q < n → short_of rs (records_at n) q ≡ get_or gs (groups_at n + q) 0 * 4096 + q
  short_is q h = omega (arith, recorded.numbers q h, recorded.groups q h, small q h)

  unfoldable order : Sorting (group_of rs (records_at n)) n
  order = record {
    from = sorted.order.from;
    to = sorted.order.to;
    from_lt = sorted.order.from_lt;
    to_lt = sorted.order.to_lt;
    from_to = sorted.order.from_to;
    to_from = sorted.order.to_from;
    lower = λ i j p q l. sorted.order.lower i j p q (omega (arith, short_is i p, short_is j q, key_is i p, key_is j q));
    stable = λ i j l q e. let p : i < n = omega arith in sorted.order.lower i j p q (omega (arith, short_is i p, short_is j q, key_is i p, key_is j q));
  }

  -- the quad whose record stands at place k, and its group
  number_at : (k : ℕ) → k < n → word_of os (records_at n) 0 k ≡ order.from k
  unfolding order
  number_at k h = sorted.words k 0 h (omega arith) ∙ recorded.numbers (order.from k) (order.from_lt k h)

  group_at : (k : ℕ) → k < n → word_of os (records_at n) 1 k ≡ get_or gs (groups_at n + order.from k) 0
  unfolding order
  group_at k h = sorted.words k 1 h (omega arith) ∙ recorded.groups (order.from k) (order.from_lt k h)

  pub numbers_small : (k : ℕ) → k < n → word_of os (records_at n) 0 k < n
  numbers_small k h = omega (arith, number_at k h, order.from_lt k h)

  -- before the records and past the lengths by group nothing moves
  still_sorted : (k : ℕ) → Outside (records_at n) (8 * n) k → get_or os k 0 ≡ get_or gs k 0
  still_sorted k o = sorted.rest k (λ j l e. o j (omega arith) e) (λ j l e. o (2 * n + j) (omega arith) (omega arith)) ∙ recorded.kept.rest k (λ j l e. o j (omega arith) e)

  module _ (ls : List ℕ) (gathered : Gathered n os ls) where
    -- the records have not moved
    record_still : (c k : ℕ) → c < 2 → k < n → word_of ls (records_at n) c k ≡ word_of os (records_at n) c k
    record_still c k b h = gathered.kept.rest (records_at n + 2 * k + c) (λ j l e. omega arith)

    group_in_lem : (k : ℕ) → k < n → word_of ls (records_at n) 1 k ≡ get_or gs (groups_at n + order.from k) 0
    group_in_lem k h = record_still 1 k (omega arith) h ∙ group_at k h

    pub rises : Rising n ls
    rises = record { rising = go; small = λ k h. rw (group_in_lem k h) (small (order.from k) (order.from_lt k h)) }
      where
        go : (j k : ℕ) → j ≤ k → k < n → word_of ls (records_at n) 1 j ≤ word_of ls (records_at n) 1 k
        go j k h l =
            let i : j < n = omega arith in
            omega (arith, ascends order j k h l, group_in_lem j i, group_in_lem k l, key_is (order.from j) (order.from_lt j i), key_is (order.from k) (order.from_lt k l))

    unmoved_length : (e : ℕ) → e < 4 * n → get_or gs (lengths_at n + e) 0 ≡ get_or xs (lengths_at n + e) 0
    unmoved_length e h = grouped.rest (lengths_at n + e) (omega arith)

    module _ (whole : length quads ≡ 4 * n) (ms : List ℕ) (centred : Centred n n ls ms) where
      still : (k : ℕ) → Outside (records_at n) (8 * n) k → k < medians_at n → get_or ms k 0 ≡ get_or gs k 0
      still k o h =
          centred.rest k (λ j l e. o (4 * n + j) (omega arith) (omega arith)) (λ j l e. omega arith)
          ∙ gathered.kept.rest k (λ j l e. o (4 * n + j) (omega arith) (omega arith)) ∙ still_sorted k o

      still_group : (q : ℕ) → q < n → get_or ms (groups_at n + q) 0 ≡ get_or gs (groups_at n + q) 0
      still_group q h = still (groups_at n + q) (λ j l e. omega arith) (omega arith)

      abbrev group_in : ℕ → ℕ
      group_in q = get_or ms (groups_at n + q) 0

      abbrev length_of : ℕ → ℕ
      length_of e = get_or xs (lengths_at n + e) 0

      -- the length at place j of the four of record k
      length_at : (k j : ℕ) → k < n → j < 4 → get_or ls (gathered_at n + (4 * k + j)) 0 ≡ length_of (4 * order.from k + j)
      length_at k j h b =
          let f = order.from_lt k h in
          gathered.lengths k j h b ∙ ap (λ (q : ℕ). get_or os (lengths_at n + (4 * q + j)) 0) (number_at k h)
          ∙ still_sorted (lengths_at n + (4 * order.from k + j)) (λ i l e. omega arith) ∙ unmoved_length (4 * order.from k + j) (omega arith)

      median : (q : ℕ) → q < n → MedianAt n ls ms (order.to q) → MiddleWord (λ (e : ℕ). group_in (e / 4)) length_of (4 * n) (group_in q) (get_or ms (medians_at n + group_in q) 0)
      median q h m = rw (group_q, group_k) at word
        where
          k : ℕ
          k = order.to q

          word : MiddleWord (λ (e : ℕ). group_in (e / 4)) length_of (4 * n) (word_of ls (records_at n) 1 m.s) (get_or ms (medians_at n + word_of ls (records_at n) 1 k) 0)
          word =
              middle_word group_in length_of (group_of rs (records_at n)) (word_of ls (records_at n) 1) (λ (j : ℕ). get_or ls (gathered_at n + j) 0) n order
              (λ p l. key_is p l ∙ sym (still_group p l))
              (λ j l. group_in_lem j l ∙ sym (still_group (order.from j) (order.from_lt j l)))
              length_at m.s m.e m.run _ m.is

          group_k : word_of ls (records_at n) 1 k ≡ group_in q
          group_k = group_in_lem k (order.to_lt q h) ∙ ap (λ (j : ℕ). get_or gs (groups_at n + j) 0) (order.from_to q h) ∙ sym (still_group q h)

          group_q : word_of ls (records_at n) 1 m.s ≡ group_in q
          group_q = sym (m.run.alike k m.from m.to) ∙ group_k

      pub weighed : Weighed quads n xs ms
      weighed = record {
        len = centred.len ∙ gathered.kept.len ∙ sorted.len ∙ recorded.kept.len ∙ grouped.len;
        marks = λ k h. still k (λ j l e. omega arith) (omega arith) ∙ grouped.marks k h;
        lengths = λ e h. still (lengths_at n + e) (λ j l i. omega arith) (omega arith) ∙ unmoved_length e h;
        groups = groups_same (λ p q e. (omega (arith, e.from), omega (arith, e.to))) (λ q h. sym (still_group q h)) grouped.groups;
        medians = λ q h. median q h (centred.medians (order.to q) (order.to_lt q h));
      }
