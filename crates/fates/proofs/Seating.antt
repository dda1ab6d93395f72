-- The groups and the ordered table of the sides, from the part of the workspace in which they were made to where the walk reads them.
-- Assumes nothing.
use mathlib.Core.Path.{◌≡◌, refl, sym, ap, ◌∙◌}
use mathlib.Core.Bool.{Bool, true, cond}
use mathlib.Core.List.{List}
use Prim.Native.Nat.{ℕ, ◌+◌, ◌*◌, ◌-◌, ◌/◌, ◌%◌, ◌≤◌, ◌<◌}
use native.Mathlib.Omega.{arith}
use borrow.Author.Tests.{eq-eqb}
use borrow.Rule.Slice.PartMut.{mid_of, put_mid, mid_len}
use lib.ListN.{length, get_or}
use Rattle.words.specs.inner.Regions.{Filled}
use Rattle.words.proofs.Regions.{part_at, part_in, part_len}
use Rattle.cells.specs.Cells.{Neighbours, everyone}
use Rattle.cells.specs.Groups.{Groups}
use Rattle.cells.specs.Groups.Linked.{same, on}
use Rattle.cells.specs.inner.Table.{unmarked}
use Rattle.cells.specs.inner.Sides as sides
use Rattle.cells.specs.inner.Sides.{side_key, Stands, Grouped}
use Rattle.cells.proofs.Groups.{same_groups, groups_same}
use Rattle.laying.specs.inner.Layout.{key_at, number_at, Given}
use Rattle.fates.specs.inner.Prepared.{SideTable, Sided}

round : (e q i : ℕ) → e ≡ 4 * q + i → e % 4 ≡ i % 4
round e q i is = omega arith

-- a side's number says its quad and its place in it
side_number : (cells : List ℕ) (e q i : ℕ) → e ≡ 4 * q + i → i < 4 → side_key 4 cells q i ≡ side_key 4 cells (e / 4) e
side_number cells e q i is h =
    let quad : e / 4 ≡ q = omega arith in
    let start : e % 4 ≡ i % 4 = round e q i is in
    let end : (e + 1) % 4 ≡ (i + 1) % 4 = round (e + 1) q (i + 1) (omega arith) in
    rw (quad, start, end)

-- neighbours are two of the n quads
pub inside : {cells : List ℕ} {n : ℕ} (among : ℕ → Bool) → length cells ≡ 4 * n → (p q : ℕ) → Neighbours 4 cells among p q → (p < n) × (q < n)
inside among whole p q r = (omega (arith, r.from), omega (arith, r.to))

-- where no quad is marked, all take part
module _ (cells : List ℕ) (n : ℕ) (ps : List ℕ) (whole : length cells ≡ 4 * n) (blank : (q : ℕ) → q < n → get_or ps q 0 ≡ 0) where
  takes_part : (q : ℕ) → q < n → unmarked ps q ≡ true
  takes_part q h = eq-eqb (get_or ps q 0) 0 (blank q h)

  all_groups : (g : ℕ → ℕ) → Groups (Neighbours 4 cells (unmarked ps)) n g → Groups (Neighbours 4 cells everyone) n g
  all_groups g G = same_groups
      (λ p q r. on same (record { from = r.from; to = r.to; from_among = refl; to_among = refl; touch = r.touch }))
      (λ p q r. let w = inside everyone whole p q r in on same (record { from = r.from; to = r.to; from_among = takes_part p w.0; to_among = takes_part q w.1; touch = r.touch }))
      G

-- the part begins 2 * n words before the table's place, with zero marks
module _ (span : ℕ) (cells : List ℕ) (n : ℕ) (given : Given span cells n) (ws xs : List ℕ) (room : 4 * span + 26 * n ≤ length ws) (zeros : Filled ws xs (4 * span - 2 * n) n n (λ (k : ℕ). 0)) where
  abbrev at : ℕ
  at = 4 * span - 2 * n

  abbrev part : List ℕ
  part = mid_of at (at + 18 * n - at) xs

  fits : at + 18 * n ≤ length xs
  fits = omega (arith, zeros.kept.len, given.few)

  long : length part ≡ 18 * n
  long = mid_len at (at + 18 * n) xs fits ∙ omega arith

  blank : (q : ℕ) → q < n → get_or part q 0 ≡ 0
  blank q h = part_at xs at (at + 18 * n) q (omega arith) ∙ zeros.holds q h

  module _ (ys : List ℕ) (G : Grouped 4 cells n part ys) where
    abbrev back : List ℕ
    back = put_mid at (at + 18 * n - at) xs ys

    returned : length ys ≡ at + 18 * n - at
    returned = G.len ∙ mid_len at (at + 18 * n) xs fits

    seated : (j k : ℕ) → k < 18 * n → j ≡ at + k → get_or back j 0 ≡ get_or ys k 0
    seated j k h e = ap (λ (z : ℕ). get_or back z 0) e ∙ part_in xs ys at (at + 18 * n) (omega arith) fits returned k (omega arith)

    key_seated : (i : ℕ) → i < 4 * n → key_at span back i ≡ sides.key_at n ys i
    key_seated i h = seated (4 * span + 2 * i) (2 * n + 2 * i + 0) (omega arith) (omega (arith, given.few))

    number_seated : (i : ℕ) → i < 4 * n → number_at span back i ≡ sides.number_at n ys i
    number_seated i h = seated (4 * span + 2 * i + 1) (2 * n + 2 * i + 1) (omega arith) (omega (arith, given.few))

    stands : {k q i : ℕ} → Stands 4 cells n part ys k q i → (number_at span back k ≡ 4 * q + i) × (key_at span back k ≡ side_key 4 cells q i)
    stands {k} {q} {i} s = (number_seated k s.place ∙ s.number, key_seated k s.place ∙ s.key ∙ ap (λ (t : Bool). cond t (side_key 4 cells q i) 0) (takes_part cells n part given.whole blank q s.has))

    table : SideTable span cells n back
    table = record {
      sides = λ i h. let s = G.table.is i h in omega (arith, (stands s).0, s.has, s.small);
      keys = λ i h. let s = G.table.is i h in (stands s).1 ∙ side_number cells (number_at span back i) (G.table.cell_of i) (G.table.side_of i) (stands s).0 s.small;
      ascends = λ i j l h. rw (key_seated i (omega arith), key_seated j h) (G.table.ascends i j l h);
      place_of = λ e. G.table.place_of (e / 4) (e % 4);
      small = λ e h. (G.table.at (e / 4) (e % 4) (omega arith) (omega arith)).place;
      is = λ e h. (stands (G.table.at (e / 4) (e % 4) (omega arith) (omega arith))).0 ∙ omega arith;
    }

    pub sided : Sided span cells n ws back
    sided = record {
      len = part_len xs ys at (at + 18 * n) (omega arith) fits returned ∙ zeros.kept.len;
      groups = groups_same (inside everyone given.whole) (λ q h. sym (seated (4 * span - n + q) (n + q) (omega arith) (omega (arith, given.few))))
          (all_groups cells n part given.whole blank (λ (q : ℕ). get_or ys (n + q) 0) G.groups);
      table = table;
    }
