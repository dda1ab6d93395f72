-- In the ordered table, neighbours of one key are cells that touch, and cells that touch are linked by such neighbours. Assumes nothing.
use mathlib.Core.Path.{◌≡◌, refl, sym, ap, ◌∙◌}
use mathlib.Core.Bool.{Bool, true, false, cond}
use mathlib.Core.Logic.{◌⊎◌, inl, inr}
use mathlib.Core.List.{List}
use Prim.Native.Nat.{ℕ, zero, suc, ◌+◌, ◌*◌, ◌-◌, ◌/◌, ◌≤◌, ◌<◌}
use native.Mathlib.Nat.{lt_of_mul-lt-mul_left}
use native.Mathlib.Decide.{dec_le}
use native.Mathlib.Omega.{arith}
use lib.ListN.{length}
use Rattle.cells.specs.Cells.{cell, Side, Touch, Has, Neighbours}
use Rattle.cells.specs.Cells.Touch.{alike, opposite}
use Rattle.cells.specs.Groups.{Linked}
use Rattle.cells.specs.Groups.Linked.{same, on}
use Rattle.cells.specs.inner.Table.{unmarked, groups_end, Sound}
use Rattle.cells.specs.inner.Sides.{key_at, number_at, side_key, Stands, InTable, Tabulated, Adjacent, Ready, Named, Grouped}
use Rattle.cells.proofs.Links.{turned}
use Rattle.cells.proofs.Groups.{same_groups}
use Rattle.cells.proofs.Places.{cell_before, next_corner}
use Rattle.cells.proofs.Keys.{equal_ends, turned_ends, proper_key}
use Rattle.cells.proofs.InOrder.{corner_small}
use Rattle.cells.proofs.Adjacent.{same_word}

-- a key that is not 0 is that of a cell that takes part
takes_part : (takes : Bool) (key : ℕ) → (cond takes key 0 ≡ 0 → ⊥) → (takes ≡ true) × (cond takes key 0 ≡ key)
takes_part true key h = (refl, refl)
takes_part false key h = absurd (h refl)

module _ (size : ℕ) (cells : List ℕ) (n : ℕ) (xs ys : List ℕ) (S : Sound size cells n) (L : Tabulated size cells n xs ys) where
  -- the number of a record says its cell
  cell_of_lem : {k q i : ℕ} → Stands size cells n xs ys k q i → number_at n ys k / 4 ≡ q
  cell_of_lem s = omega (arith, s.number, s.small, S.most)

  pub ready : groups_end size n ≤ length ys → Ready n (size * n) ys
  ready room = record {
    few = S.few;
    room = omega arith;
    within = λ k h. rw (cell_of_lem (L.table.is k h)) (L.table.is k h).has;
  }

  has : (q : ℕ) → q < n → Has size cells q
  has q h = rw S.whole (cell_before size q n h)

  side : (q i : ℕ) → i < size → Side size (cell size cells q) (cell size cells q i) (cell size cells q (i + 1))
  side q i h = record { at = i; small = h; starts = refl; ends = next_corner size cells q i }

  one_key_touch : (p i q j : ℕ) → p < n → i < size → q < n → j < size → side_key size cells p i ≡ side_key size cells q j → Touch size (cell size cells p) (cell size cells q)
  one_key_touch p i q j hp hi hq hj e = go (equal_ends (cell size cells p i) (cell size cells p (i + 1)) (cell size cells q j) (cell size cells q (j + 1))
      (corner_small S p i hp) (corner_small S p (i + 1) hp) (corner_small S q j hq) (corner_small S q (j + 1) hq) e)
    where
      go : ((cell size cells p i ≡ cell size cells q j) × (cell size cells p (i + 1) ≡ cell size cells q (j + 1))) ⊎ ((cell size cells p i ≡ cell size cells q (j + 1)) × (cell size cells p (i + 1) ≡ cell size cells q j)) → Touch size (cell size cells p) (cell size cells q)
      go (inl w) = alike (record { at = i; small = hi; starts = w.0; ends = next_corner size cells p i ∙ w.1 }) (side q j hj)
      go (inr w) = opposite (record { at = i; small = hi; starts = w.0; ends = next_corner size cells p i ∙ w.1 }) (side q j hj)

  stands_touch : {k l p i q j : ℕ} → Stands size cells n xs ys k p i → Stands size cells n xs ys l q j → (key_at n ys k ≡ 0 → ⊥) → key_at n ys k ≡ key_at n ys l → Neighbours size cells (unmarked xs) p q
  stands_touch {k} {l} {p} {i} {q} {j} s t z e =
      let one = takes_part (unmarked xs p) (side_key size cells p i) (λ w. z (s.key ∙ w)) in
      let two = takes_part (unmarked xs q) (side_key size cells q j) (λ w. z (e ∙ t.key ∙ w)) in
      record {
        from = has p s.has;
        to = has q t.has;
        from_among = one.0;
        to_among = two.0;
        touch = one_key_touch p i q j s.has s.small t.has t.small (sym one.1 ∙ sym s.key ∙ e ∙ t.key ∙ two.1);
      }

  near_neighbours : (x y : ℕ) → Adjacent n ys (size * n - 1) x y → Neighbours size cells (unmarked xs) x y
  near_neighbours x y r =
      let s = L.table.is r.i (omega (arith, r.small)) in
      let t = L.table.is (r.i + 1) (omega (arith, r.small)) in
      rw (r.left ∙ cell_of_lem s, r.right ∙ cell_of_lem t) (stands_touch s t r.proper r.same)

  -- ---- along a run of one key all are linked

  run : (d j k : ℕ) → k ≡ j + d → k < size * n → (key_at n ys j ≡ 0 → ⊥) → key_at n ys j ≡ key_at n ys k → Linked (Adjacent n ys (size * n - 1)) (number_at n ys j / 4) (number_at n ys k / 4)
  run zero j k e h z same_key =
      let s : k ≡ j = omega arith in
      rw s same
  run (suc d) j k e h z same_key =
      let s : k ≡ j + d + 1 = omega arith in
      let up : key_at n ys j ≤ key_at n ys (j + d) = L.table.ascends j (j + d) (omega arith) (omega arith) in
      let down : key_at n ys (j + d) ≤ key_at n ys k = L.table.ascends (j + d) k (omega arith) h in
      let level : key_at n ys j ≡ key_at n ys (j + d) = omega (arith, same_key) in
      let near : Adjacent n ys (size * n - 1) (number_at n ys (j + d) / 4) (number_at n ys k / 4) =
      record { i = j + d; small = omega arith; proper = λ w. z (level ∙ w); same = sym level ∙ same_key ∙ ap (key_at n ys) s; left = refl; right = ap (λ (t : ℕ). number_at n ys t / 4) s } in
      on (run d j (j + d) refl (omega arith) z level) near

  either_way : (j k : ℕ) → j < size * n → k < size * n → (key_at n ys j ≡ 0 → ⊥) → key_at n ys j ≡ key_at n ys k → Linked (Adjacent n ys (size * n - 1)) (number_at n ys j / 4) (number_at n ys k / 4)
  either_way j k hj hk z e = go (dec_le j k)
    where
      go : Dec (j ≤ k) → Linked (Adjacent n ys (size * n - 1)) (number_at n ys j / 4) (number_at n ys k / 4)
      go (yes l) = run (k - j) j k (omega arith) hk z e
      go (no l) = turned (run (j - k) k j (omega arith) hj (λ w. z (e ∙ w)) (sym e))

  one_key_linked : (p i q j : ℕ) → p < n → i < size → q < n → j < size → unmarked xs p ≡ true → unmarked xs q ≡ true → side_key size cells p i ≡ side_key size cells q j → Linked (Adjacent n ys (size * n - 1)) p q
  one_key_linked p i q j hp hi hq hj mp mq e =
      let s = L.table.at p i hp hi in
      let t = L.table.at q j hq hj in
      let ks : key_at n ys (L.table.place_of p i) ≡ side_key size cells p i = s.key ∙ ap (λ (b : Bool). cond b (side_key size cells p i) 0) mp in
      let kt : key_at n ys (L.table.place_of q j) ≡ side_key size cells q j = t.key ∙ ap (λ (b : Bool). cond b (side_key size cells q j) 0) mq in
      let positive : 0 < side_key size cells p i = proper_key (cell size cells p i) (cell size cells p (i + 1)) (S.proper p i hp hi) in
      rw (cell_of_lem s, cell_of_lem t) at (either_way (L.table.place_of p i) (L.table.place_of q j) s.place t.place (λ w. omega (arith, ks, w)) (ks ∙ e ∙ sym kt))

  end : (q : ℕ) {x y : ℕ} (a : Side size (cell size cells q) x y) → cell size cells q (a.at + 1) ≡ y
  end q a = sym (next_corner size cells q a.at) ∙ a.ends

  below_n : (q : ℕ) → Has size cells q → q < n
  below_n q h = lt_of_mul-lt-mul_left size (omega (arith, S.whole, S.least))

  neighbours_near : (x y : ℕ) → Neighbours size cells (unmarked xs) x y → Linked (Adjacent n ys (size * n - 1)) x y
  neighbours_near x y r = go r.touch
    where
      go : Touch size (cell size cells x) (cell size cells y) → Linked (Adjacent n ys (size * n - 1)) x y
      go (alike a b) = one_key_linked x a.at y b.at (below_n x r.from) a.small (below_n y r.to) b.small r.from_among r.to_among
          (rw (a.starts, end x a, b.starts, end y b))
      go (opposite a b) = one_key_linked x a.at y b.at (below_n x r.from) a.small (below_n y r.to) b.small r.from_among r.to_among
          (rw (a.starts, end x a, b.starts, end y b) (turned_ends _ _))

  -- the table is past the groups, so naming them leaves it as it was
  module _ (zs : List ℕ) (N : Named n (size * n - 1) ys zs) where
    still : {k q i : ℕ} → Stands size cells n xs ys k q i → Stands size cells n xs zs k q i
    still {k} s = record { place = s.place; has = s.has; small = s.small; key = same_word N.kept 0 k ∙ s.key; number = same_word N.kept 1 k ∙ s.number }

    still_table : InTable size cells n xs zs
    still_table = record {
      cell_of = L.table.cell_of;
      side_of = L.table.side_of;
      place_of = L.table.place_of;
      is = λ k h. still (L.table.is k h);
      at = λ q i hq hi. still (L.table.at q i hq hi);
      ascends = λ j k l h. rw (same_word N.kept 0 j, same_word N.kept 0 k) (L.table.ascends j k l h);
    }

  pub grouped : (zs : List ℕ) → Named n (size * n - 1) ys zs → Grouped size cells n xs zs
  grouped zs N = record {
    len = N.kept.len ∙ L.kept.len;
    marks = λ k h. N.kept.rest k (λ j l e. omega arith) ∙ L.kept.rest k (λ j l e. omega arith);
    groups = same_groups (λ x y e. on same (near_neighbours x y e)) neighbours_near N.groups;
    table = still_table zs N;
    rest = λ k h. N.kept.rest k (λ j l e. omega arith) ∙ L.kept.rest k (λ j l e. omega arith);
  }
