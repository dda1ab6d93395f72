-- The side table in order: its rearrangement by the keys has a record of every side, and the keys ascend. Assumes nothing.
use mathlib.Core.Path.{◌≡◌, refl, sym, ap, ◌∙◌}
use mathlib.Core.Bool.{Bool, true, false, cond}
use mathlib.Core.List.{List}
use Prim.Native.Nat.{ℕ, ◌+◌, ◌*◌, ◌/◌, ◌%◌, ◌<◌}
use native.Mathlib.Nat.{mod-lt}
use native.Mathlib.Omega.{arith}
use Rattle.words.specs.inner.Order.{Ordered, key_of}
use Rattle.words.proofs.Cuts.{ascends}
use Rattle.cells.specs.Cells.{cell}
use Rattle.cells.specs.inner.Table.{unmarked, table_at, spare_at, Sound}
use Rattle.cells.specs.inner.Sides.{key_at, number_at, side_key, table_key, Stands, Tabled, Tabulated}
use Rattle.cells.proofs.Places.{cell_before, place_below, some_place}
use Rattle.cells.proofs.Keys.{small_key}

pub corner_small : {size : ℕ} {cells : List ℕ} {n : ℕ} → Sound size cells n → (q i : ℕ) → q < n → cell size cells q i < 4096
corner_small {size} {cells} {n} S q i h =
    let in_cell : i % size < size = mod-lt i (omega (arith, S.least)) in
    S.corners (size * q + i % size) (omega (arith, S.whole, cell_before size q n h))

small_table_key : {size : ℕ} {cells : List ℕ} {n : ℕ} → Sound size cells n → (xs : List ℕ) (q i : ℕ) → q < n → table_key size cells xs q i < 16777216
small_table_key {size} {cells} {n} S xs q i h = go (unmarked xs q)
  where
    go : (takes : Bool) → cond takes (side_key size cells q i) 0 < 16777216
    go true = small_key (cell size cells q i) (cell size cells q (i + 1)) (corner_small S q i h) (corner_small S q (i + 1) h)
    go false = omega arith

low_bits : (x : ℕ) → x < 16777216 → x % 16777216 ≡ x
low_bits x h = omega arith

module _ (size : ℕ) (cells : List ℕ) (n : ℕ) (xs ys zs : List ℕ) (S : Sound size cells n) (T : Tabled size cells n xs ys (size * n)) (O : Ordered (key_of ys (table_at n)) ys zs (table_at n) (spare_at size n) (size * n)) where
  moved : (j k q i : ℕ) → k < size * n → O.order.from k ≡ j → Stands size cells n xs ys j q i → Stands size cells n xs zs k q i
  moved j k q i h e s = record {
    place = h;
    has = s.has;
    small = s.small;
    key = O.words k 0 h (omega arith) ∙ ap (key_at n ys) e ∙ s.key;
    number = O.words k 1 h (omega arith) ∙ ap (number_at n ys) e ∙ s.number;
  }

  by_cells : (k : ℕ) → k < size * n → Stands size cells n xs ys k (k / size) (k % size)
  by_cells k h =
      let w = some_place size n k h in
      rw w.2 at (T.stands (k / size) (k % size) w.1 w.0 (omega (arith, w.2)))

  small_words : (k : ℕ) → k < size * n → key_at n ys k < 16777216
  small_words k h = let s = by_cells k h in rw s.key (small_table_key S xs (k / size) (k % size) s.has)

  -- the key that orders a record is its first word
  orders : (k : ℕ) → k < size * n → key_of ys (table_at n) (O.order.from k) ≡ key_at n zs k
  orders k h = low_bits _ (small_words (O.order.from k) (O.order.from_lt k h)) ∙ sym (O.words k 0 h (omega arith))

  pub tabulated : Tabulated size cells n xs zs
  tabulated = record {
    kept = record {
      len = O.len ∙ T.kept.len;
      rest = λ k o. O.rest k (λ j l. o j (omega arith)) (λ j l e. o (2 * (size * n) + j) (omega arith) (omega arith)) ∙ T.kept.rest k (λ j l. o j (omega arith));
    };
    table = record {
      cell_of = λ k. O.order.from k / size;
      side_of = λ k. O.order.from k % size;
      place_of = λ q i. O.order.to (size * q + i);
      is = λ k h. moved (O.order.from k) k (O.order.from k / size) (O.order.from k % size) h refl (by_cells (O.order.from k) (O.order.from_lt k h));
      at = λ q i hq hi.
          let l : size * q + i < size * n = place_below size n q i hq hi in
          moved (size * q + i) (O.order.to (size * q + i)) q i (O.order.to_lt (size * q + i) l) (O.order.from_to (size * q + i) l) (T.stands q i hi hq l);
      ascends = λ j k l h. rw (orders j (omega arith), orders k h) at (ascends O.order j k l h);
    };
  }
