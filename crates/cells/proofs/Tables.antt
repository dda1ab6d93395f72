-- The side table as it is filled: each store makes it longer by a side. Assumes nothing.
use mathlib.Core.Path.{◌≡◌, ap, ◌∙◌}
use mathlib.Core.Bool.{cond}
use mathlib.Core.List.{List}
use Prim.Native.Nat.{ℕ, ◌+◌, ◌*◌, ◌≤◌, ◌<◌}
use native.Mathlib.Decide.{ℕ_discrete}
use native.Mathlib.Omega.{arith}
use lib.Dec.{eqb}
use lib.ListN.{length}
use Rattle.words.specs.inner.Regions.{two}
use Rattle.words.proofs.Moving.{two_cases, two_past, two_kept}
use Rattle.cells.specs.inner.Table.{table_at, groups_end}
use Rattle.cells.specs.inner.Sides.{side_key, table_key, Stands, Tabled}
use Rattle.cells.proofs.Places.{cell_before, own_place}

-- the marks are before the table
same_mark : {size : ℕ} {cells : List ℕ} {n t : ℕ} {xs ys : List ℕ} → Tabled size cells n xs ys t → (q i : ℕ) → q < n → table_key size cells ys q i ≡ table_key size cells xs q i
same_mark {size} {cells} {n} {t} {xs} {ys} T q i h = ap (λ (mark : ℕ). cond (eqb mark 0) (side_key size cells q i) 0) (T.kept.rest q (λ j l e. omega arith))

-- ---- a record more

module _ (size : ℕ) (cells : List ℕ) (n : ℕ) (xs ys : List ℕ) (q i key number : ℕ) (T : Tabled size cells n xs ys (size * q + i)) (hi : i < size) (hq : q < n)
    (room : groups_end size n ≤ length xs) (ek : key ≡ table_key size cells ys q i) (en : number ≡ 4 * q + i) where
  abbrev place : ℕ
  place = 2 * n + 2 * (size * q + i)

  abbrev longer : List ℕ
  longer = two ys place key number

  within : size * q + size ≤ size * n
  within = cell_before size q n hq

  fits : place + 1 < length ys
  fits = omega (arith, within, T.kept.len)

  new : (p j : ℕ) → p ≡ q → j ≡ i → Stands size cells n xs longer (size * p + j) p j
  new p j ep ej = rw (ep, ej) (record {
    place = omega (arith, within);
    has = hq;
    small = hi;
    key = two_cases (λ (z : ℕ). z ≡ table_key size cells xs q i) ys place key number (place + 0) fits (λ e. ek ∙ same_mark T q i hq) (λ e. absurd (omega arith)) (λ a b. absurd (omega (arith, a)));
    number = two_cases (λ (z : ℕ). z ≡ 4 * q + i) ys place key number (place + 1) fits (λ e. absurd (omega arith)) (λ e. en) (λ a b. absurd (omega (arith, b)));
  })

  old : (p j : ℕ) → (size * p + j ≡ size * q + i → ⊥) → Stands size cells n xs ys (size * p + j) p j → Stands size cells n xs longer (size * p + j) p j
  old p j ne s = record {
    place = s.place;
    has = s.has;
    small = s.small;
    key = two_past ys place key number (table_at n + 2 * (size * p + j) + 0) (λ e. ne (omega arith)) (λ e. omega arith) ∙ s.key;
    number = two_past ys place key number (table_at n + 2 * (size * p + j) + 1) (λ e. omega arith) (λ e. ne (omega arith)) ∙ s.number;
  }

  pub tabled_more : (t : ℕ) → t ≡ size * q + i + 1 → Tabled size cells n xs longer t
  tabled_more t et = record {
    kept = two_kept T.kept place key number (omega arith) (omega (arith, within));
    stands = λ p j hj hp l. go p j hj hp l (ℕ_discrete (size * p + j) (size * q + i));
  }
    where
      go : (p j : ℕ) → j < size → p < n → size * p + j < t → Dec (size * p + j ≡ size * q + i) → Stands size cells n xs longer (size * p + j) p j
      go p j hj hp l (yes e) = let w = own_place size p j q i hj hi e in new p j w.0 w.1
      go p j hj hp l (no ne) = old p j ne (T.stands p j hj hp (omega (arith, ne)))
