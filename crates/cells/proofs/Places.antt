-- Sides counted by cells, size * q + i: each side has its own number, and every number below size * n is a side's. Assumes nothing.
use mathlib.Core.Path.{◌≡◌, ap}
use mathlib.Core.List.{List}
use Prim.Native.Nat.{ℕ, zero, suc, ◌+◌, ◌*◌, ◌/◌, ◌%◌, ◌≤◌, ◌<◌}
use native.Mathlib.Nat.{mul-add, mul-one, mul-le-mul_left, lt_of_mul-lt-mul_left, zero-mul, div-add-mod, mod-lt, mod-mod}
use native.Mathlib.Decide.{dec_lt}
use native.Mathlib.Omega.{arith}
use Rattle.cells.specs.Cells.{cell}

-- a cell more is size sides more
cell_after : (size q : ℕ) → size * (q + 1) ≡ size * q + size
cell_after size q = omega (arith, mul-add size q 1, mul-one size)

-- the sides of a cell are all before those of the next
pub cell_before : (size p q : ℕ) → p < q → size * p + size ≤ size * q
cell_before size p q h =
    let up : size * (p + 1) ≤ size * q = mul-le-mul_left size (omega arith) in
    omega (arith, cell_after size p)

-- so a number tells its cell and its side
pub own_place : (size p i q j : ℕ) → i < size → j < size → size * p + i ≡ size * q + j → (p ≡ q) × (i ≡ j)
own_place size p i q j hi hj e = go (dec_lt p q) (dec_lt q p)
  where
    go : Dec (p < q) → Dec (q < p) → (p ≡ q) × (i ≡ j)
    go (yes l) r = absurd (omega (arith, cell_before size p q l))
    go (no l) (yes r) = absurd (omega (arith, cell_before size q p r))
    go (no l) (no r) = let s : p ≡ q = omega arith in (s, omega (arith, ap (λ (t : ℕ). size * t) s))

pub place_below : (size n q i : ℕ) → q < n → i < size → size * q + i < size * n
place_below size n q i hq hi = omega (arith, cell_before size q n hq)

-- every number below size * n is of a side of one of n cells
pub some_place : (size n k : ℕ) → k < size * n → (k / size < n) × (k % size < size) × (size * (k / size) + k % size ≡ k)
some_place size n k h = (lt_of_mul-lt-mul_left size (omega (arith, div-add-mod k size)), mod-lt k (positive size n k h), div-add-mod k size)
  where
    positive : (size n k : ℕ) → k < size * n → 0 < size
    positive zero n k h = absurd (omega (arith, zero-mul n))
    positive (suc size) n k h = omega arith

-- ---- the side after i, counted round

-- a cell's corners are counted round, so the next is the same before the count is brought below the size and after
pub next_corner : (size : ℕ) (cells : List ℕ) (q i : ℕ) → cell size cells q ((i + 1) % size) ≡ cell size cells q (i + 1)
next_corner size cells q i = rw (mod-mod (i + 1) size)
