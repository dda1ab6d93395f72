-- What the loop that writes a record for every quad knows: the first m are written, and one more store writes the next. Assumes nothing.
use mathlib.Core.Path.{◌≡◌, ap, ◌∙◌}
use mathlib.Core.List.{List}
use Prim.Native.Nat.{ℕ, ◌+◌, ◌*◌, ◌≤◌, ◌<◌}
use native.Mathlib.Omega.{arith}
use lib.ListN.{length, get_or}
use Rattle.words.specs.inner.Regions.{two}
use Rattle.words.proofs.Moving.{two_cases, two_kept}
use Rattle.cells.specs.inner.Table.{groups_at}
use Rattle.filter.specs.inner.Layout.{records_at}
use Rattle.filter.specs.inner.Steps.{Recorded}

-- a group stands outside the records, so it is as it was
copied_group : {n m : ℕ} {xs ys : List ℕ} → Recorded n m xs ys → m < n → get_or ys (groups_at n + m) 0 ≡ get_or xs (groups_at n + m) 0
copied_group {n} {m} b h = b.kept.rest (groups_at n + m) (λ j l e. omega arith)

pub recorded_more : {n m : ℕ} {xs ys : List ℕ} → Recorded n m xs ys → m < n → records_at n + 2 * n ≤ length xs → Recorded n (m + 1) xs (two ys (records_at n + 2 * m) m (get_or ys (groups_at n + m) 0))
recorded_more {n} {m} {xs} {ys} b h room =
    let at : ℕ = records_at n + 2 * m in
    let w : ℕ = get_or ys (groups_at n + m) 0 in
    let fits : at + 1 < length ys = omega (arith, b.kept.len) in
    record {
      kept = two_kept b.kept at m w (omega arith) (omega arith);
      numbers = λ q l. two_cases (λ (z : ℕ). z ≡ q) ys at m w (records_at n + 2 * q + 0) fits (λ i. omega arith) (λ i. absurd (omega arith)) (λ i j. b.numbers q (omega (arith, i)));
      groups = λ q l. two_cases (λ (z : ℕ). z ≡ get_or xs (groups_at n + q) 0) ys at m w (records_at n + 2 * q + 1) fits
          (λ i. absurd (omega arith)) (λ i. copied_group b h ∙ ap (λ (j : ℕ). get_or xs (groups_at n + j) 0) (omega arith)) (λ i j. b.groups q (omega (arith, j)));
    }
