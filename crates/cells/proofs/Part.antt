-- The groups' part of the workspace, lent and come back: it has n numbers, and nothing else changes. Assumes nothing.
use mathlib.Core.Path.{◌≡◌, ap, ◌∙◌}
use mathlib.Core.List.{List, ◌++◌}
use Prim.Native.Nat.{ℕ, ◌+◌, ◌*◌, ◌-◌, ◌≤◌, ◌<◌}
use native.Mathlib.Omega.{arith}
use lib.ListN.{length, get_or, take}
use lib.Seq.{take_at, drop_at, length-take-le}
use borrow.Rule.Slice.PartMut.{put_mid, post_of, mid_len}
use Rattle.words.specs.inner.Regions.{Kept}
use Rattle.words.proofs.Regions.{kept_wider, part_in, part_kept}
use Rattle.cells.specs.inner.Sides.{groups_of}

pub groups_length : (n : ℕ) (ys : List ℕ) → 2 * n ≤ length ys → length (groups_of n ys) ≡ n
groups_length n ys h = mid_len n (2 * n) ys h ∙ omega arith

module _ (n : ℕ) (xs p : List ℕ) (room : 2 * n ≤ length xs) (len : length p ≡ n) where
  abbrev returned : List ℕ
  returned = put_mid n (2 * n - n) xs p

  many : length p ≡ 2 * n - n
  many = omega arith

  pub returned_groups : groups_of n returned ≡ p
  returned_groups =
      ap (take (2 * n - n)) (drop_at (take n xs) (p ++ post_of n (2 * n - n) xs) n (length-take-le n xs (omega arith)))
      ∙ take_at p (post_of n (2 * n - n) xs) (2 * n - n) many

  pub returned_kept : Kept xs returned n n
  returned_kept = kept_wider (omega arith) (part_kept xs p n (2 * n) (omega arith) room many)

  pub returned_at : (q : ℕ) → q < n → get_or returned (n + q) 0 ≡ get_or p q 0
  returned_at q h = part_in xs p n (2 * n) (omega arith) room many q (omega arith)
