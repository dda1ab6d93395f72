-- The workspace before the first walk, from what each routine leaves of it. Assumes nothing.
use mathlib.Core.Path.{◌≡◌, sym, ap, ◌∙◌}
use mathlib.Core.List.{List, ◌++◌}
use Prim.Native.Nat.{ℕ, ◌+◌, ◌*◌, ◌-◌, ◌≤◌, ◌<◌}
use native.Mathlib.Decide.{dec_lt}
use native.Mathlib.Omega.{arith}
use lib.ListN.{length, get_or, take, drop, replicate, length-replicate}
use lib.Seq.{length-take-le}
use borrow.Author.Rules.{rules}
use Rattle.std.specs.List.{CopiedTo, SameBelow, SameFrom}
use Rattle.std.proofs.lemmas.List.{places}
use Rattle.words.specs.inner.Regions.{Outside, Filled}
use Rattle.words.specs.Sorting.{equal}
use Rattle.cells.specs.Cells.{everyone}
use Rattle.cells.proofs.Groups.{groups_same}
use Rattle.laying.specs.inner.Layout.{flags_at, Given}
use Rattle.fates.specs.inner.Fates.{groups_at, fates_at}
use Rattle.fates.specs.inner.Runs.{Told}
use Rattle.fates.specs.inner.Prepared.{Sided, Ready}
use Rattle.fates.proofs.RunStarts.{walk_table}
use Rattle.fates.proofs.Members.{equal_same}
use Rattle.fates.proofs.Seating.{inside}

-- the front of a list that has come back all zero
pub front_zero : (xs ys : List ℕ) (m : ℕ) → m ≤ length xs → ys ≡ replicate (length (take m xs)) 0 → Filled xs (ys ++ drop m xs) 0 m m (λ (k : ℕ). 0)
front_zero xs ys m h e = record {
  kept = record { len = let l = same in search (rules, places); rest = λ k o. rest k o (dec_lt k m) };
  holds = λ k l. let s = same in search (rules, places);
}
  where
    same : length ys ≡ m
    same = ap length e ∙ length-replicate (length (take m xs)) 0 ∙ length-take-le m xs h

    rest : (k : ℕ) → Outside 0 m k → Dec (k < m) → get_or (ys ++ drop m xs) k 0 ≡ get_or xs k 0
    rest k o (yes l) = absurd (o k l (omega arith))
    rest k o (no l) = let s = same in search (rules, places)

-- n words that are copied within a list
pub filled_copy : (xs ys : List ℕ) (from at m n : ℕ) → m ≡ n → length ys ≡ length xs → CopiedTo xs ys from at m × SameBelow xs ys at × SameFrom xs ys (at + m) → Filled xs ys at n n (λ (k : ℕ). get_or xs (from + k) 0)
filled_copy xs ys from at m n e len c = record {
  kept = record { len = len; rest = λ k o. rest k o (dec_lt k at) (dec_lt k (at + m)) };
  holds = λ k l. c.0 (at + k) 0 (omega arith) (omega arith) ∙ ap (λ (i : ℕ). get_or xs i 0) (omega arith);
}
  where
    rest : (k : ℕ) → Outside at n k → Dec (k < at) → Dec (k < at + m) → get_or ys k 0 ≡ get_or xs k 0
    rest k o (yes l) d = c.1 k 0 l
    rest k o (no l) (yes u) = absurd (o (k - at) (omega arith) (omega arith))
    rest k o (no l) (no u) = c.2 k 0 (omega arith)

-- after the groups (sided), the run starts (told), the move, the count, and the zeros at the front and in the flags
module _ (span : ℕ) (cells : List ℕ) (n : ℕ) (given : Given span cells n) (ws xs : List ℕ) (room : 4 * span + 26 * n ≤ length ws) (sided : Sided span cells n ws xs) where
  module _ (ys zs : List ℕ) (told : Told span n xs ys (4 * n)) (moved : Filled ys zs (groups_at span n) n n (λ (q : ℕ). get_or ys (4 * span - n + q) 0)) where
    len_moved : length zs ≡ length ws
    len_moved = moved.kept.len ∙ told.kept.len ∙ sided.len

    group_moved : (q : ℕ) → q < n → get_or zs (groups_at span n + q) 0 ≡ get_or xs (4 * span - n + q) 0
    group_moved q h = moved.holds q h ∙ told.kept.rest (4 * span - n + q) (λ j l e. omega (arith, given.few))

    module _ (cs fs es : List ℕ) (counted : Filled zs cs (groups_at span n + n) n n (equal (λ (q : ℕ). get_or zs (groups_at span n + q) 0) n)) (front : Filled cs fs 0 (4 * span) (4 * span) (λ (k : ℕ). 0)) (flags : Filled fs es (flags_at span n) (4 * n) (4 * n) (λ (k : ℕ). 0)) where
      len : length es ≡ length ws
      len = flags.kept.len ∙ front.kept.len ∙ counted.kept.len ∙ len_moved

      blank : (k : ℕ) → k < 4 * span → get_or es k 0 ≡ 0
      blank k h = flags.kept.rest k (λ j l e. omega arith) ∙ ap (λ (z : ℕ). get_or fs z 0) (omega arith) ∙ front.holds k h

      past : (k : ℕ) → 4 * span ≤ k → k < flags_at span n → get_or es k 0 ≡ get_or cs k 0
      past k l h = flags.kept.rest k (λ j m e. omega arith) ∙ front.kept.rest k (λ j m e. omega arith)

      still : (k : ℕ) → 4 * span ≤ k → k < 4 * span + 12 * n → get_or es k 0 ≡ get_or ys k 0
      still k l h = past k l (omega arith) ∙ counted.kept.rest k (λ j m e. omega arith) ∙ moved.kept.rest k (λ j m e. omega arith)

      group_kept : (q : ℕ) → q < n → get_or es (groups_at span n + q) 0 ≡ get_or zs (groups_at span n + q) 0
      group_kept q h = past (groups_at span n + q) (omega arith) (omega arith) ∙ counted.kept.rest (groups_at span n + q) (λ j m e. omega arith)

      size_is : (s : ℕ) → s < n → get_or es (fates_at span n + s) 0 ≡ equal (λ (q : ℕ). get_or zs (groups_at span n + q) 0) n s
      size_is s h = past (fates_at span n + s) (omega arith) (omega arith) ∙ ap (λ (k : ℕ). get_or cs k 0) (omega arith) ∙ counted.holds s h

      pub ready : Ready span cells n es
      ready = record {
        blank = record { marks = λ q h. blank q (omega (arith, given.few)); first = λ c h. blank (2 * span + c) (omega arith); second = λ c h. blank (3 * span + c) (omega arith) };
        table = walk_table span cells n xs ys es sided.table told still (omega (arith, len));
        flags = flags.holds;
        groups = groups_same (inside everyone given.whole) (λ q h. sym (group_moved q h) ∙ sym (group_kept q h)) sided.groups;
        sizes = λ s h. size_is s h ∙ equal_same (λ (q : ℕ). get_or zs (groups_at span n + q) 0) (λ (q : ℕ). get_or es (groups_at span n + q) 0) s n (λ q l. sym (group_kept q l));
      }
