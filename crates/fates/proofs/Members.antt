-- How many quads each group has, counted number by number: word s holds how many of the numbers so far are s. Assumes nothing.
use mathlib.Core.Path.{◌≡◌, refl, sym, ap, ap₂, ◌∙◌}
use mathlib.Core.Bool.{Bool, true, false, cond}
use mathlib.Core.List.{List, ◌++◌}
use Prim.Native.Nat.{ℕ, zero, suc, ◌+◌, ◌*◌, ◌-◌, ◌≤◌, ◌<◌}
use native.Mathlib.Decide.{dec_lt}
use native.Mathlib.Omega.{arith}
use borrow.Author.Rules.{rules}
use borrow.Rule.Slice.PartMut.{mid_of, put_mid, mid_len}
use lib.Dec.{eqb}
use lib.ListN.{length, get_or, set, take, replicate, length-set, length-append, length-replicate, get_or-replicate, get_or-append}
use lib.Seq.{get_or-take, get_or-append-add}
use Rattle.std.proofs.lemmas.List.{places}
use Rattle.words.specs.inner.Regions.{Outside, Filled}
use Rattle.words.specs.Sorting.{one, equal}
use Rattle.words.proofs.Regions.{set_cases, part_at, part_before, part_in, part_after, part_len}
use Rattle.words.proofs.Rank.{equal_zero, equal_yes, equal_no, equal_le}
use Rattle.cells.specs.Sums.{total, how_many}
use Rattle.cells.proofs.Sums.{how_many_same}
use Rattle.fates.specs.inner.Prepared.{Counted}

-- ---- number by number

pub counted_none : (ns cs : List ℕ) (m : ℕ) → cs ≡ replicate m 0 → m ≡ length ns → Counted ns 0 cs
counted_none ns cs m e h = record {
  len = ap length e ∙ length-replicate {A = ℕ} m 0 ∙ h;
  each = λ s l. rw e (get_or-replicate {A = ℕ} m s 0 0 (omega arith)) ∙ sym (equal_zero (λ (q : ℕ). get_or ns q 0) s);
}

pub counted_more : {ns : List ℕ} {j : ℕ} {cs : List ℕ} → Counted ns j cs → get_or ns j 0 < length ns → Counted ns (j + 1) (set cs (get_or ns j 0) (get_or cs (get_or ns j 0) 0 + 1))
counted_more {ns} {j} {cs} c h = record {
  len = length-set cs (get_or ns j 0) (get_or cs (get_or ns j 0) 0 + 1) ∙ c.len;
  each = λ s l. set_cases (λ (z : ℕ). z ≡ equal (λ (q : ℕ). get_or ns q 0) (j + 1) s) cs (get_or ns j 0) _ s (omega (arith, c.len))
      (λ e. omega (arith, c.each s l, equal_yes (λ (q : ℕ). get_or ns q 0) j s (sym e), ap (λ (z : ℕ). get_or cs z 0) e))
      (λ n. c.each s l ∙ sym (equal_no (λ (q : ℕ). get_or ns q 0) j s (λ e. n (sym e))));
}

-- no word passes the number of places
pub counted_most : {ns : List ℕ} {j : ℕ} {cs : List ℕ} → Counted ns j cs → (s : ℕ) → s < length ns → get_or cs s 0 ≤ j
counted_most {ns} {j} c s h = rw (c.each s h) (equal_le (λ (q : ℕ). get_or ns q 0) s j)

-- what is counted by key is counted by a test
one_is : (b : Bool) → one b ≡ cond b 1 0
unfolding one
one_is true = refl
one_is false = refl

pub equal_how_many : (d : ℕ → ℕ) (v n : ℕ) → equal d n v ≡ how_many (λ (q : ℕ). eqb (d q) v) n
unfolding equal total
equal_how_many d v zero = refl
equal_how_many d v (suc n) = ap₂ ◌+◌ (equal_how_many d v n) (one_is (eqb (d n) v))

-- the count is by the keys of the places below n alone
pub equal_same : (d f : ℕ → ℕ) (v n : ℕ) → ((i : ℕ) → i < n → d i ≡ f i) → equal d n v ≡ equal f n v
equal_same d f v n h = equal_how_many d v n ∙ how_many_same (λ (q : ℕ). eqb (f q) v) (λ (q : ℕ). eqb (d q) v) n (λ i l. ap (λ (k : ℕ). eqb k v) (h i l)) ∙ sym (equal_how_many f v n)

-- ---- the counts behind the numbers

pub counted_behind : {xs ns cs : List ℕ} {n : ℕ} → length xs ≡ 2 * n → ns ≡ take n xs → length ns ≡ n → Counted ns (length ns) cs → Filled xs (ns ++ cs) n n n (equal (λ (q : ℕ). get_or xs q 0) n)
counted_behind {xs} {ns} {cs} {n} whole front long c = record {
  kept = record { len = omega (arith, length-append ns cs, c.len); rest = λ k o. rest k o (dec_lt k n) (dec_lt k (n + n)) };
  holds = λ s h. ap (λ (z : ℕ). get_or (ns ++ cs) (z + s) 0) (sym long) ∙ get_or-append-add ns cs s 0 ∙ c.each s (omega arith)
      ∙ ap (λ (z : ℕ). equal (λ (q : ℕ). get_or ns q 0) z s) long ∙ equal_same (λ (q : ℕ). get_or ns q 0) (λ (q : ℕ). get_or xs q 0) s n early;
}
  where
    early : (k : ℕ) → k < n → get_or ns k 0 ≡ get_or xs k 0
    early k l = ap (λ (z : List ℕ). get_or z k 0) front ∙ get_or-take n xs k 0 l

    rest : (k : ℕ) → Outside n n k → Dec (k < n) → Dec (k < n + n) → get_or (ns ++ cs) k 0 ≡ get_or xs k 0
    rest k o (yes l) d = get_or-append ns cs 0 k (omega arith) ∙ early k l
    rest k o (no l) (yes u) = absurd (o (k - n) (omega arith) (omega arith))
    rest k o (no l) (no u) = let e = c.len in search (rules, places)

-- in a part of a list
module _ (xs ys : List ℕ) (at n : ℕ) (room : at + 2 * n ≤ length xs) (f : Filled (mid_of at (at + 2 * n - at) xs) ys n n n (equal (λ (q : ℕ). get_or (mid_of at (at + 2 * n - at) xs) q 0) n)) where
  same : length ys ≡ at + 2 * n - at
  same = f.kept.len ∙ mid_len at (at + 2 * n) xs room

  abbrev back : List ℕ
  back = put_mid at (at + 2 * n - at) xs ys

  seated : (k j : ℕ) → j < 2 * n → k ≡ at + j → get_or back k 0 ≡ get_or ys j 0
  seated k j h e = ap (λ (z : ℕ). get_or back z 0) e ∙ part_in xs ys at (at + 2 * n) (omega arith) room same j (omega arith)

  rest : (k : ℕ) → Outside (at + n) n k → Dec (k < at) → Dec (k < at + n) → Dec (k < at + 2 * n) → get_or back k 0 ≡ get_or xs k 0
  rest k o (yes l) d e = part_before xs ys at (at + 2 * n) (omega arith) room same k l
  rest k o (no l) (yes d) e = seated k (k - at) (omega arith) (omega arith) ∙ f.kept.rest (k - at) (λ j h e. omega arith) ∙ part_at xs at (at + 2 * n) (k - at) (omega arith) ∙ ap (λ (z : ℕ). get_or xs z 0) (omega arith)
  rest k o (no l) (no d) (yes e) = absurd (o (k - (at + n)) (omega arith) (omega arith))
  rest k o (no l) (no d) (no e) = part_after xs ys at (at + 2 * n) (omega arith) room same k (omega arith)

  pub counted_in : Filled xs back (at + n) n n (equal (λ (q : ℕ). get_or xs (at + q) 0) n)
  counted_in = record {
    kept = record { len = part_len xs ys at (at + 2 * n) (omega arith) room same; rest = λ k o. rest k o (dec_lt k at) (dec_lt k (at + n)) (dec_lt k (at + 2 * n)) };
    holds = λ s h. seated (at + n + s) (n + s) (omega arith) (omega arith) ∙ f.holds s h
        ∙ equal_same (λ (q : ℕ). get_or (mid_of at (at + 2 * n - at) xs) q 0) (λ (q : ℕ). get_or xs (at + q) 0) s n (λ q l. part_at xs at (at + 2 * n) q (omega arith));
  }
