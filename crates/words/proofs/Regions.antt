-- Laws of regions: a store in one keeps what is outside it and may be the next that it is to hold, and a part of a list that is lent has
-- its words and, when it has come back, changes that part alone, all zero if it came back so. Assumes nothing.
use mathlib.Core.Path.{◌≡◌, refl, sym, ap, subst, ◌∙◌}
use mathlib.Core.List.{List}
use Prim.Native.Nat.{ℕ, ◌+◌, ◌-◌, ◌≤◌, ◌<◌}
use native.Mathlib.Decide.{ℕ_discrete, dec_lt}
use native.Mathlib.Omega.{arith}
use lib.ListN.{length, get_or, set, replicate, length-set, length-replicate, get_or-replicate}
use lib.Seq.{get_or-set_same, get_or-set_other}
use borrow.Author.Rules.{rules}
use borrow.Rule.Slice.PartMut.{mid_of, put_mid, mid_len, same_len_mid}
use Rattle.std.proofs.lemmas.List.{places}
use Rattle.words.specs.inner.Regions.{Outside, Kept, Filled}

-- ---- stores

pub set_cases : (P : ℕ → Type 0) (l : List ℕ) (i v j : ℕ) → i < length l → (j ≡ i → P v) → ((j ≡ i → ⊥) → P (get_or l j 0)) → P (get_or (set l i v) j 0)
set_cases P l i v j h a b = go (ℕ_discrete j i)
  where
    go : Dec (j ≡ i) → P (get_or (set l i v) j 0)
    go (yes e) = rw (e, get_or-set_same) (a e)
    go (no n) = rw get_or-set_other (b n)

pub kept_refl : (xs : List ℕ) (a m : ℕ) → Kept xs xs a m
kept_refl xs a m = record { len = refl; rest = λ k o. refl }

pub kept_trans : {xs ys zs : List ℕ} {a m : ℕ} → Kept xs ys a m → Kept ys zs a m → Kept xs zs a m
kept_trans p q = record { len = q.len ∙ p.len; rest = λ k o. q.rest k o ∙ p.rest k o }

-- what is outside a region is outside its front
pub kept_wider : {xs ys : List ℕ} {a m n : ℕ} → m ≤ n → Kept xs ys a m → Kept xs ys a n
kept_wider h q = record { len = q.len; rest = λ k o. q.rest k (λ j l e. o j (omega arith) e) }

pub kept_set : {xs ys : List ℕ} {a m : ℕ} → Kept xs ys a m → (p v : ℕ) → a ≤ p → p < a + m → Kept xs (set ys p v) a m
kept_set {xs} {ys} {a} {m} q p v l h = record {
  len = length-set ys p v ∙ q.len;
  rest = λ k o. get_or-set_other ys p k v 0 (λ e. o (p - a) (omega arith) (omega arith)) ∙ q.rest k o;
}

pub filled_none : (xs : List ℕ) (a m : ℕ) (f : ℕ → ℕ) → Filled xs xs a m 0 f
filled_none xs a m f = record { kept = kept_refl xs a m; holds = λ k h. absurd (omega arith) }

pub filled_more : {xs ys : List ℕ} {a m n : ℕ} {f : ℕ → ℕ} {v : ℕ} → Filled xs ys a m n f → n < m → a + m ≤ length xs → v ≡ f n → Filled xs (set ys (a + n) v) a m (n + 1) f
filled_more {xs} {ys} {a} {m} {n} {f} {v} q h b e = record {
  kept = kept_set q.kept (a + n) v (omega arith) (omega arith);
  holds = λ k l. set_cases (λ (z : ℕ). z ≡ f k) ys (a + n) v (a + k) (omega (arith, q.kept.len)) (λ s. e ∙ ap f (omega arith)) (λ s. q.holds k (omega (arith, s)));
}

-- a region that grows by the word after it: the words from there on are as they were, so that a loop may still read them
pub filled_grow : {xs ys : List ℕ} {a q : ℕ} {f : ℕ → ℕ} (p v : ℕ) → Filled xs ys a q q f → p ≡ a + q → p < length xs → v ≡ f q → Filled xs (set ys p v) a (q + 1) (q + 1) f
filled_grow {xs} {ys} {a} {q} {f} p v s at h e = rw at (filled_more wider (omega arith) (omega arith) e)
  where
    wider : Filled xs ys a (q + 1) q f
    wider = record { kept = kept_wider (omega arith) s.kept; holds = s.holds }

-- a store at place p of a region that is filled changes what it holds at p alone
pub filled_at : {xs ys : List ℕ} {a m : ℕ} {f : ℕ → ℕ} (g : ℕ → ℕ) (p v : ℕ) → Filled xs ys a m m f → a + m ≤ length xs → p < m → v ≡ g p → ((k : ℕ) → (k ≡ p → ⊥) → f k ≡ g k) → Filled xs (set ys (a + p) v) a m m g
filled_at {xs} {ys} {a} {m} {f} g p v q b h e s = record {
  kept = kept_set q.kept (a + p) v (omega arith) (omega arith);
  holds = λ k l. set_cases (λ (z : ℕ). z ≡ g k) ys (a + p) v (a + k) (omega (arith, q.kept.len)) (λ n. e ∙ ap g (omega arith)) (λ n. q.holds k l ∙ s k (λ i. n (ap (λ (z : ℕ). a + z) i)));
}

-- what is filled over a region that alone had changed
pub filled_over : {xs ys zs : List ℕ} {a m n : ℕ} {f : ℕ → ℕ} → Kept xs ys a m → Filled ys zs a m n f → Filled xs zs a m n f
filled_over k q = record { kept = kept_trans k q.kept; holds = q.holds }

-- what stands past a region
pub kept_past : {xs ys : List ℕ} {a m : ℕ} → Kept xs ys a m → (k : ℕ) → a + m ≤ k → get_or ys k 0 ≡ get_or xs k 0
kept_past q k h = q.rest k (λ j l e. omega arith)

-- ---- a part from a up to e that is lent

pub part_at : (xs : List ℕ) (a e k : ℕ) → k < e - a → get_or (mid_of a (e - a) xs) k 0 ≡ get_or xs (a + k) 0
part_at xs a e k h = search (rules, places)

-- and has come back as ys

module _ (xs ys : List ℕ) (a e : ℕ) (ae : a ≤ e) (el : e ≤ length xs) (same : length ys ≡ e - a) where
  pub part_before : (k : ℕ) → k < a → get_or (put_mid a (e - a) xs ys) k 0 ≡ get_or xs k 0
  part_before k h = search (rules, places)

  pub part_in : (k : ℕ) → k < e - a → get_or (put_mid a (e - a) xs ys) (a + k) 0 ≡ get_or ys k 0
  part_in k h = search (rules, places)

  pub part_after : (k : ℕ) → e ≤ k → get_or (put_mid a (e - a) xs ys) k 0 ≡ get_or xs k 0
  part_after k h = search (rules, places)

  pub part_len : length (put_mid a (e - a) xs ys) ≡ length xs
  part_len = same_len_mid a (e - a) xs ys (same ∙ sym (mid_len a e xs el))

  pub part_kept : Kept xs (put_mid a (e - a) xs ys) a (e - a)
  part_kept = record { len = part_len; rest = λ k o. go k o (dec_lt k a) (dec_lt k e) }
    where
      go : (k : ℕ) → Outside a (e - a) k → Dec (k < a) → Dec (k < e) → get_or (put_mid a (e - a) xs ys) k 0 ≡ get_or xs k 0
      go k o (yes l) r = part_before k l
      go k o (no l) (yes r) = absurd (o (k - a) (omega arith) (omega arith))
      go k o (no l) (no r) = part_after k (omega arith)

-- a lent part that has come back all zero
pub filled_zero : (xs ys : List ℕ) (a m : ℕ) → a + m ≤ length xs → ys ≡ replicate (length (mid_of a (a + m - a) xs)) 0 → Filled xs (put_mid a (a + m - a) xs ys) a m m (λ (k : ℕ). 0)
filled_zero xs ys a m b e = record {
  kept = subst (λ (n : ℕ). Kept xs (put_mid a (a + m - a) xs ys) a n) (omega arith) (part_kept xs ys a (a + m) (omega arith) b same);
  holds = λ k h. part_in xs ys a (a + m) (omega arith) b same k (omega arith) ∙ ap (λ (l : List ℕ). get_or l k 0) zeros ∙ get_or-replicate {A = ℕ} (a + m - a) k 0 0 (omega arith);
}
  where
    zeros : ys ≡ replicate (a + m - a) 0
    zeros = e ∙ ap (λ (n : ℕ). replicate n 0) (mid_len a (a + m) xs b)

    same : length ys ≡ a + m - a
    same = ap (λ (l : List ℕ). length l) zeros ∙ length-replicate {A = ℕ} (a + m - a) 0
