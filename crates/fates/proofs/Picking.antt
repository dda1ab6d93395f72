-- Picking the single ones of ordered records, one after the other: they ascend strictly, and are the single ones of the records as they
-- were before the ordering. All records stay in order. Assumes nothing.
use mathlib.Core.Path.{◌≡◌, sym, ap, ◌∙◌}
use mathlib.Core.List.{List}
use Prim.Native.Nat.{ℕ, ◌+◌, ◌*◌, ◌%◌, ◌≤◌, ◌<◌}
use native.Mathlib.Decide.{ℕ_discrete}
use native.Mathlib.Omega.{arith}
use lib.ListN.{length, get_or}
use Rattle.words.specs.inner.Order.{word_of, Room, Ordered, grouped_of}
use Rattle.words.specs.inner.Regions.{Kept, two}
use Rattle.words.proofs.Cuts.{ascends}
use Rattle.words.proofs.Moving.{two_past, two_at}
use Rattle.words.proofs.Regions.{kept_set}
use Rattle.fates.specs.inner.Fates.{records_at, lone_at, seed_in}
use Rattle.fates.specs.inner.Singles.{Alike, Unique, SeedOrder, CopyOf, From, To, Picked, Batch, LoneFrom}
use Rattle.fates.proofs.Singles.{alike_of}

-- ---- copied records

copied_back : {xs ys : List ℕ} {a b k i : ℕ} → CopyOf xs ys a b k i → CopyOf ys xs b a i k
copied_back p = record { key = sym p.key; number = sym p.number }

copied_on : {xs ys zs : List ℕ} {a b c k i j : ℕ} → CopyOf xs ys a b k i → CopyOf ys zs b c i j → CopyOf xs zs a c k j
copied_on p q = record { key = q.key ∙ p.key; number = q.number ∙ p.number }

-- by both words at once
copied_words : (xs ys : List ℕ) (a b k i : ℕ) → ((c : ℕ) → c < 2 → word_of ys b c i ≡ word_of xs a c k) → CopyOf xs ys a b k i
copied_words xs ys a b k i w = record { key = w 0 (omega arith); number = w 1 (omega arith) }

pub seed_copied : {xs ys : List ℕ} {a b k i : ℕ} → CopyOf xs ys a b k i → seed_in ys b i ≡ seed_in xs a k
seed_copied p = ap (λ (z : ℕ). z % 4096) p.number

alike_copied : {xs ys : List ℕ} {a b i j k l : ℕ} → CopyOf xs ys a b i k → CopyOf xs ys a b j l → Alike ys b k l → Alike xs a i j
alike_copied p q s = record {
  seed = sym (seed_copied p) ∙ s.seed ∙ seed_copied q;
  key = sym p.key ∙ s.key ∙ q.key;
}

pub grouped_copied : {xs ys : List ℕ} {a b k i : ℕ} → CopyOf xs ys a b k i → grouped_of ys b i ≡ grouped_of xs a k
grouped_copied p = omega (arith, p.key, p.number)

-- ---- a list that has changed from b on alone

pub same_room : {xs ys : List ℕ} {a b m : ℕ} → length ys ≡ length xs → Room xs a b m → Room ys a b m
same_room e r = record { first = omega (arith, e, r.first); second = omega (arith, e, r.second); apart = r.apart }

module _ {xs ys : List ℕ} {a b m : ℕ} (e : Kept xs ys b (2 * m)) (r : Room xs a b m) where
  still_word : (k c : ℕ) → k < m → c < 2 → word_of ys a c k ≡ word_of xs a c k
  still_word k c h l = e.rest (a + 2 * k + c) (λ j p f. r.apart (2 * k + c) j (omega arith) p (omega arith))

  still : (k : ℕ) → k < m → CopyOf xs ys a a k k
  still k h = copied_words xs ys a a k k (λ c l. still_word k c h l)

  single_now : (k : ℕ) → k < m → Unique xs a m k → Unique ys a m k
  single_now k h o j l s = o j l (alike_copied (still j l) (still k h) s)

  single_then : (k : ℕ) → k < m → Unique ys a m k → Unique xs a m k
  single_then k h o j l s = o j l (alike_copied (copied_back (still j l)) (copied_back (still k h)) s)

  pub rising_kept : SeedOrder xs a m → SeedOrder ys a m
  rising_kept R = record {
    small = λ k h. rw (still k h).key (R.small k h);
    rises = λ j k l h. omega (arith, grouped_copied (still j (omega arith)), grouped_copied (still k h), R.rises j k l h);
  }

-- ---- one record more

module _ (xs ys : List ℕ) (a b m k r : ℕ) (O : Room xs a b m) (R : SeedOrder xs a m) (h : k < m) (e : Kept xs ys b (2 * m)) (P : Picked xs ys a b m k r) where
  passed_over : (Unique xs a m k → ⊥) → Picked xs ys a b m (k + 1) r
  passed_over n = record {
    few = omega (arith, P.few);
    from = λ i l. let f = P.from i l in record { of = f.of; small = omega (arith, f.small); single = f.single; copied = f.copied };
    to = λ j l o. to j l o (ℕ_discrete j k);
    rises = P.rises;
  }
    where
      to : (j : ℕ) → j < k + 1 → Unique xs a m j → Dec (j ≡ k) → To xs ys a b r j
      to j l o (yes q) = absurd (n (rw q at o))
      to j l o (no q) = P.to j (omega (arith, q)) o

  abbrev zs : List ℕ
  zs = two ys (b + 2 * r) (get_or ys (a + 2 * k) 0) (get_or ys (a + 2 * k + 1) 0)

  zs_kept : Kept xs zs b (2 * m)
  zs_kept = kept_set (kept_set e (b + 2 * r) (get_or ys (a + 2 * k) 0) (omega arith) (omega (arith, P.few))) (b + 2 * r + 1) (get_or ys (a + 2 * k + 1) 0) (omega arith) (omega (arith, P.few))

  old : (i : ℕ) → i < r → CopyOf ys zs b b i i
  old i l = copied_words ys zs b b i i (λ c u. two_past ys (b + 2 * r) (get_or ys (a + 2 * k) 0) (get_or ys (a + 2 * k + 1) 0) (b + 2 * i + c) (omega arith) (omega arith))

  new : CopyOf xs zs a b k r
  new = copied_on (still e O k h) (copied_words ys zs a b k r (λ c u. two_at ys (b + 2 * r) (a + 2 * k) c u (omega (arith, P.few, O.second, e.len))))

  module _ (o : Unique xs a m k) where
    -- an earlier one is of a lower seed or key
    last_rises : (i : ℕ) → i < r → grouped_of zs b i < grouped_of zs b r
    last_rises i l = go (ℕ_discrete (grouped_of xs a f.of) (grouped_of xs a k))
      where
        f : From xs ys a b m k i
        f = P.from i l

        go : Dec (grouped_of xs a f.of ≡ grouped_of xs a k) → grouped_of zs b i < grouped_of zs b r
        go (yes q) = absurd (omega (arith, f.small, o f.of (omega (arith, f.small)) (alike_of xs a m R f.of k (omega (arith, f.small)) h q)))
        go (no q) = omega (arith, q, grouped_copied (copied_on f.copied (old i l)), grouped_copied new, R.rises f.of k (omega (arith, f.small)) h)

    added : Picked xs zs a b m (k + 1) (r + 1)
    added = record {
      few = omega (arith, P.few);
      from = λ i l. from i l (ℕ_discrete i r);
      to = λ j l s. to j l s (ℕ_discrete j k);
      rises = λ i j l u. rises i j l u (ℕ_discrete j r);
    }
      where
        from : (i : ℕ) → i < r + 1 → Dec (i ≡ r) → From xs zs a b m (k + 1) i
        from i l (yes q) = record { of = k; small = omega arith; single = o; copied = rw q new }
        from i l (no q) =
            let u : i < r = omega (arith, q) in
            let f = P.from i u in
            record { of = f.of; small = omega (arith, f.small); single = f.single; copied = copied_on f.copied (old i u) }

        to : (j : ℕ) → j < k + 1 → Unique xs a m j → Dec (j ≡ k) → To xs zs a b (r + 1) j
        to j l s (yes q) = record { at = r; small = omega arith; copied = rw q new }
        to j l s (no q) =
            let t = P.to j (omega (arith, q)) s in
            record { at = t.at; small = omega (arith, t.small); copied = copied_on t.copied (old t.at t.small) }

        rises : (i j : ℕ) → i < j → j < r + 1 → Dec (j ≡ r) → grouped_of zs b i < grouped_of zs b j
        rises i j l u (yes q) = rw q (last_rises i (omega arith))
        rises i j l u (no q) =
            let v : j < r = omega (arith, q) in
            omega (arith, grouped_copied (old i (omega arith)), grouped_copied (old j v), P.rises i j l v)

  -- the same by the records as they stand now
  pub picked_left : (Unique ys a m k → ⊥) → Kept xs ys b (2 * m) × Picked xs ys a b m (k + 1) r
  picked_left n = (e, passed_over (λ o. n (single_now e O k h o)))

  pub picked_took : Unique ys a m k → Kept xs zs b (2 * m) × Picked xs zs a b m (k + 1) (r + 1)
  picked_took o = (zs_kept, added (single_then e O k h o))

-- ---- the ordering

pub batch_room : {span n m : ℕ} {w : List ℕ} → Batch span n m w → Room w (records_at span n) (lone_at span) m
batch_room B = record { first = omega (arith, B.few, B.room); second = omega (arith, B.few, B.room); apart = λ i j p q e. omega (arith, B.few) }

module _ (xs zs : List ℕ) (a b m : ℕ) (O : Ordered (grouped_of xs a) xs zs a b m) where
  pub there : (k : ℕ) → k < m → CopyOf xs zs a a (O.order.from k) k
  there k h = copied_words xs zs a a (O.order.from k) k (λ c l. O.words k c h l)

  pub back : (k : ℕ) → k < m → CopyOf xs zs a a k (O.order.to k)
  back k h = rw (O.order.from_to k h) at (there (O.order.to k) (O.order.to_lt k h))

  pub ordered_ascends : (j k : ℕ) → j ≤ k → k < m → grouped_of zs a j ≤ grouped_of zs a k
  ordered_ascends j k l h = omega (arith, grouped_copied (there j (omega arith)), grouped_copied (there k h), ascends O.order j k l h)

  single_from : (k : ℕ) → k < m → Unique zs a m k → Unique xs a m (O.order.from k)
  single_from k h o j l s = sym (O.order.from_to j l) ∙ ap O.order.from (o (O.order.to j) (O.order.to_lt j l) (alike_copied (copied_back (back j l)) (copied_back (there k h)) s))

  single_to : (k : ℕ) → k < m → Unique xs a m k → Unique zs a m (O.order.to k)
  single_to k h o j l s = sym (O.order.to_from j l) ∙ ap O.order.to (o (O.order.from j) (O.order.from_lt j l) (alike_copied (there j l) (back k h) s))

  -- the picking leaves the ordered records where they are
  pub lone_from : (ys : List ℕ) (r : ℕ) → Room zs a b m → Kept zs ys b (2 * m) → Picked zs ys a b m m r → LoneFrom xs ys a b m r
  lone_from ys r R e P = record {
    ordered = record {
      len = e.len ∙ O.len;
      rest = λ k p q. e.rest k q ∙ O.rest k p q;
      order = O.order;
      words = λ k c h l. still_word e R k c h l ∙ O.words k c h l;
    };
    picked = record { few = P.few; from = from; to = to; rises = P.rises };
  }
    where
      from : (i : ℕ) → i < r → From xs ys a b m m i
      from i h =
          let f = P.from i h in
          record {
            of = O.order.from f.of;
            small = O.order.from_lt f.of f.small;
            single = single_from f.of f.small f.single;
            copied = copied_on (there f.of f.small) f.copied;
          }

      to : (k : ℕ) → k < m → Unique xs a m k → To xs ys a b r k
      to k h o =
          let t = P.to (O.order.to k) (O.order.to_lt k h) (single_to k h o) in
          record { at = t.at; small = t.small; copied = copied_on (back k h) t.copied }
