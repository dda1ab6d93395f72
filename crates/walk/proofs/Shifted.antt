-- The entries that a run of records makes: one for each, on its corner and with its words less the least of them, as many as there are
-- records, and in order where the records ascend. The least word is that of a record. Assumes nothing.
use mathlib.Core.Path.{◌≡◌, refl, sym, ap, ap₂, ◌∙◌, subst}
use mathlib.Core.List.{List, [], ◌∷◌, ◌++◌}
use Prim.Native.Nat.{ℕ, zero, suc, ◌≤◌, ◌<◌, min}
use native.Mathlib.Decide.{ℕ_discrete, dec_lt}
use native.Mathlib.Omega.{arith}
use lib.ListN.{length, length-append}
use Rattle.cells.specs.Listed.{In, Sorted, Entry, Before}
use Rattle.cells.specs.Listed.In.{first, later}
use Rattle.cells.specs.Listed.Sorted.{none, more}
use Rattle.cells.specs.Listed.Before.{by_u, by_v}
use Rattle.cells.proofs.Tests.{not_in, in_front, in_last}
use Rattle.fates.specs.inner.Fates.{key_in}
use Rattle.walk.specs.inner.Emitted.{x_in, y_in, least_of, entry_in, entries_to}
use Rattle.walk.specs.Demanded.{Place}

-- ---- lists with one more at their end

data Where (e f : Entry) (es : List Entry) : Type 0 where
  old : In e es → Where e f es
  new : e ≡ f → Where e f es

in_snoc : {e f : Entry} (es : List Entry) → In e (es ++ (f ∷ [])) → Where e f es
in_snoc [] (first p) = Where.new p
in_snoc [] (later i) = not_in i
in_snoc (g ∷ es) (first p) = Where.old (first p)
in_snoc {e} {f} (g ∷ es) (later i) = go (in_snoc es i)
  where
    go : Where e f es → Where e f (g ∷ es)
    go (Where.old j) = Where.old (later j)
    go (Where.new p) = Where.new p

sorted_snoc : {f : Entry} (es : List Entry) → Sorted Before es → ((e : Entry) → In e es → Before e f) → Sorted Before (es ++ (f ∷ []))
sorted_snoc [] none h = more (λ g i. not_in i) none
sorted_snoc {f} (e ∷ es) (more o r) h = more (λ g i. go g (in_snoc es i)) (sorted_snoc es r (λ g i. h g (later i)))
  where
    go : (g : Entry) → Where g f es → Before e g
    go g (Where.old j) = o g j
    go g (Where.new p) = subst (Before e) (sym p) (h e (first refl))

wider : {m : ℕ} {P : ℕ → Type 0} → Place m P → Place (suc m) P
wider t = record { at = t.at; small = omega (arith, t.small); is = t.is }

-- ---- the least

pub least_more : (f : ℕ → ℕ) (k : ℕ) → least_of f (suc k) ≡ min (f k) (least_of f k)
unfolding least_of
least_more f k = refl

pub least_same : (f g : ℕ → ℕ) (m : ℕ) → ((k : ℕ) → g k ≡ f k) → least_of g m ≡ least_of f m
unfolding least_of
least_same f g zero h = refl
least_same f g (suc m) h = ap₂ min (h m) (least_same f g m h)

pub least_le : (f : ℕ → ℕ) (m k : ℕ) → k < m → least_of f m ≤ f k
unfolding least_of
least_le f zero k h = absurd (omega arith)
least_le f (suc m) k h = go (ℕ_discrete k m) (λ l. least_le f m k l)
  where
    go : Dec (k ≡ m) → (k < m → least_of f m ≤ f k) → min (f m) (least_of f m) ≤ f k
    go (yes p) r = rw p (omega arith)
    go (no p) r = omega (arith, r (omega (arith, p)))

-- it is one of them, unless there is none below the number that stands for none
pub least_met : (f : ℕ → ℕ) (m : ℕ) → least_of f m < 32768 → Place m (λ k. f k ≡ least_of f m)
unfolding least_of
least_met f zero h = absurd (omega arith)
least_met f (suc m) h = go (dec_lt (f m) (least_of f m)) (λ l. least_met f m l)
  where
    go : Dec (f m < least_of f m) → (least_of f m < 32768 → Place m (λ k. f k ≡ least_of f m)) → Place (suc m) (λ k. f k ≡ min (f m) (least_of f m))
    go (yes l) r = record { at = m; small = omega arith; is = omega (arith, l) }
    go (no l) r =
        let e : min (f m) (least_of f m) ≡ least_of f m = omega (arith, l) in
        rw e (wider (r (omega (arith, e))))

module _ (w : List ℕ) (a : ℕ) where
  -- ---- the entries

  pub none_yet : (x0 y0 : ℕ) → entries_to w a x0 y0 0 ≡ []
  unfolding entries_to
  none_yet x0 y0 = refl

  pub entries_more : (x0 y0 k : ℕ) → entries_to w a x0 y0 (suc k) ≡ entries_to w a x0 y0 k ++ (entry_in w a x0 y0 k ∷ [])
  unfolding entries_to
  entries_more x0 y0 k = refl

  pub length_entries : (x0 y0 m : ℕ) → length (entries_to w a x0 y0 m) ≡ m
  length_entries x0 y0 zero = ap length (none_yet x0 y0)
  length_entries x0 y0 (suc m) = ap length (entries_more x0 y0 m) ∙ length-append (entries_to w a x0 y0 m) (entry_in w a x0 y0 m ∷ []) ∙ omega (arith, length_entries x0 y0 m)

  pub entry_of : (x0 y0 m : ℕ) (e : Entry) → In e (entries_to w a x0 y0 m) → Place m (λ k. e ≡ entry_in w a x0 y0 k)
  unfolding entries_to
  entry_of x0 y0 zero e i = not_in i
  entry_of x0 y0 (suc m) e i = go (in_snoc (entries_to w a x0 y0 m) i) (λ j. entry_of x0 y0 m e j)
    where
      go : Where e (entry_in w a x0 y0 m) (entries_to w a x0 y0 m) → (In e (entries_to w a x0 y0 m) → Place m (λ k. e ≡ entry_in w a x0 y0 k)) → Place (suc m) (λ k. e ≡ entry_in w a x0 y0 k)
      go (Where.old j) r = wider (r j)
      go (Where.new p) r = record { at = m; small = omega arith; is = p }

  pub entry_in_lem : (x0 y0 m k : ℕ) → k < m → In (entry_in w a x0 y0 k) (entries_to w a x0 y0 m)
  entry_in_lem x0 y0 zero k h = absurd (omega arith)
  entry_in_lem x0 y0 (suc m) k h = go (ℕ_discrete k m) (λ l. entry_in_lem x0 y0 m k l)
    where
      go : Dec (k ≡ m) → (k < m → In (entry_in w a x0 y0 k) (entries_to w a x0 y0 m)) → In (entry_in w a x0 y0 k) (entries_to w a x0 y0 (suc m))
      go (yes p) r = rw (p, entries_more x0 y0 m) (in_last (entries_to w a x0 y0 m))
      go (no p) r = rw (entries_more x0 y0 m) (in_front (entry_in w a x0 y0 m ∷ []) (r (omega (arith, p))))

  -- ---- their order

  pub before_at : (x0 y0 j k : ℕ) → key_in w a j < key_in w a k → x0 ≤ x_in w a j → y0 ≤ y_in w a j → Before (entry_in w a x0 y0 j) (entry_in w a x0 y0 k)
  before_at x0 y0 j k h p q = go (dec_lt (x_in w a j) (x_in w a k))
    where
      go : Dec (x_in w a j < x_in w a k) → Before (entry_in w a x0 y0 j) (entry_in w a x0 y0 k)
      go (yes l) = by_u (omega arith)
      go (no l) = by_v (omega arith) (omega arith)

  pub entries_sorted : (x0 y0 m : ℕ) → ((j k : ℕ) → j < k → k < m → key_in w a j < key_in w a k) → ((k : ℕ) → k < m → (x0 ≤ x_in w a k) × (y0 ≤ y_in w a k)) → Sorted Before (entries_to w a x0 y0 m)
  unfolding entries_to
  entries_sorted x0 y0 zero r b = none
  entries_sorted x0 y0 (suc m) r b = sorted_snoc (entries_to w a x0 y0 m) (entries_sorted x0 y0 m (λ j k h l. r j k h (omega arith)) (λ k l. b k (omega arith))) low
    where
      low : (e : Entry) → In e (entries_to w a x0 y0 m) → Before e (entry_in w a x0 y0 m)
      low e i =
          let t = entry_of x0 y0 m e i in
          let k : ℕ = t.at in
          let h : k < m = t.small in
          let l = b k (omega arith) in
          subst (λ (f : Entry). Before f (entry_in w a x0 y0 m)) (sym t.is) (before_at x0 y0 k m (r k m h (omega arith)) l.0 l.1)
