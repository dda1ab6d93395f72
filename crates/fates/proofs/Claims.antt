-- A run of one quad's records, in order of keys, that holds its reached corners: each record is a corner, so as many lone records as there
-- are lone corners; and a pair is claimed by several exactly where a record of it begins a stretch of equal keys. Assumes nothing.
use mathlib.Core.Path.{◌≡◌, refl, sym, ap, ◌∙◌}
use mathlib.Core.List.{List}
use Prim.Native.Nat.{ℕ, zero, suc, ◌+◌, ◌*◌, ◌-◌, ◌/◌, ◌%◌, ◌≤◌, ◌<◌}
use native.Mathlib.Decide.{ℕ_discrete, dec_lt}
use native.Mathlib.Omega.{arith}
use lib.ListN.{get_or}
use Rattle.words.specs.inner.Order.{word_of}
use Rattle.cells.specs.Kind.{Pair, ReachedCorner, Claimed}
use Rattle.cells.specs.Counted.{Exactly}
use Rattle.cells.specs.Quads.{quads}
use Rattle.cells.proofs.Counted.{Image, exactly_by, exactly_below}
use Rattle.fates.specs.inner.Fates.{key_in, corner_in, seed_in, Keyed, Holding}
use Rattle.fates.specs.inner.Index.{Stretch}
use Rattle.fates.specs.inner.Singles.{Follows}
use Rattle.fates.specs.inner.Judging.{Begins}
use Rattle.fates.proofs.LoneCorners.{same_pair, same_key}

-- ---- a run for itself

-- a word of a record, counted from record i on
pub word_from_lem : (w : List ℕ) (a b i k : ℕ) → word_of w (a + 2 * i) b k ≡ word_of w a b (i + k)
word_from_lem w a b i k = let e : a + 2 * i + 2 * k + b ≡ a + 2 * (i + k) + b = omega arith in ap (λ (p : ℕ). get_or w p 0) e

module _ {w : List ℕ} {a m s from to : ℕ} (r : Stretch w a m s from to) where
  abbrev b : ℕ
  b = a + 2 * from

  own_corner : (k : ℕ) → corner_in w b k ≡ corner_in w a (from + k)
  own_corner k = ap (λ (x : ℕ). x / 4096) (word_from_lem w a 1 from k)

  pub own_quad : (k : ℕ) → k < to - from → seed_in w b k ≡ s
  own_quad k h = ap (λ (x : ℕ). x % 4096) (word_from_lem w a 1 from k) ∙ r.within (from + k) (omega arith) (omega arith)

  -- a record of quad s is one of the run
  in_run_lem : (k : ℕ) → k < m → seed_in w a k ≡ s → (from ≤ k) × (k < to)
  in_run_lem k h e = go (dec_lt k from) (dec_lt k to)
    where
      go : Dec (k < from) → Dec (k < to) → (from ≤ k) × (k < to)
      go (yes l) d = absurd (omega (arith, r.before k l))
      go (no l) (yes d) = (omega arith, d)
      go (no l) (no d) = absurd (omega (arith, r.after k (omega arith) h))

  pub keys_rise : ((j k : ℕ) → j ≤ k → k < m → seed_in w a j * 4294967296 + key_in w a j ≤ seed_in w a k * 4294967296 + key_in w a k) → (j k : ℕ) → j ≤ k → k < to - from → key_in w b j ≤ key_in w b k
  keys_rise up j k h l =
      rw (word_from_lem w a 0 from j, word_from_lem w a 0 from k)
      (omega (arith, up (from + j) (from + k) (omega arith) (omega (arith, r.most)), r.within (from + j) (omega arith) (omega arith), r.within (from + k) (omega arith) (omega arith)))

  module _ (P : ℕ → Type 0) (L : ℕ → Pair) (H : Holding P L s w a m) where
    spot : (c : ℕ) (p : P c) → (from ≤ H.place c p) × (H.place c p < to)
    spot c p = in_run_lem (H.place c p) (H.placed c p) (H.of c p)

    back_to : (c : ℕ) (p : P c) → from + (H.place c p - from) ≡ H.place c p
    back_to c p = omega (arith, (spot c p).0)

    inside : (k : ℕ) → k < to - from → from + k < m
    inside k h = omega (arith, r.most)

    quad : (k : ℕ) → k < to - from → seed_in w a (from + k) ≡ s
    quad k h = r.within (from + k) (omega arith) (omega arith)

    pub run_holding : Holding P L s w b (to - from)
    run_holding = record {
      sound = λ k h e. rw (own_corner k) (H.sound (from + k) (inside k h) (quad k h));
      keyed = λ k h e. rw (own_corner k, word_from_lem w a 0 from k) (H.keyed (from + k) (inside k h) (quad k h));
      place = λ c p. H.place c p - from;
      placed = λ c p. omega (arith, (spot c p).0, (spot c p).1);
      of = λ c p. own_quad (H.place c p - from) (omega (arith, (spot c p).0, (spot c p).1));
      is = λ c p. own_corner (H.place c p - from) ∙ ap (corner_in w a) (back_to c p) ∙ H.is c p;
      once = λ j k hj hk ej ek e.
          let q : from + j ≡ from + k = H.once (from + j) (from + k) (inside j hj) (inside k hk) (quad j hj) (quad k hk) (sym (own_corner j) ∙ e ∙ own_corner k) in
          omega arith;
    }

-- ---- what a run counts

module _ (P : ℕ → Type 0) (L : ℕ → Pair) (s : ℕ) (w : List ℕ) (a count : ℕ) (own : (k : ℕ) → k < count → seed_in w a k ≡ s) (H : Holding P L s w a count) where
  pub run_counts : Exactly P count
  run_counts = exactly_by (λ k. k < count) P (corner_in w a) (λ k h. H.sound k h (own k h)) (λ j k hj hk e. H.once j k hj hk (own j hj) (own k hk) e)
      (λ c p. record { at = H.place c p; holds = H.placed c p; is = H.is c p })
      (exactly_below count)

module _ (cells : List ℕ) (L : ℕ → Pair) (s : ℕ) (w : List ℕ) (a count : ℕ) (own : (k : ℕ) → k < count → seed_in w a k ≡ s) (H : Holding (λ c. ReachedCorner quads cells s c) L s w a count) (up : (j k : ℕ) → j ≤ k → k < count → key_in w a j ≤ key_in w a k) where
  key_of : (k : ℕ) (h : k < count) → Keyed (L (corner_in w a k)) (key_in w a k)
  key_of k h = H.keyed k h (own k h)

  -- record k + 1 has the key of record k
  follows_by : (k : ℕ) → k + 1 < count → key_in w a k ≡ key_in w a (k + 1) → Follows w a (k + 1)
  follows_by k h e = record { before = k; next = refl; alike = record { seed = own k (omega arith) ∙ sym (own (k + 1) h); key = e } }

  followed : (k : ℕ) → Follows w a (k + 1) → key_in w a k ≡ key_in w a (k + 1)
  followed k f = let e : f.before ≡ k = omega (arith, f.next) in rw e at f.alike.key

  two_of : (k : ℕ) → Begins w a count k → Claimed quads cells s L (L (corner_in w a k))
  two_of k g =
      let h : k < count = omega (arith, g.more) in
      record {
        c = corner_in w a k;
        d = corner_in w a (k + 1);
        two = λ e. omega (arith, H.once k (k + 1) h g.more (own k h) (own (k + 1) g.more) e);
        first = H.sound k h (own k h);
        second = H.sound (k + 1) g.more (own (k + 1) g.more);
        at_c = refl;
        at_d = same_pair (key_of (k + 1) g.more) (key_of k h) (sym (followed k g.next));
      }

  -- of two that begin a stretch of one key the later would follow another
  not_later : (j k : ℕ) → Begins w a count j → Begins w a count k → key_in w a j ≡ key_in w a k → j < k → ⊥
  not_later j k f g e l =
      let h : k < count = omega (arith, g.more) in
      let z : k - 1 + 1 ≡ k = omega arith in
      let t : key_in w a (k - 1) ≡ key_in w a k = omega (arith, up j (k - 1) (omega arith) (omega arith), up (k - 1) k (omega arith) h) in
      g.first (rw z at (follows_by (k - 1) (omega arith) (rw z t)))

  one_each : (j k : ℕ) → Begins w a count j → Begins w a count k → L (corner_in w a j) ≡ L (corner_in w a k) → j ≡ k
  one_each j k f g e = go (dec_lt j k) (dec_lt k j)
    where
      level : key_in w a j ≡ key_in w a k
      level = same_key (key_of j (omega (arith, f.more))) (key_of k (omega (arith, g.more))) e

      go : Dec (j < k) → Dec (k < j) → j ≡ k
      go (yes l) d = absurd (not_later j k f g level l)
      go (no l) (yes d) = absurd (not_later k j g f (sym level) d)
      go (no l) (no d) = omega arith

  -- the first record with the key of record i
  record First (i : ℕ) : Type 0 where
    at : ℕ
    early : at ≤ i
    same : key_in w a at ≡ key_in w a i
    first : Follows w a at → ⊥

  first_of : (i : ℕ) → First i
  first_of zero = record { at = 0; early = omega arith; same = refl; first = λ f. omega (arith, f.next) }
  first_of (suc i) = go (first_of i) (ℕ_discrete (key_in w a i) (key_in w a (suc i)))
    where
      go : First i → Dec (key_in w a i ≡ key_in w a (suc i)) → First (suc i)
      go t (yes e) = record { at = t.at; early = omega (arith, t.early); same = t.same ∙ e; first = t.first }
      go t (no e) = record { at = suc i; early = omega arith; same = refl; first = λ f. let q : f.before ≡ i = omega (arith, f.next) in e (rw q at f.alike.key) }

  -- two records of one key, and the first of all with it
  begun : (i j : ℕ) → i < j → j < count → key_in w a i ≡ key_in w a j → Image (Begins w a count) (λ k. L (corner_in w a k)) (L (corner_in w a i))
  begun i j l h e =
      let t = first_of i in
      let k : ℕ = t.at in
      let m : k + 1 < count = omega (arith, t.early) in
      let q : key_in w a k ≡ key_in w a (k + 1) = omega (arith, t.same, up k (k + 1) (omega arith) m, up (k + 1) j (omega (arith, t.early)) h) in
      record { at = k; holds = record { first = t.first; more = m; next = follows_by k m q }; is = same_pair (key_of k (omega arith)) (key_of i (omega arith)) t.same }

  claimed_begun : (p : Pair) → Claimed quads cells s L p → Image (Begins w a count) (λ k. L (corner_in w a k)) p
  claimed_begun p g = go (dec_lt i j) (dec_lt j i)
    where
      i : ℕ
      i = H.place g.c g.first

      j : ℕ
      j = H.place g.d g.second

      at_i : L (corner_in w a i) ≡ p
      at_i = ap L (H.is g.c g.first) ∙ g.at_c

      at_j : L (corner_in w a j) ≡ p
      at_j = ap L (H.is g.d g.second) ∙ g.at_d

      level : key_in w a i ≡ key_in w a j
      level = same_key (key_of i (H.placed g.c g.first)) (key_of j (H.placed g.d g.second)) (at_i ∙ sym at_j)

      go : Dec (i < j) → Dec (j < i) → Image (Begins w a count) (λ k. L (corner_in w a k)) p
      go (yes l) d = rw at_i at (begun i j l (H.placed g.d g.second) level)
      go (no l) (yes d) = rw at_j at (begun j i d (H.placed g.c g.first) (sym level))
      go (no l) (no d) =
          let e : i ≡ j = omega arith in
          absurd (g.two (sym (H.is g.c g.first) ∙ ap (corner_in w a) e ∙ H.is g.d g.second))

  pub claims_count : {claims : ℕ} → Exactly (Begins w a count) claims → Exactly (Claimed quads cells s L) claims
  claims_count E = exactly_by (Begins w a count) (Claimed quads cells s L) (λ k. L (corner_in w a k)) two_of one_each claimed_begun E
