-- A reached corner is lone exactly when its record is single, since equal keys are equal pairs: so the single records are those of the
-- lone corners. With the records in order that is what stands in the workspace before the groups are judged. Assumes nothing.
use mathlib.Core.Path.{◌≡◌, refl, sym, ap, ap₂, ◌∙◌}
use mathlib.Core.Logic.{◌≢◌}
use mathlib.Core.List.{List}
use Prim.Native.Nat.{ℕ, ◌+◌, ◌*◌, ◌≤◌, ◌<◌}
use native.Mathlib.Decide.{dec_lt}
use native.Mathlib.Omega.{arith}
use lib.IntN.{ℤ}
use lib.ListN.{length}
use Rattle.words.specs.inner.Order.{grouped_of}
use Rattle.words.proofs.Rank.{below_le}
use Rattle.cells.specs.Kind.{Pair, ReachedCorner, Lone}
use Rattle.cells.specs.Listed.{Grouping}
use Rattle.cells.specs.Quads.{quads}
use Rattle.laying.specs.inner.Layout.{label}
use Rattle.fates.specs.inner.Fates.{fates_at, records_at, walked_at, lone_at, fate_of, walked_of, corner_in, seed_in, Keyed, Holding, Laid, Walk, Owned, Gathered, Alone}
use Rattle.fates.specs.inner.Fates.Walk.{within, none, laid}
use Rattle.fates.specs.inner.Singles.{Unique, CopyOf, From, To, Batch, LoneFrom}
use Rattle.laying.proofs.Reading.{same_word}
use Rattle.fates.proofs.Holdings.{walk_with}
use Rattle.fates.proofs.Picking.{seed_copied, grouped_copied, there, ordered_ascends}
use Rattle.fates.proofs.InOrder.{corner_copied, ordered_holding}

-- ---- keys and pairs

pub key_small : {p : Pair} {key : ℕ} → Keyed p key → key < 4294967296
key_small K = omega (arith, K.is, K.x_near.high, K.y_near.high)

pub same_pair : {p q : Pair} {k l : ℕ} → Keyed p k → Keyed q l → k ≡ l → p ≡ q
same_pair K M e =
    let x : K.x ≡ M.x = omega (arith, K.is, M.is, K.x_near.high, K.y_near.high, M.x_near.high, M.y_near.high) in
    let y : K.y ≡ M.y = omega (arith, K.is, M.is, K.x_near.high, K.y_near.high, M.x_near.high, M.y_near.high) in
    K.pair ∙ ap₂ (λ (u v : ℤ). (u, v)) (ap label x) (ap label y) ∙ sym M.pair

pub same_key : {p q : Pair} {k l : ℕ} → Keyed p k → Keyed q l → p ≡ q → k ≡ l
same_key {p} {q} K M e =
    let f : ◌≡◌ {A = Pair} (label K.x, label K.y) (label M.x, label M.y) = sym K.pair ∙ e ∙ M.pair in
    let x : K.x ≡ M.x = same_word K.x M.x (ap (λ (r : Pair). r.0) f) in
    let y : K.y ≡ M.y = same_word K.y M.y (ap (λ (r : Pair). r.1) f) in
    omega (arith, K.is, M.is)

-- ---- the records of one seed

module _ (cells : List ℕ) (s : ℕ) (L : ℕ → Pair) (xs : List ℕ) (a m : ℕ) (H : Holding (λ c. ReachedCorner quads cells s c) L s xs a m) where
  single_lone : (k : ℕ) → k < m → seed_in xs a k ≡ s → Unique xs a m k → Lone quads cells s L (corner_in xs a k)
  single_lone k h e o = record {
    reached = H.sound k h e;
    alone = λ d p q. sym (H.is d p) ∙ ap (corner_in xs a) (o (H.place d p) (H.placed d p) (record {
      seed = H.of d p ∙ sym e;
      key = same_key (H.keyed (H.place d p) (H.placed d p) (H.of d p)) (H.keyed k h e) (ap L (H.is d p) ∙ q);
    }));
  }

  lone_single : (k : ℕ) → k < m → seed_in xs a k ≡ s → Lone quads cells s L (corner_in xs a k) → Unique xs a m k
  lone_single k h e o j l t =
      let f : seed_in xs a j ≡ s = t.seed ∙ e in
      H.once j k l h f e (o.alone (corner_in xs a j) (H.sound j l f) (same_pair (H.keyed j l f) (H.keyed k h e) t.key))

  module _ (ys : List ℕ) (b r : ℕ) (F : LoneFrom xs ys a b m r) where
    -- a picked record is one of the seed where it came from
    own_seed : (i : ℕ) (h : i < r) → seed_in ys b i ≡ s → seed_in xs a (F.picked.from i h).of ≡ s
    own_seed i h e = sym (seed_copied (F.picked.from i h).copied) ∙ e

    found : (c : ℕ) (o : Lone quads cells s L c) → To xs ys a b r (H.place c o.reached)
    found c o =
        let k : ℕ = H.place c o.reached in
        let e : corner_in xs a k ≡ c = H.is c o.reached in
        F.picked.to k (H.placed c o.reached) (lone_single k (H.placed c o.reached) (H.of c o.reached) (rw e o))

    -- two of one corner are one record where they came from, and so one of the picked
    once : (i j : ℕ) → i < r → j < r → seed_in ys b i ≡ s → seed_in ys b j ≡ s → corner_in ys b i ≡ corner_in ys b j → i ≡ j
    once i j h l e f q = go (dec_lt i j) (dec_lt j i)
      where
        p : From xs ys a b m m i
        p = F.picked.from i h

        t : From xs ys a b m m j
        t = F.picked.from j l

        level : grouped_of ys b i ≡ grouped_of ys b j
        level = grouped_copied p.copied ∙ ap (grouped_of xs a) (H.once p.of t.of p.small t.small (own_seed i h e) (own_seed j l f) (sym (corner_copied p.copied) ∙ q ∙ corner_copied t.copied)) ∙ sym (grouped_copied t.copied)

        go : Dec (i < j) → Dec (j < i) → i ≡ j
        go (yes u) v = absurd (omega (arith, level, F.picked.rises i j u l))
        go (no u) (yes v) = absurd (omega (arith, level, F.picked.rises j i v h))
        go (no u) (no v) = omega arith

    lone_holding : Holding (λ c. Lone quads cells s L c) L s ys b r
    lone_holding = record {
      sound = λ i h e. let f = F.picked.from i h in rw (corner_copied f.copied) (single_lone f.of f.small (own_seed i h e) f.single);
      keyed = λ i h e. let f = F.picked.from i h in rw (corner_copied f.copied, f.copied.key) (H.keyed f.of f.small (own_seed i h e));
      place = λ c o. (found c o).at;
      placed = λ c o. (found c o).small;
      of = λ c o. seed_copied (found c o).copied ∙ H.of c o.reached;
      is = λ c o. corner_copied (found c o).copied ∙ H.is c o.reached;
      once = once;
    }

-- ---- all of them

-- a walk with a word is laid
pub laid_by : {cells : List ℕ} {g : Grouping} {P : (ℕ → Pair) → ℕ → Type 0} {s : ℕ} {w : List ℕ} {a m v : ℕ} → Walk cells g P s w a m v → g.number s ≡ s → v ≢ 0 → Laid cells g P s w a m
laid_by (within n) e z = absurd (n e)
laid_by (none i o) e z = absurd (z refl)
laid_by (laid y p) e z = p

module _ (cells : List ℕ) (g : Grouping) (span m : ℕ) (xs : List ℕ) (G : Gathered cells g span g.n m xs) where
  few_records : m ≤ 4 * g.n
  few_records = omega (arith, G.few, below_le g.number g.n g.n)

  abbrev a : ℕ
  a = records_at span g.n

  pub batch_of : 4 * span + 26 * g.n ≤ length xs → g.n ≤ 4096 → Batch span g.n m xs
  batch_of room most = record {
    room = room;
    most = most;
    few = few_records;
    small = λ k h. let o = G.own k h in key_small ((laid_by (G.walks (seed_in xs a k) o.small) o.lowest o.walked).holding.keyed k h refl);
  }

  module _ (ys : List ℕ) (r : ℕ) (F : LoneFrom xs ys a (lone_at span) m r) where
    same_walked : (q : ℕ) → walked_of span g.n ys q ≡ walked_of span g.n xs q
    same_walked q = F.ordered.rest (walked_at span g.n + q) (λ j l e. omega (arith, few_records)) (λ j l e. omega (arith, few_records))

    same_size : (q : ℕ) → q < g.n → fate_of span g.n ys q ≡ fate_of span g.n xs q
    same_size q h = F.ordered.rest (fates_at span g.n + q) (λ j l e. omega arith) (λ j l e. omega (arith, few_records))

    -- a record is still of the group of which it was
    owned_copied : {b j k : ℕ} → j < m → CopyOf xs ys a b j k → Owned cells g span g.n b ys k
    owned_copied {b} {j} {k} h p =
        let o = G.own j h in
        let e = seed_copied p in
        record { small = omega (arith, e, o.small); lowest = rw e o.lowest; walked = rw (e, same_walked (seed_in xs a j)) o.walked }

    pub alone_from : Alone cells g span m r ys
    alone_from = record {
      walks = λ q h. rw (same_walked q) (walk_with (λ L H. ordered_holding F.ordered H) (G.walks q h));
      lones = λ q h. rw (same_walked q) (walk_with (λ L H. lone_holding cells q L xs a m H ys (lone_at span) r F) (G.walks q h));
      sizes = λ q h. same_size q h ∙ G.sizes q h;
      own_all = λ k h. owned_copied (F.ordered.order.from_lt k h) (there xs ys a (lone_at span) m F.ordered k h);
      own = λ k h. let f = F.picked.from k h in owned_copied f.small f.copied;
      ascends = ordered_ascends xs ys a (lone_at span) m F.ordered;
      rises = F.picked.rises;
      few_all = few_records;
      few = omega (arith, F.picked.few, few_records);
    }
