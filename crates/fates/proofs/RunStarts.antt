-- Runs of equal keys in an ordered table: where each begins, as its places are met one by one, and the table that the walk asks when all
-- are told. Assumes nothing.
use mathlib.Core.Path.{◌≡◌, sym, ap, ◌∙◌}
use mathlib.Core.List.{List}
use Prim.Native.Nat.{ℕ, ◌+◌, ◌*◌, ◌/◌, ◌≤◌, ◌<◌}
use native.Mathlib.Decide.{ℕ_discrete, dec_lt, dec_le}
use native.Mathlib.Omega.{arith}
use lib.ListN.{length, get_or, set}
use Rattle.words.proofs.Regions.{set_cases, kept_set}
use Rattle.cells.specs.inner.Sides.{side_key}
use Rattle.laying.specs.inner.Layout.{key_at, number_at, run_of, Across, InRun, Table}
use Rattle.fates.specs.inner.Runs.{Rising, Begin, Told, Started}
use Rattle.fates.specs.inner.Runs.Started.{new, old}
use Rattle.fates.specs.inner.Prepared.{SideTable}

-- ---- one place more

-- the run that began at f goes on up to i, and all before it is lower
pub record Ahead (key : ℕ → ℕ) (f i : ℕ) : Type 0 where
  pub le : f ≤ i
  pub run : (j : ℕ) → f ≤ j → j < i → key j ≡ key f
  pub before : (j : ℕ) → j < f → key j < key f

pub begins : (key : ℕ → ℕ) {f i r : ℕ} → Ahead key f i → key f ≤ key i → Started key f i r → Begin key r i × Ahead key r (i + 1)
begins key {f} {i} {r} a s (old e q) = rw q (
  record { le = a.le; run = λ j x y. go j x y (ℕ_discrete j i); before = λ j x y. omega (arith, a.before j x, e, y) },
  record { le = omega (arith, a.le); run = λ j x y. go j x (omega arith) (ℕ_discrete j i) ∙ e; before = a.before },
)
  where
    go : (j : ℕ) → f ≤ j → j ≤ i → Dec (j ≡ i) → key j ≡ key i
    go j x y (yes d) = ap key d
    go j x y (no d) = a.run j x (omega arith) ∙ sym e
begins key {f} {i} {r} a s (new e q) = rw q (
  record { le = omega arith; run = λ j x y. ap key (omega arith); before = λ j x y. omega (arith, lower j x (dec_lt j f), y) },
  record { le = omega arith; run = λ j x y. ap key (omega arith); before = λ j x. lower j x (dec_lt j f) },
)
  where
    strict : key f < key i
    strict = omega (arith, s, e)

    lower : (j : ℕ) → j < i → Dec (j < f) → key j < key i
    lower j x (yes d) = omega (arith, a.before j d, strict)
    lower j x (no d) = omega (arith, a.run j (omega arith) x, strict)

-- an earlier place of the same key is in the same run
earlier : {key : ℕ → ℕ} {r i : ℕ} (j : ℕ) → Begin key r i → j ≤ i → key j ≡ key i → Begin key r j
earlier {key} {r} {i} j b h e = record { le = go (dec_le r j); run = λ l x y. b.run l x (omega arith) ∙ sym e; before = λ l x y. b.before l x (y ∙ e) }
  where
    go : Dec (r ≤ j) → r ≤ j
    go (yes d) = d
    go (no d) = absurd (b.before j (omega arith) e)

-- ---- the starts

pub told_more : {span n : ℕ} {xs ys : List ℕ} {i : ℕ} (e r : ℕ) → Rising span n xs → Told span n xs ys i → i < 4 * n → e ≡ number_at span xs i → Begin (key_at span xs) r i → Told span n xs (set ys (4 * span + 8 * n + e) r) (i + 1)
told_more {span} {n} {xs} {ys} {i} e r o t h is b =
    let small : e < 4 * n = rw is (o.sides i h) in
    record {
      kept = kept_set t.kept (4 * span + 8 * n + e) r (omega arith) (omega arith);
      begin = λ j l. set_cases (λ (z : ℕ). Begin (key_at span xs) z j) ys (4 * span + 8 * n + e) r (4 * span + 8 * n + number_at span xs j) (omega (arith, o.room, t.kept.len))
          (λ s. earlier j b (omega arith) (o.alike j i (omega arith) h (omega (arith, s, is))))
          (λ s. t.begin j (before j l (λ d. s (ap (λ (z : ℕ). 4 * span + 8 * n + z) (ap (number_at span xs) d ∙ sym is)))));
    }
  where
    before : (j : ℕ) → j < i + 1 → (j ≡ i → ⊥) → j < i
    before j l d = omega arith

-- the table itself is as it was
same_key : {span n : ℕ} {xs ys : List ℕ} {t : ℕ} → Told span n xs ys t → (i : ℕ) → i < 4 * n → key_at span ys i ≡ key_at span xs i
same_key {span} w i h = w.kept.rest (4 * span + 2 * i) (λ j l e. omega arith)

pub same_number : {span n : ℕ} {xs ys : List ℕ} {t : ℕ} → Told span n xs ys t → (i : ℕ) → i < 4 * n → number_at span ys i ≡ number_at span xs i
same_number {span} w i h = w.kept.rest (4 * span + 2 * i + 1) (λ j l e. omega arith)

pub started_same : {span n : ℕ} {xs ys : List ℕ} {t f i r : ℕ} → Told span n xs ys t → i < 4 * n → f < 4 * n → Started (key_at span ys) f i r → Started (key_at span xs) f i r
started_same {span} {n} {xs} {ys} {t} {f} {i} w hi hf (new e q) = new (λ z. e (same_key w i hi ∙ z ∙ sym (same_key w f hf))) q
started_same {span} {n} {xs} {ys} {t} {f} {i} w hi hf (old e q) = old (sym (same_key w i hi) ∙ e ∙ same_key w f hf) q

-- ---- the table that the walk asks

-- sides that are across from one another have one key
across_key : {cells : List ℕ} {e g : ℕ} → Across cells e g → side_key 4 cells (e / 4) e ≡ side_key 4 cells (g / 4) g
across_key a = omega (arith, a.start, a.end)

-- zs has the words of the table and of its run starts
module _ (span : ℕ) (cells : List ℕ) (n : ℕ) (xs ys zs : List ℕ) (T : SideTable span cells n xs) (told : Told span n xs ys (4 * n))
    (still : (k : ℕ) → 4 * span ≤ k → k < 4 * span + 12 * n → get_or zs k 0 ≡ get_or ys k 0) where
  key_of : (i : ℕ) → i < 4 * n → key_at span zs i ≡ key_at span xs i
  key_of i h = still (4 * span + 2 * i) (omega arith) (omega arith) ∙ same_key told i h

  number_of : (i : ℕ) → i < 4 * n → number_at span zs i ≡ number_at span xs i
  number_of i h = still (4 * span + 2 * i + 1) (omega arith) (omega arith) ∙ same_number told i h

  -- the run of side e begins where its place's does
  begin_of : (e : ℕ) → e < 4 * n → Begin (key_at span xs) (run_of span n zs e) (T.place_of e)
  begin_of e h = rw (still (4 * span + 8 * n + e) (omega arith) (omega arith)) (rw (T.is e h) at (told.begin (T.place_of e) (T.small e h)))

  own_key : (e : ℕ) → e < 4 * n → key_at span xs (T.place_of e) ≡ side_key 4 cells (e / 4) e
  own_key e h = T.keys (T.place_of e) (T.small e h) ∙ ap (λ (z : ℕ). side_key 4 cells (z / 4) z) (T.is e h)

  run_small : (e : ℕ) → e < 4 * n → run_of span n zs e < 4 * n
  run_small e h = omega (arith, (begin_of e h).le, T.small e h)

  start_key : (e : ℕ) → e < 4 * n → key_at span zs (run_of span n zs e) ≡ key_at span xs (T.place_of e)
  start_key e h = key_of (run_of span n zs e) (run_small e h) ∙ (begin_of e h).run (run_of span n zs e) (omega arith) (begin_of e h).le

  module _ (e g : ℕ) (he : e < 4 * n) (hg : g < 4 * n) (a : Across cells e g) where
    one_key : key_at span xs (T.place_of g) ≡ key_at span xs (T.place_of e)
    one_key = own_key g hg ∙ sym (across_key a) ∙ sym (own_key e he)

    from : Dec (run_of span n zs e ≤ T.place_of g) → run_of span n zs e ≤ T.place_of g
    from (yes d) = d
    from (no d) = absurd ((begin_of e he).before (T.place_of g) (omega arith) one_key)

    level : (i : ℕ) → run_of span n zs e ≤ i → i ≤ T.place_of g → Dec (i ≤ T.place_of e) → key_at span xs i ≡ key_at span xs (T.place_of e)
    level i x y (yes d) = (begin_of e he).run i x d
    level i x y (no d) = omega (arith, T.ascends (T.place_of e) i (omega arith) (omega (arith, T.small g hg)), T.ascends i (T.place_of g) y (T.small g hg), one_key)

    meets : InRun span n zs e g
    meets = record {
      at = T.place_of g;
      from = from (dec_le (run_of span n zs e) (T.place_of g));
      small = T.small g hg;
      is = number_of (T.place_of g) (T.small g hg) ∙ T.is g hg;
      run = λ i x y. key_of i (omega (arith, T.small g hg)) ∙ level i x y (dec_le i (T.place_of e)) ∙ sym (start_key e he);
    }

  pub walk_table : 4 * span + 26 * n ≤ length zs → Table span cells n zs
  walk_table room = record {
    room = room;
    sides = λ i h. rw (number_of i h) (T.sides i h);
    runs = run_small;
    key = λ e h. start_key e h ∙ own_key e h;
    meets = meets;
  }
