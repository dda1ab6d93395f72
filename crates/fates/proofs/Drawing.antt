-- Words that become records: a corner with words loses them to one record more, a quad loses its mark, and one such change after another
-- is a change of the same kind. Assumes nothing.
use mathlib.Core.Path.{◌≡◌, refl, sym, ap, ap₂, ◌∙◌, subst}
use mathlib.Core.Logic.{◌≢◌}
use mathlib.Core.List.{List}
use Prim.Native.Nat.{ℕ, ◌+◌, ◌*◌, ◌/◌, ◌%◌, ◌≤◌, ◌<◌}
use native.Mathlib.Decide.{ℕ_discrete, dec_lt}
use native.Mathlib.Omega.{arith}
use lib.ListN.{length, get_or, set, length-set}
use lib.Seq.{get_or-set_same, get_or-set_other}
use Rattle.words.specs.inner.Order.{word_of}
use Rattle.words.proofs.Regions.{set_cases}
use Rattle.laying.specs.inner.Layout.{first_word, second_word}
use Rattle.laying.specs.inner.Settling.{Bears}
use Rattle.fates.specs.inner.Fates.{records_at, corner_in, seed_in}
use Rattle.fates.specs.inner.Gathering.{Copied, Recorded, Drawn}

-- ---- a mark, a corner

pub drawn_mark : {span n seed m : ℕ} {xs : List ℕ} (q : ℕ) → q < n → n ≤ span → 4 * span ≤ length xs → Drawn span n seed xs (set xs q 0) m m
drawn_mark {span} {n} {seed} {m} {xs} q h few room = record {
  len = length-set xs q 0;
  more = omega arith;
  middle = λ k l u. other k (omega arith);
  zero = λ k l e. set_cases (λ (z : ℕ). z ≡ 0) xs q 0 k (omega arith) (λ _. refl) (λ _. e);
  kept = λ c l e. record { first = other (2 * span + c) (omega arith); second = other (3 * span + c) (omega arith) };
  both = λ c l e f. absurd (e (sym (other (2 * span + c) (omega arith)) ∙ f));
  before = λ k l u. other k (omega arith);
  after = λ k l. other k (omega arith);
  copied = λ k l u. absurd (omega arith);
  every = λ c l e f. absurd (e (sym (other (2 * span + c) (omega arith)) ∙ f));
  once = λ j k lj hj lk hk e. absurd (omega arith);
}
  where
    other : (k : ℕ) → n ≤ k → get_or (set xs q 0) k 0 ≡ get_or xs k 0
    other k l = get_or-set_other xs q k 0 0 (λ e. omega arith)

-- corner c has no words in zs, and record m has those of xs
pub record Written (span n seed : ℕ) (xs zs : List ℕ) (m c : ℕ) : Type 0 where
  pub len : length zs ≡ length xs
  pub key : word_of zs (records_at span n) 0 m ≡ first_word span xs c * 32768 + second_word span xs c
  pub number : word_of zs (records_at span n) 1 m ≡ c * 4096 + seed
  pub first : first_word span zs c ≡ 0
  pub second : second_word span zs c ≡ 0
  pub rest : (k : ℕ) → k ≢ records_at span n + 2 * m → k ≢ records_at span n + 2 * m + 1 → k ≢ 2 * span + c → k ≢ 3 * span + c → get_or zs k 0 ≡ get_or xs k 0

pub written : {span n seed : ℕ} (xs : List ℕ) {m c : ℕ} (x y : ℕ) → 4 * span + 26 * n ≤ length xs → c < span → m < 4 * n → x ≡ first_word span xs c → y ≡ second_word span xs c
    → Written span n seed xs (set (set (set (set xs (4 * span + 14 * n + 2 * m) (x * 32768 + y)) (4 * span + 14 * n + 2 * m + 1) (c * 4096 + seed)) (2 * span + c) 0) (3 * span + c) 0) m c
written {span} {n} {seed} xs {m} {c} x y room hc hm ex ey =
    let i = 4 * span + 14 * n + 2 * m in
    let a = set xs i (x * 32768 + y) in
    let b = set a (i + 1) (c * 4096 + seed) in
    let d = set b (2 * span + c) 0 in
    let la : length a ≡ length xs = length-set xs i (x * 32768 + y) in
    let lb : length b ≡ length a = length-set a (i + 1) (c * 4096 + seed) in
    let ld : length d ≡ length b = length-set b (2 * span + c) 0 in
    record {
      len = length-set d (3 * span + c) 0 ∙ ld ∙ lb ∙ la;
      key = ap (λ (k : ℕ). get_or (set d (3 * span + c) 0) k 0) (omega arith) ∙ get_or-set_other d (3 * span + c) i 0 0 (λ e. omega arith) ∙ get_or-set_other b (2 * span + c) i 0 0 (λ e. omega arith)
          ∙ get_or-set_other a (i + 1) i (c * 4096 + seed) 0 (λ e. omega arith) ∙ get_or-set_same xs i (x * 32768 + y) 0 (omega arith) ∙ ap₂ (λ (u v : ℕ). u * 32768 + v) ex ey;
      number = get_or-set_other d (3 * span + c) (i + 1) 0 0 (λ e. omega arith) ∙ get_or-set_other b (2 * span + c) (i + 1) 0 0 (λ e. omega arith) ∙ get_or-set_same a (i + 1) (c * 4096 + seed) 0 (omega arith);
      first = get_or-set_other d (3 * span + c) (2 * span + c) 0 0 (λ e. omega arith) ∙ get_or-set_same b (2 * span + c) 0 0 (omega arith);
      second = get_or-set_same d (3 * span + c) 0 0 (omega arith);
      rest = λ k e f g h. get_or-set_other d (3 * span + c) k 0 0 h ∙ get_or-set_other b (2 * span + c) k 0 0 g ∙ get_or-set_other a (i + 1) k (c * 4096 + seed) 0 f ∙ get_or-set_other xs i k (x * 32768 + y) 0 e;
    }

module _ {span n seed : ℕ} {xs zs : List ℕ} {m c : ℕ} (w : Written span n seed xs zs m c) (few : span ≤ 4096) (n_few : n ≤ span) (hc : c < span) (hs : seed < n) where
  corner_is : corner_in zs (records_at span n) m ≡ c
  corner_is = omega (arith, w.number)

  seed_is : seed_in zs (records_at span n) m ≡ seed
  seed_is = omega (arith, w.number)

  pub drawn_one : first_word span xs c ≢ 0 → Drawn span n seed xs zs m (m + 1)
  drawn_one had = record {
    len = w.len;
    more = omega arith;
    middle = λ k l h. w.rest k (λ e. omega arith) (λ e. omega arith) (λ e. omega arith) (λ e. omega arith);
    zero = λ k l e. zero_at k l e (ℕ_discrete k (2 * span + c)) (ℕ_discrete k (3 * span + c));
    kept = λ d l e. kept_at d l e (ℕ_discrete d c);
    both = λ d l e f. both_at d l e f (ℕ_discrete d c);
    before = λ k l h. w.rest k (λ e. omega arith) (λ e. omega arith) (λ e. omega arith) (λ e. omega arith);
    after = λ k l. w.rest k (λ e. omega arith) (λ e. omega arith) (λ e. omega arith) (λ e. omega arith);
    copied = λ k l h. subst (λ (j : ℕ). Copied span seed xs zs (records_at span n) j) (omega arith) here;
    every = λ d l e f. every_at d l e f (ℕ_discrete d c);
    once = λ j k lj hj lk hk e. omega arith;
  }
    where
      zero_at : (k : ℕ) → k < 4 * span → get_or xs k 0 ≡ 0 → Dec (k ≡ 2 * span + c) → Dec (k ≡ 3 * span + c) → get_or zs k 0 ≡ 0
      zero_at k l e (yes f) g = ap (λ (j : ℕ). get_or zs j 0) f ∙ w.first
      zero_at k l e (no f) (yes g) = ap (λ (j : ℕ). get_or zs j 0) g ∙ w.second
      zero_at k l e (no f) (no g) = w.rest k (λ h. omega arith) (λ h. omega arith) f g ∙ e

      same_first : (d : ℕ) → d < span → d ≢ c → first_word span zs d ≡ first_word span xs d
      same_first d l f = w.rest (2 * span + d) (λ h. omega arith) (λ h. omega arith) (λ h. f (omega arith)) (λ h. omega arith)

      same_second : (d : ℕ) → d < span → d ≢ c → second_word span zs d ≡ second_word span xs d
      same_second d l f = w.rest (3 * span + d) (λ h. omega arith) (λ h. omega arith) (λ h. omega arith) (λ h. f (omega arith))

      kept_at : (d : ℕ) → d < span → first_word span zs d ≢ 0 → Dec (d ≡ c) → Bears span zs d (first_word span xs d) (second_word span xs d)
      kept_at d l e (yes f) = absurd (e (ap (first_word span zs) f ∙ w.first))
      kept_at d l e (no f) = record { first = same_first d l f; second = same_second d l f }

      both_at : (d : ℕ) → d < span → first_word span xs d ≢ 0 → first_word span zs d ≡ 0 → Dec (d ≡ c) → second_word span zs d ≡ 0
      both_at d l e f (yes g) = ap (second_word span zs) g ∙ w.second
      both_at d l e f (no g) = absurd (e (sym (same_first d l g) ∙ f))

      here : Copied span seed xs zs (records_at span n) m
      here = record {
        small = omega (arith, corner_is);
        had = rw corner_is had;
        gone = rw corner_is w.first;
        key = rw corner_is w.key;
        of = seed_is;
      }

      every_at : (d : ℕ) → d < span → first_word span xs d ≢ 0 → first_word span zs d ≡ 0 → Dec (d ≡ c) → Recorded zs (records_at span n) m (m + 1) d
      every_at d l e f (yes g) = record { at = m; from = omega arith; small = omega arith; is = corner_is ∙ sym g }
      every_at d l e f (no g) = absurd (e (sym (same_first d l g) ∙ f))

-- ---- one change after another

module _ {span n seed : ℕ} {xs ys zs : List ℕ} {m r s : ℕ} (d : Drawn span n seed xs ys m r) (e : Drawn span n seed ys zs r s) where
  same_word : (k i : ℕ) → k < r → i < 2 → word_of zs (records_at span n) i k ≡ word_of ys (records_at span n) i k
  same_word k i h l = e.before (records_at span n + 2 * k + i) (omega arith) (omega arith)

  same_corner : (k : ℕ) → k < r → corner_in zs (records_at span n) k ≡ corner_in ys (records_at span n) k
  same_corner k h = ap (λ (w : ℕ). w / 4096) (same_word k 1 h (omega arith))

  copied_both : (k : ℕ) → m ≤ k → k < s → Dec (k < r) → Copied span seed xs zs (records_at span n) k
  copied_both k l h (yes b) =
      let o = d.copied k l b in
      record {
        small = rw (same_corner k b) o.small;
        had = rw (same_corner k b) o.had;
        gone = rw (same_corner k b) (e.zero (2 * span + corner_in ys (records_at span n) k) (omega (arith, o.small)) o.gone);
        key = rw (same_corner k b) (same_word k 0 b (omega arith) ∙ o.key);
        of = ap (λ (w : ℕ). w % 4096) (same_word k 1 b (omega arith)) ∙ o.of;
      }
  copied_both k l h (no b) =
      let o = e.copied k (omega arith) h in
      let t = d.kept (corner_in zs (records_at span n) k) o.small o.had in
      record {
        small = o.small;
        had = λ z. o.had (t.first ∙ z);
        gone = o.gone;
        key = o.key ∙ ap₂ (λ (u v : ℕ). u * 32768 + v) t.first t.second;
        of = o.of;
      }

  every_both : (c : ℕ) → c < span → first_word span xs c ≢ 0 → first_word span zs c ≡ 0 → Dec (first_word span ys c ≡ 0) → Recorded zs (records_at span n) m s c
  every_both c h f g (yes z) =
      let o = d.every c h f z in
      record { at = o.at; from = o.from; small = omega (arith, o.small, e.more); is = same_corner o.at o.small ∙ o.is }
  every_both c h f g (no z) =
      let o = e.every c h z g in
      record { at = o.at; from = omega (arith, o.from, d.more); small = o.small; is = o.is }

  -- a record of the first change and one of the second are of two corners
  apart : (j k : ℕ) → m ≤ j → j < r → r ≤ k → k < s → corner_in zs (records_at span n) j ≡ corner_in zs (records_at span n) k → ⊥
  apart j k lj hj lk hk q = (e.copied k lk hk).had (ap (first_word span ys) (sym q ∙ same_corner j hj) ∙ (d.copied j lj hj).gone)

  once_both : (j k : ℕ) → m ≤ j → j < s → m ≤ k → k < s → corner_in zs (records_at span n) j ≡ corner_in zs (records_at span n) k → Dec (j < r) → Dec (k < r) → j ≡ k
  once_both j k lj hj lk hk q (yes a) (yes b) = d.once j k lj a lk b (sym (same_corner j a) ∙ q ∙ same_corner k b)
  once_both j k lj hj lk hk q (yes a) (no b) = absurd (apart j k lj a (omega arith) hk q)
  once_both j k lj hj lk hk q (no a) (yes b) = absurd (apart k j lk b (omega arith) hj (sym q))
  once_both j k lj hj lk hk q (no a) (no b) = e.once j k (omega arith) hj (omega arith) hk q

  pub drawn_on : Drawn span n seed xs zs m s
  drawn_on = record {
    len = e.len ∙ d.len;
    more = omega (arith, d.more, e.more);
    middle = λ k l h. e.middle k l h ∙ d.middle k l h;
    zero = λ k h z. e.zero k h (d.zero k h z);
    kept = λ c h z. let t = e.kept c h z in let u = d.kept c h (λ y. z (t.first ∙ y)) in record { first = t.first ∙ u.first; second = t.second ∙ u.second };
    both = λ c h f z. both_both c h f z (ℕ_discrete (first_word span ys c) 0);
    before = λ k l h. e.before k l (omega (arith, d.more)) ∙ d.before k l h;
    after = λ k h. e.after k h ∙ d.after k (omega (arith, e.more));
    copied = λ k l h. copied_both k l h (dec_lt k r);
    every = λ c h f z. every_both c h f z (ℕ_discrete (first_word span ys c) 0);
    once = λ j k lj hj lk hk q. once_both j k lj hj lk hk q (dec_lt j r) (dec_lt k r);
  }
    where
      both_both : (c : ℕ) → c < span → first_word span xs c ≢ 0 → first_word span zs c ≡ 0 → Dec (first_word span ys c ≡ 0) → second_word span zs c ≡ 0
      both_both c h f z (yes y) = e.zero (3 * span + c) (omega arith) (d.both c h f y)
      both_both c h f z (no y) = e.both c h y z
