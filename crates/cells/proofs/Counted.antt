-- How many there are of a kind is one number; it goes over to another kind whose members are, one for one, those of the first; and over
-- numbers below a bound it is counted one number at a time. Assumes nothing.
use mathlib.Core.Path.{◌≡◌, refl, sym, ap, ◌∙◌}
use Prim.Native.Nat.{ℕ, zero, suc, ◌+◌, ◌≤◌, ◌<◌}
use native.Mathlib.Nat.{le_antisymm, add-zero}
use native.Mathlib.Numerals.{add-one}
use native.Mathlib.Decide.{ℕ_discrete}
use native.Mathlib.Omega.{arith}
use mathlib.Core.Bool.{Bool, true, false, cond, false≢true}
use borrow.Author.Tests.{eq-eqb, ne_eqb}
use lib.Dec.{eqb}
use Rattle.cells.specs.Counted.{Among, Exactly}
use Rattle.cells.specs.Sums.{total, how_many}
use Rattle.cells.proofs.NoMore.{no_more}

-- ---- one number

module _ {A : Type 0} (P : A → Type 0) where
  no_fewer : {count other : ℕ} → Exactly P count → Exactly P other → count ≤ other
  no_fewer {count} {other} E F = no_more count other (λ k l. (place k l).at) (λ k l. (place k l).small) (λ j k lj lk e. E.apart j k lj lk (sym (place j lj).is ∙ ap F.pick e ∙ (place k lk).is))
    where
      place : (k : ℕ) → k < count → Among P F.pick other (E.pick k)
      place k l = F.every (E.pick k) (E.each k l)

  pub one_count : {count other : ℕ} → Exactly P count → Exactly P other → count ≡ other
  one_count E F = le_antisymm (no_fewer E F) (no_fewer F E)

-- ---- from kind to kind

-- x is what f gives for one as P says
pub record Image {A B : Type 0} (P : A → Type 0) (f : A → B) (x : B) : Type 0 where
  pub at : A
  pub holds : P at
  pub is : f at ≡ x

module _ {A B : Type 0} (P : A → Type 0) (Q : B → Type 0) (f : A → B) where
  pub exactly_by : {count : ℕ} → ((x : A) → P x → Q (f x)) → ((x y : A) → P x → P y → f x ≡ f y → x ≡ y) → ((y : B) → Q y → Image P f y) → Exactly P count → Exactly Q count
  exactly_by {count} sound once onto E = record {
    pick = λ k. f (E.pick k);
    each = λ k l. sound (E.pick k) (E.each k l);
    apart = λ j k lj lk e. E.apart j k lj lk (once (E.pick j) (E.pick k) (E.each j lj) (E.each k lk) e);
    every = λ y q. found y (onto y q);
  }
    where
      found : (y : B) → Image P f y → Among Q (λ k. f (E.pick k)) count y
      found y g = let a = E.every g.at g.holds in record { at = a.at; small = a.small; is = ap f a.is ∙ g.is }

pub exactly_same : {A : Type 0} (P Q : A → Type 0) {count : ℕ} → ((x : A) → P x → Q x) → ((x : A) → Q x → P x) → Exactly P count → Exactly Q count
exactly_same {A} P Q there back = exactly_by P Q (λ (x : A). x) there (λ x y p q e. e) (λ y q. record { at = y; holds = back y q; is = refl })

-- ---- numbers below a bound

pub exactly_below : (n : ℕ) → Exactly (λ k. k < n) n
exactly_below n = record { pick = λ k. k; each = λ k l. l; apart = λ j k lj lk e. e; every = λ k l. record { at = k; small = l; is = refl } }

module _ (P : ℕ → Type 0) where
  -- those below k
  abbrev pub Below : ℕ → ℕ → Type 0
  Below k j = (j < k) × P j

  pub below_none : Exactly (Below 0) 0
  below_none = record { pick = λ k. k; each = λ k l. absurd (omega arith); apart = λ j k lj lk e. e; every = λ k h. absurd (omega (arith, h.0)) }

  pub below_passed : (k : ℕ) {count : ℕ} → (P k → ⊥) → Exactly (Below k) count → Exactly (Below (k + 1)) count
  below_passed k n E = exactly_same (Below k) (Below (k + 1)) (λ j h. (omega (arith, h.0), h.1)) back E
    where
      back : (j : ℕ) → Below (k + 1) j → Below k j
      back j h = go (ℕ_discrete j k)
        where
          go : Dec (j ≡ k) → Below k j
          go (yes e) = absurd (n (rw e at h.1))
          go (no e) = (omega (arith, h.0, e), h.1)

  -- the counted ones, and k behind them
  pub below_more : (k : ℕ) {count : ℕ} → P k → Exactly (Below k) count → Exactly (Below (k + 1)) (count + 1)
  below_more k {count} p E = record { pick = pick; each = each; apart = apart; every = every }
    where
      pick : ℕ → ℕ
      pick i = cond (eqb i count) k (E.pick i)

      last : pick count ≡ k
      last = rw (eq-eqb count count refl)

      early : (i : ℕ) → (i ≡ count → ⊥) → pick i ≡ E.pick i
      early i n = rw (ne_eqb i count n)

      each : (i : ℕ) → i < count + 1 → Below (k + 1) (pick i)
      each i l = go (ℕ_discrete i count)
        where
          go : Dec (i ≡ count) → Below (k + 1) (pick i)
          go (yes e) = rw (e, last) (omega arith, p)
          go (no e) = let b = E.each i (omega (arith, e)) in rw (early i e) (omega (arith, b.0), b.1)

      apart : (i j : ℕ) → i < count + 1 → j < count + 1 → pick i ≡ pick j → i ≡ j
      apart i j hi hj q = go (ℕ_discrete i count) (ℕ_discrete j count)
        where
          go : Dec (i ≡ count) → Dec (j ≡ count) → i ≡ j
          go (yes e) (yes f) = e ∙ sym f
          go (yes e) (no f) = absurd (omega (arith, sym last ∙ sym (ap pick e) ∙ q ∙ early j f, (E.each j (omega (arith, f))).0))
          go (no e) (yes f) = absurd (omega (arith, sym last ∙ sym (ap pick f) ∙ sym q ∙ early i e, (E.each i (omega (arith, e))).0))
          go (no e) (no f) = E.apart i j (omega (arith, e)) (omega (arith, f)) (sym (early i e) ∙ q ∙ early j f)

      every : (j : ℕ) → Below (k + 1) j → Among (Below (k + 1)) pick (count + 1) j
      every j h = go (ℕ_discrete j k)
        where
          go : Dec (j ≡ k) → Among (Below (k + 1)) pick (count + 1) j
          go (yes e) = record { at = count; small = omega arith; is = last ∙ sym e }
          go (no e) =
              let a = E.every j (omega (arith, h.0, e), h.1) in
              record { at = a.at; small = omega (arith, a.small); is = early a.at (λ f. omega (arith, f, a.small)) ∙ a.is }

-- `how_many` counts exactly those below n that pass
pub exactly_how_many : (test : ℕ → Bool) (n : ℕ) → Exactly (Below (λ k. test k ≡ true) n) (how_many test n)
unfolding total
exactly_how_many test zero = below_none (λ k. test k ≡ true)
exactly_how_many test (suc n) = go (test n) refl (exactly_how_many test n)
  where
    go : (b : Bool) → test n ≡ b → Exactly (Below (λ k. test k ≡ true) n) (how_many test n) → Exactly (Below (λ k. test k ≡ true) (suc n)) (how_many test n + cond b 1 0)
    go true e E = rw (← add-one n) (below_more (λ k. test k ≡ true) n e E)
    go false e E = rw (← add-one n, add-zero) (below_passed (λ k. test k ≡ true) n (λ f. false≢true (sym e ∙ f)) E)
