-- Parts of the walk, one after the other: what each has done stays done, a part that is stuck makes the whole so, and a run, the sides of
-- a quad and the queue are done where their last is. Assumes nothing.
use mathlib.Core.Path.{◌≡◌, refl, sym, ◌∙◌, subst}
use mathlib.Core.Logic.{◌≢◌}
use mathlib.Core.List.{List}
use Prim.Native.Nat.{ℕ, ◌+◌, ◌*◌, ◌/◌, ◌≤◌, ◌<◌}
use native.Mathlib.Decide.{ℕ_discrete, dec_lt}
use native.Mathlib.Omega.{arith}
use Rattle.std.specs.Prelude.{Ok, Err}
use Rattle.laying.specs.inner.Layout.{mark, queued, key_at, number_at, run_of, Given, InRun, Table}
use Rattle.laying.specs.inner.Invariant.{Meets, Met, State}
use Rattle.laying.specs.declared.Clash.{Clash}
use Rattle.laying.specs.inner.Moves.{Grows, Went, MetRound, Closed}
use Rattle.laying.proofs.Counts.{eq_or_lt}
use Rattle.laying.proofs.Resting.{rest_refl, rest_trans}
use Rattle.laying.proofs.Flagged.{met_still}

-- ---- parts

grows_refl : {span : ℕ} (xs : List ℕ) (t : ℕ) → Grows span xs xs t t
grows_refl xs t = record { more = omega arith; kept = λ i h. refl; still = λ q h m e. m e; words = λ c h m. record { first = refl; second = refl } }

grows_trans : {span : ℕ} {xs ys zs : List ℕ} {a b c : ℕ} → Grows span xs ys a b → Grows span ys zs b c → Grows span xs zs a c
grows_trans g h = record {
  more = omega (arith, g.more, h.more);
  kept = λ i l. h.kept i (omega (arith, g.more)) ∙ g.kept i l;
  still = λ q l m. h.still q l (g.still q l m);
  words = λ c l m.
      let p = g.words c l m in
      let q = h.words c l (λ z. m (sym p.first ∙ z)) in
      record { first = q.first ∙ p.first; second = q.second ∙ p.second };
}

module _ {span : ℕ} {cells : List ℕ} {n seed : ℕ} where
  -- nothing was to be done
  pub went_none : {xs : List ℕ} {t : ℕ} (D : ℕ → List ℕ → Type 0) → State span cells n seed xs t → D t xs → Went span cells n seed xs xs t (Ok t) D
  went_none {xs} {t} D s d = record { rest = rest_refl xs; ended = record { state = s; grows = grows_refl xs t; done = d } }

  -- what is done tells more
  pub went_so : {xs ys : List ℕ} {a b : ℕ} {D : ℕ → List ℕ → Type 0} (E : ℕ → List ℕ → Type 0) → Went span cells n seed xs ys a (Ok b) D → E b ys → Went span cells n seed xs ys a (Ok b) E
  went_so E w e = record { rest = w.rest; ended = record { state = w.ended.state; grows = w.ended.grows; done = e } }

  module _ {xs ys zs : List ℕ} {a b : ℕ} {D E : ℕ → List ℕ → Type 0} (F : ℕ → List ℕ → Type 0) (v : Went span cells n seed xs ys a (Ok b) D) where
    -- two parts, one after the other
    pub went_next : {r : ℕ} → Went span cells n seed ys zs b (Ok r) E → (Grows span ys zs b r → D b ys → E r zs → F r zs) → Went span cells n seed xs zs a (Ok r) F
    went_next w h = record {
      rest = rest_trans v.rest w.rest;
      ended = record { state = w.ended.state; grows = grows_trans v.ended.grows w.ended.grows; done = h w.ended.grows v.ended.done w.ended.done };
    }

    -- a later part that is stuck makes the whole so
    pub went_stuck : {c : Clash} → Went span cells n seed ys zs b (Err c) E → Went span cells n seed xs zs a (Err c) F
    went_stuck w = record { rest = rest_trans v.rest w.rest; ended = w.ended }

-- ---- a run

-- the sides of the run of e, up to place i, are met
abbrev pub Ran : ℕ → ℕ → List ℕ → List ℕ → ℕ → ℕ → List ℕ → Type 0
Ran span n cells xs e i w = (j : ℕ) → run_of span n xs e ≤ j → j < i → Meets cells e (number_at span xs j) w

module _ {span : ℕ} {cells : List ℕ} {n : ℕ} {xs : List ℕ} (given : Given span cells n) (table : Table span cells n xs) where
  pub ran_next : {ys zs : List ℕ} {a b e i : ℕ} (g : ℕ) → i < 4 * n → g ≡ number_at span xs i → Grows span ys zs a b → Ran span n cells xs e i ys → Meets cells e g zs → Ran span n cells xs e (i + 1) zs
  ran_next {ys} {zs} {a} {b} {e} {i} g il eg s r m j jf jl = go (ℕ_discrete j i)
    where
      go : Dec (j ≡ i) → Meets cells e (number_at span xs j) zs
      go (yes d) = rw (d, ← eg) m
      go (no d) = λ o. s.still (number_at span xs j / 4) (omega (arith, table.sides j (omega arith), given.few)) (r j jf (omega arith) o)

  -- where the run has ended, all is met
  pub ran_all : (ys : List ℕ) {e : ℕ} (i : ℕ) → e < 4 * n → (i < 4 * n → key_at span xs i ≢ key_at span xs (run_of span n xs e)) → run_of span n xs e ≤ i → Ran span n cells xs e i ys → Met cells n e ys
  ran_all ys {e} i el stop fi r g gl o =
      let p = table.meets e g el gl o in
      go p (dec_lt p.at i)
    where
      go : (p : InRun span n xs e g) → Dec (p.at < i) → mark ys (g / 4) ≢ 0
      go p (yes d) =
          let m : Meets cells e g ys = subst (λ (z : ℕ). Meets cells e z ys) p.is (r p.at p.from d) in
          m o
      go p (no d) = absurd (stop (omega (arith, p.small)) (p.run i fi (omega arith)))

-- ---- the sides of a quad, and the queue

module _ {span : ℕ} {cells : List ℕ} {n : ℕ} (given : Given span cells n) where
  pub round_next : {ys zs : List ℕ} {a b : ℕ} (q k e : ℕ) → e ≡ 4 * q + k → Grows span ys zs a b → MetRound cells n q k ys → Met cells n e zs → MetRound cells n q (k + 1) zs
  round_next {ys} {zs} q k e ee s r m = eq_or_lt (λ (j : ℕ). Met cells n (4 * q + j) zs) k (rw (← ee) m) (λ j l. met_still given ys zs (4 * q + j) s.still (r j l))

  pub closed_next : {ys zs : List ℕ} {head t r : ℕ} (q : ℕ) → head < t → q ≡ queued span ys head → Grows span ys zs t r → Closed span cells n head ys → MetRound cells n q 4 zs → Closed span cells n (head + 1) zs
  closed_next {ys} {zs} {head} q hl eq s c m = eq_or_lt (λ (i : ℕ). MetRound cells n (queued span zs i) 4 zs) head
      (rw (s.kept head hl, ← eq) m)
      (λ i l. rw (s.kept i (omega arith)) (λ j jl. met_still given ys zs (4 * queued span ys i + j) s.still (c i l j jl)))
