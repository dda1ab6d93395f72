-- The fate that applies by a group's numbers is what becomes of the group: its size is the number of its members, its walk's word tells
-- whether there is a labelling, and its runs count the lone corners and the claimed pairs. Assumes nothing.
use mathlib.Core.Path.{◌≡◌, refl, sym, ap, ◌∙◌}
use mathlib.Core.Logic.{◌≢◌}
use mathlib.Core.Bool.{true, false≢true}
use mathlib.Core.List.{List}
use Prim.Native.Nat.{ℕ, ◌+◌, ◌*◌, ◌≤◌, ◌<◌}
use native.Mathlib.Decide.{ℕ_discrete}
use native.Mathlib.Omega.{arith}
use lib.ListN.{length}
use Rattle.words.specs.inner.Order.{word_of}
use Rattle.cells.specs.Cells.{Neighbours, everyone}
use Rattle.cells.specs.Groups.{Groups}
use Rattle.cells.specs.Kind.{Pair, ReachedCorner, Lone}
use Rattle.cells.specs.Counted.{Exactly}
use Rattle.cells.specs.Listed.{Grouping, grouping_by, Labelling}
use Rattle.cells.specs.Quads.{quads}
use Rattle.cells.proofs.Unique.{one_lone}
use Rattle.cells.proofs.Squares.{quad_laws}
use Rattle.cells.proofs.Counted.{exactly_same}
use Rattle.laying.specs.inner.Layout.{Given}
use Rattle.fates.specs.declared.LabelParams.{LabelParams}
use Rattle.fates.specs.declared.Fate.{Fate}
use Rattle.fates.specs.inner.Fates.{records_at, lone_at, fate_of, walked_of, key_in, seed_in, Laid, Walk, ReachedFrom, IsLoneFrom, Alone}
use Rattle.fates.specs.inner.Fates.Walk.{within, none, laid}
use Rattle.fates.specs.Judged.{Labels, Becomes}
use Rattle.fates.specs.inner.FateWords.{fate_at, is_labelled}
use Rattle.fates.specs.inner.Index.{Indexed, runs_at}
use Rattle.fates.specs.inner.Judging.{Falls, Ruled, Judges, Tabled}
use Rattle.fates.specs.inner.Judging.Falls.{not_lowest, few_quads, no_labelling, few_lone, kept}
use Rattle.fates.specs.inner.Computed.{Computed}
use Rattle.fates.proofs.LoneCorners.{key_small, laid_by}
use Rattle.fates.proofs.Sizes.{some_members, lowest_by_members}
use Rattle.fates.proofs.Claims.{own_quad, keys_rise, run_holding, run_counts, claims_count}
use Rattle.fates.proofs.Stretches.{same_grouped, same_stretch, same_holding}
use Rattle.fates.proofs.Verdicts.{same_all, same_lone}

-- ---- what a walk's word tells

none_by : {cells : List ℕ} {g : Grouping} {P : (ℕ → Pair) → ℕ → Type 0} {s : ℕ} {w : List ℕ} {a m v : ℕ} → Walk cells g P s w a m v → g.number s ≡ s → v ≡ 0 → (L : ℕ → Pair) → Labelling quads cells g s L → ⊥
none_by (within n) e d = absurd (n e)
none_by (none l n) e d = n
none_by (laid z p) e d = absurd (z d)

-- a fate with a labelling is that of a lowest quad whose walk was laid
labelled_by : {params : LabelParams} {size reached lone claims : ℕ} {fate : Fate} → Falls params size reached lone claims fate → is_labelled fate ≡ true → (size ≢ 0) × (reached ≢ 0)
unfolding is_labelled
labelled_by (not_lowest z) e = absurd (false≢true e)
labelled_by (few_quads a b) e = absurd (false≢true e)
labelled_by (no_labelling a b c) e = absurd (false≢true e)
labelled_by (few_lone a b c d) e = (a, c)
labelled_by (kept a b c d) e = (a, c)

module _ (span : ℕ) (cells : List ℕ) (n : ℕ) (params : LabelParams) (number : ℕ → ℕ) (all m : ℕ) (xs : List ℕ) (G : Groups (Neighbours 4 cells everyone) n number) (A : Alone cells (grouping_by n number params.quads params.corners) span all m xs) where
  abbrev g : Grouping
  g = grouping_by n number params.quads params.corners

  -- ---- one quad

  module _ (q : ℕ) (h : q < n) where
    lowest : fate_of span n xs q ≢ 0 → number q ≡ q
    lowest z = lowest_by_members G q h (λ e. z (A.sizes q h ∙ e))

    all_laid : fate_of span n xs q ≢ 0 → walked_of span n xs q ≢ 0 → Laid cells g (ReachedFrom cells g q) q xs (records_at span n) all
    all_laid z r = laid_by (A.walks q h) (lowest z) r

    lone_laid : fate_of span n xs q ≢ 0 → walked_of span n xs q ≢ 0 → Laid cells g (IsLoneFrom cells g q) q xs (lone_at span) m
    lone_laid z r = laid_by (A.lones q h) (lowest z) r

    module _ (ys : List ℕ) (R : Ruled span n params all m xs ys q) where
      -- the lone corners are by either labelling
      lones_are : (p : Laid cells g (ReachedFrom cells g q) q xs (records_at span n) all) (t : Laid cells g (IsLoneFrom cells g q) q xs (lone_at span) m) → Exactly (Lone quads cells q p.L) (runs_at span n ys q).lone.count
      lones_are p t =
          let r = R.lone.stretch in
          rw R.lone.count (exactly_same (Lone quads cells q t.L) (Lone quads cells q p.L)
          (λ c l. one_lone quads quad_laws cells t.labelling.fits p.labelling.fits l)
          (λ c l. one_lone quads quad_laws cells p.labelling.fits t.labelling.fits l)
          (run_counts (Lone quads cells q t.L) t.L q xs _ _ (own_quad r) (run_holding r (Lone quads cells q t.L) t.L t.holding)))

      labels : (size : fate_of span n xs q ≢ 0) → params.quads ≤ fate_of span n xs q → (reached : walked_of span n xs q ≢ 0) → Labels cells g q (runs_at span n ys q).lone.count R.verdict.claims
      labels z b w =
          let p = all_laid z w in
          let r = R.all_run.stretch in
          record {
            lowest = p.lowest;
            enough = omega (arith, A.sizes q h);
            L = p.L;
            labelling = p.labelling;
            lones = lones_are p (lone_laid z w);
            claims = claims_count cells p.L q xs _ _ (own_quad r) (run_holding r (λ c. ReachedCorner quads cells q c) p.L p.holding) (keys_rise r A.ascends) (rw (R.all_run.at, R.all_run.count) at R.verdict.counted);
          }

      becomes_by : {fate : Fate} → Falls params (fate_of span n xs q) (walked_of span n xs q) (runs_at span n ys q).lone.count R.verdict.claims fate → Becomes cells g q fate
      becomes_by (not_lowest z) = Becomes.not_lowest (λ e. some_members G q h e (sym (A.sizes q h) ∙ z))
      becomes_by (few_quads z l) = Becomes.few_quads (lowest z) (omega (arith, A.sizes q h))
      becomes_by (no_labelling z b r) = Becomes.no_labelling (lowest z) (omega (arith, A.sizes q h)) (none_by (A.walks q h) (lowest z) r)
      becomes_by (few_lone z b r l) = Becomes.few_lone (labels z b r) l
      becomes_by (kept z b r l) = Becomes.kept (labels z b r) l

  -- ---- all quads

  all_small : (k : ℕ) → k < all → key_in xs (records_at span n) k < 4294967296
  all_small k h = let o = A.own_all k h in key_small ((laid_by (A.walks (seed_in xs (records_at span n) k) o.small) o.lowest o.walked).holding.keyed k h refl)

  lone_small : (k : ℕ) → k < m → key_in xs (lone_at span) k < 4294967296
  lone_small k h = let o = A.own k h in key_small ((laid_by (A.lones (seed_in xs (lone_at span) k) o.small) o.lowest o.walked).holding.keyed k h refl)

  pub tabled : Given span cells n → 4 * span + 27 * n ≤ length xs → Tabled span n all m xs
  tabled given room = record {
    room = room;
    few = given.few;
    most = given.most;
    few_all = A.few_all;
    few_lone = A.few;
    all_lined = record { room = omega (arith, A.few_all); ascends = λ j k l h. omega (arith, A.ascends j k l h, all_small k h) };
    lone_lined = record { room = omega (arith, A.few); ascends = λ j k l h. lone_up j k h (ℕ_discrete j k) l };
  }
    where
      lone_up : (j k : ℕ) → k < m → Dec (j ≡ k) → j ≤ k → seed_in xs (lone_at span) j ≤ seed_in xs (lone_at span) k
      lone_up j k h (yes e) l = omega (arith, ap (seed_in xs (lone_at span)) e)
      lone_up j k h (no e) l = omega (arith, A.rises j k (omega (arith, e)) h, lone_small k h)

  module _ (ys : List ℕ) (T : Tabled span n all m xs) (J : Judges span n params all m n xs ys) where
    all_words : (k i : ℕ) → k < all → i < 2 → word_of ys (records_at span n) i k ≡ word_of xs (records_at span n) i k
    all_words = same_all span n params all m xs T n ys J (omega arith)

    lone_words : (k i : ℕ) → k < m → i < 2 → word_of ys (lone_at span) i k ≡ word_of xs (lone_at span) i k
    lone_words = same_lone span n params all m xs T n ys J (omega arith)

    told : (q : ℕ) → q < n → is_labelled (fate_at span n ys q) ≡ true → (fate_of span n xs q ≢ 0) × (walked_of span n xs q ≢ 0)
    told q h e = labelled_by (J.ruled q h).verdict.falls e

    moved_run : (q : ℕ) → q < n → Indexed span n ys all m q
    moved_run q h =
        let r = J.ruled q h in
        record {
          lone = record { from = r.lone.from; to = r.lone.to; stretch = same_stretch xs ys (lone_at span) m lone_words r.lone.stretch; at = r.lone.at; count = r.lone.count };
          all_run = record { from = r.all_run.from; to = r.all_run.to; stretch = same_stretch xs ys (records_at span n) all all_words r.all_run.stretch; at = r.all_run.at; count = r.all_run.count };
        }

    pub computed : (ws : List ℕ) → length xs ≡ length ws → Computed span cells n params ws ys
    computed ws len = record {
      len = J.len ∙ len;
      number = number;
      groups = G;
      becomes = λ q h. becomes_by q h ys (J.ruled q h) (J.ruled q h).verdict.falls;
      all = all;
      m = m;
      few_all = A.few_all;
      few = A.few;
      alls = λ q h e. let t = told q h e in let p = all_laid q h t.0 t.1 in record { lowest = p.lowest; L = p.L; labelling = p.labelling; holding = same_holding xs ys (records_at span n) all all_words p.holding };
      lones = λ q h e. let t = told q h e in let p = lone_laid q h t.0 t.1 in record { lowest = p.lowest; L = p.L; labelling = p.labelling; holding = same_holding xs ys (lone_at span) m lone_words p.holding };
      ascends = λ j k l h. rw (same_grouped xs ys (records_at span n) all all_words j (omega arith), same_grouped xs ys (records_at span n) all all_words k h) (A.ascends j k l h);
      rises = λ j k l h. rw (same_grouped xs ys (lone_at span) m lone_words j (omega arith), same_grouped xs ys (lone_at span) m lone_words k h) (A.rises j k l h);
      indexed = moved_run;
    }
