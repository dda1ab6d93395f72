-- What becomes of a seed: where it is no group's lowest, where the walk clashed and was cleared, and where it laid labels that were taken;
-- each goes one seed on. And where the walks begin. Assumes nothing.
use mathlib.Core.Path.{◌≡◌, refl, sym, ap, ◌∙◌, subst}
use mathlib.Core.Logic.{◌≢◌}
use mathlib.Core.Bool.{Bool, cond}
use mathlib.Core.List.{List}
use Prim.Native.Nat.{ℕ, zero, suc, ◌+◌, ◌*◌, ◌%◌, ◌≤◌, ◌<◌}
use native.Mathlib.Omega.{arith}
use borrow.Author.Tests.{eq-eqb}
use lib.Dec.{eqb}
use lib.ListN.{length, set}
use lib.Seq.{get_or-set_same, get_or-set_other}
use Rattle.words.proofs.Rank.{equal_le, below_step, below_le}
use Rattle.cells.specs.Kind.Chain.{here}
use Rattle.cells.specs.Sums.{total, how_many}
use Rattle.cells.specs.Listed.{Grouping, grouping_by, members}
use Rattle.cells.specs.Quads.{quads}
use Rattle.cells.proofs.Squares.{no_crowd}
use Rattle.laying.specs.inner.Layout.{mark, pair_of, Given}
use Rattle.laying.specs.inner.Invariant.{sign, count}
use Rattle.laying.specs.inner.Moves.{Rest, Stuck}
use Rattle.laying.specs.inner.Answers.{Fitted, Cleared}
use Rattle.fates.specs.declared.LabelParams.{LabelParams}
use Rattle.fates.specs.inner.Fates.{records_at, walked_at, walked_of, seed_in, Walk, ReachedFrom}
use Rattle.fates.specs.inner.Fates.Walk.{within, none, laid}
use Rattle.fates.specs.inner.Prepared.{Ready}
use Rattle.fates.specs.inner.Gathering.{Taken, numbers_in, Underway}
use Rattle.fates.proofs.Members.{equal_how_many}
use Rattle.fates.proofs.Draining.{holding}
use Rattle.fates.proofs.OwnRuns.{reached_number}
use Rattle.fates.proofs.Holdings.{holding_more}
use Rattle.fates.proofs.Onward.{Stepped, stepped_none, stepped_clear, stepped_take, stepped_word, underway_more}

-- ---- how many are reached

mark_le : (x b : ℕ) → (x ≢ 0 → b ≡ 1) → sign x ≤ b
mark_le zero b h = omega arith
mark_le (suc x) b h = omega (arith, h (λ e. omega arith))

-- where what is marked has the key v, no more are marked than have it
count_equal : (w : List ℕ) (d : ℕ → ℕ) (v n : ℕ) → ((q : ℕ) → q < n → mark w q ≢ 0 → d q ≡ v) → count w n ≤ how_many (λ (q : ℕ). eqb (d q) v) n
unfolding count total
count_equal w d v zero h = omega arith
count_equal w d v (suc n) h = omega (arith, count_equal w d v n (λ q l. h q (omega arith)), mark_le (mark w n) (cond (eqb (d n) v) 1 0) (λ z. ap (λ (b : Bool). cond b 1 0) (eq-eqb (d n) v (h n (omega arith) z))))

-- ---- the outcomes

module _ {span : ℕ} {cells : List ℕ} {g : Grouping} {s m : ℕ} {xs : List ℕ} (given : Given span cells g.n) (u : Underway span cells g s m xs) (small : s < g.n) where
  few_records : m ≤ 4 * g.n
  few_records = omega (arith, u.gathered.few, below_le g.number g.n s)

  number_is : numbers_in span g.n xs s ≡ s → g.number s ≡ s
  number_is e = sym (u.numbers s small) ∙ e

  pub underway_within : numbers_in span g.n xs s ≢ s → Underway span cells g (s + 1) m xs
  underway_within e = underway_more given u (stepped_none u.blank) small (within (λ f. e (u.numbers s small ∙ f))) (λ l. absurd (omega arith)) (omega arith)

  stored : (ys : List ℕ) (v : ℕ) → length ys ≡ length xs → walked_of span g.n (set ys (walked_at span g.n + s) v) s ≡ v
  stored ys v e = get_or-set_same ys (walked_at span g.n + s) v 0 (omega (arith, u.room))

  -- the word v is stored
  with_word : {ys : List ℕ} {r : ℕ} (v : ℕ) → Stepped span cells g.n s m r xs ys → r ≤ 4 * g.n → Walk cells g (ReachedFrom cells g s) s (set ys (walked_at span g.n + s) v) (records_at span g.n) r v → (m < r → (g.number s ≡ s) × (v ≢ 0)) → r ≤ m + 4 * members quads cells g s
      → Underway span cells g (s + 1) r (set ys (walked_at span g.n + s) v)
  with_word {ys} {r} v t room f owner bound = underway_more given u (stepped_word v room given.few t) small
      (subst (λ (z : ℕ). Walk cells g (ReachedFrom cells g s) s (set ys (walked_at span g.n + s) v) (records_at span g.n) r z) (sym (stored ys v t.len)) f)
      (λ l. ((owner l).0, λ z. (owner l).1 (sym (stored ys v t.len) ∙ z))) bound

  module _ {ys : List ℕ} (e : numbers_in span g.n xs s ≡ s) (rest : Rest span cells g.n s xs ys) where
    pub underway_none : {zs : List ℕ} {t : ℕ} → Stuck span cells g.n s ys t → Cleared span g.n ys zs → Underway span cells g (s + 1) m (set zs (walked_at span g.n + s) 0)
    underway_none k c = with_word 0 (stepped_clear u.table few_records rest c) few_records (none (number_is e) (λ L l. k.none L l.fits)) (λ l. absurd (omega arith)) (omega arith)

    -- the walk has marked no more than the group's members
    fitted_few : {t : ℕ} → Fitted span cells g.n s ys t → t ≤ members quads cells g s
    fitted_few f = omega (arith, f.cover.counted, count_equal ys g.number s g.n (λ q h z. sym (reached_number u.groups (f.only q h z)) ∙ number_is e))

    pub fitted_small : {t : ℕ} → Fitted span cells g.n s ys t → t ≤ g.n
    fitted_small f = omega (arith, fitted_few f, equal_how_many g.number s g.n, equal_le g.number s g.n)

    -- and the seed at least
    fitted_some : {t : ℕ} → Fitted span cells g.n s ys t → t ≢ 0
    fitted_some f z = omega (arith, (f.cover.waits s small (f.all s here)).small)

    pub fitted_room : {t : ℕ} → Fitted span cells g.n s ys t → m + 4 * t ≤ 4 * g.n
    fitted_room f = omega (arith, fitted_few f, equal_how_many g.number s g.n, u.gathered.few, below_step g.number s g.n, below_le g.number g.n (s + 1))

    pub underway_laid : {zs : List ℕ} {r t : ℕ} → Fitted span cells g.n s ys t → Taken span g.n s ys zs m r t → Underway span cells g (s + 1) r (set zs (walked_at span g.n + s) t)
    underway_laid {zs} {r} {t} k c = with_word t (stepped_take u.table room rest c) room
        (laid (fitted_some k) (record {
          lowest = number_is e;
          L = pair_of span ys;
          labelling = no_crowd k.fits;
          holding = holding_more (holding given k (fitted_small k) small c others) (record { more = omega arith; same = λ j i h l. get_or-set_other zs (walked_at span g.n + s) (records_at span g.n + 2 * j + i) t 0 (λ z. omega (arith, room)) }) (λ j l h. absurd (omega arith));
        }))
        (λ l. (number_is e, fitted_some k))
        (omega (arith, c.few, fitted_few k))
      where
        room : r ≤ 4 * g.n
        room = omega (arith, c.few, fitted_room k)

        others : (j : ℕ) → j < m → seed_in zs (records_at span g.n) j ≢ s
        others j h z =
            let w : seed_in zs (records_at span g.n) j ≡ seed_in xs (records_at span g.n) j = ap (λ (x : ℕ). x % 4096) (c.drawn.before (records_at span g.n + 2 * j + 1) (omega arith) (omega arith) ∙ rest.rest (records_at span g.n + 2 * j + 1) (omega arith) (λ i l o y. omega (arith, few_records))) in
            omega (arith, (u.gathered.own j h).small)

-- ---- where the walks begin

pub underway_start : {span : ℕ} {cells : List ℕ} {n : ℕ} {w : List ℕ} (params : LabelParams) → 4 * span + 27 * n ≤ length w → Ready span cells n w → Underway span cells (grouping_by n (numbers_in span n w) params.quads params.corners) 0 0 w
underway_start {span} {n = n} {w} params room r = record {
  room = room;
  table = r.table;
  blank = r.blank;
  groups = r.groups;
  numbers = λ q h. refl;
  unscanned = λ q l h e. record { none = λ i b t. r.flags _ (r.table.runs i b) };
  gathered = record { walks = λ q h. absurd (omega arith); sizes = λ q h. r.sizes q h ∙ equal_how_many (numbers_in span n w) q n; own = λ k h. absurd (omega arith); few = omega arith };
}
