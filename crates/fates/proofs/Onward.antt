-- One seed more: what stood in the workspace for the seeds below s stands there for those below s + 1, when s has the word of its walk
-- and its records follow the others. Assumes nothing.
use mathlib.Core.Path.{◌≡◌, refl, sym, ap, ◌∙◌, subst}
use mathlib.Core.Logic.{◌≢◌}
use mathlib.Core.List.{List}
use Prim.Native.Nat.{ℕ, ◌+◌, ◌*◌, ◌/◌, ◌%◌, ◌≤◌, ◌<◌}
use native.Mathlib.Decide.{ℕ_discrete, dec_lt}
use native.Mathlib.Omega.{arith}
use lib.ListN.{length, get_or, set, length-set}
use lib.Seq.{get_or-set_other}
use Rattle.words.proofs.Rank.{below_step}
use Rattle.cells.specs.Kind.{Reached}
use Rattle.cells.specs.Listed.{Grouping, members}
use Rattle.cells.specs.Quads.{quads}
use Rattle.laying.specs.inner.Layout.{run_of, flags_at, Given, Table, Blank}
use Rattle.laying.specs.inner.Moves.{Rest}
use Rattle.laying.specs.inner.Answers.{Cleared}
use Rattle.laying.proofs.Resting.{table_kept}
use Rattle.fates.specs.inner.Fates.{groups_at, fates_at, records_at, walked_at, walked_of, seed_in, Walk, ReachedFrom, Owned}
use Rattle.fates.specs.inner.Gathering.{Taken, Underway}
use Rattle.fates.proofs.Members.{equal_how_many}
use Rattle.fates.proofs.Holdings.{Appended, same_seed, holding_more, walk_with}
use Rattle.fates.proofs.OwnRuns.{other_unscanned}

-- ---- what a seed may change

-- past the walk's regions only the walk's word of s, records from m on and flags of the runs of what is reached from s; marks and words are
-- blank, and records m up to r are of s
pub record Stepped (span : ℕ) (cells : List ℕ) (n s m r : ℕ) (xs ys : List ℕ) : Type 0 where
  pub len : length ys ≡ length xs
  pub more : m ≤ r
  pub front : (k : ℕ) → 4 * span ≤ k → k < records_at span n + 2 * m → get_or ys k 0 ≡ get_or xs k 0
  pub flags : (k : ℕ) → k < 4 * n → ((e : ℕ) → e < 4 * n → Reached quads cells s (e / 4) → k ≢ run_of span n xs e) → get_or ys (flags_at span n + k) 0 ≡ get_or xs (flags_at span n + k) 0
  pub words : (q : ℕ) → q ≢ s → walked_of span n ys q ≡ walked_of span n xs q
  pub blank : Blank span n ys
  pub own : (k : ℕ) → m ≤ k → k < r → seed_in ys (records_at span n) k ≡ s

module _ {span : ℕ} {cells : List ℕ} {n s m : ℕ} {xs : List ℕ} where
  pub stepped_none : Blank span n xs → Stepped span cells n s m m xs xs
  stepped_none b = record { len = refl; more = omega arith; front = λ k l h. refl; flags = λ k l o. refl; words = λ q e. refl; blank = b; own = λ k l h. absurd (omega arith) }

  pub stepped_clear : {ys zs : List ℕ} → Table span cells n xs → m ≤ 4 * n → Rest span cells n s xs ys → Cleared span n ys zs → Stepped span cells n s m m xs zs
  stepped_clear t room r c = record {
    len = c.len ∙ r.len;
    more = omega arith;
    front = λ k l h. c.high k l ∙ r.rest k l (λ f u v z. omega arith);
    flags = λ k l o. c.high (flags_at span n + k) (omega arith) ∙ r.rest (flags_at span n + k) (omega arith) (λ f u v z. o f u v (omega arith));
    words = λ q e. c.high (walked_at span n + q) (omega arith) ∙ r.rest (walked_at span n + q) (omega arith) (λ f u v z. omega (arith, t.runs f u));
    blank = c.blank;
    own = λ k l h. absurd (omega arith);
  }

  pub stepped_take : {ys zs : List ℕ} {r t : ℕ} → Table span cells n xs → r ≤ 4 * n → Rest span cells n s xs ys → Taken span n s ys zs m r t → Stepped span cells n s m r xs zs
  stepped_take t room q c = record {
    len = c.drawn.len ∙ q.len;
    more = c.drawn.more;
    front = λ k l h. c.drawn.before k l h ∙ q.rest k l (λ f u v z. omega (arith, c.drawn.more));
    flags = λ k l o. c.drawn.after (flags_at span n + k) (omega arith) ∙ q.rest (flags_at span n + k) (omega arith) (λ f u v z. o f u v (omega arith));
    words = λ p e. c.drawn.after (walked_at span n + p) (omega arith) ∙ q.rest (walked_at span n + p) (omega arith) (λ f u v z. omega (arith, t.runs f u));
    blank = c.blank;
    own = λ k l h. (c.drawn.copied k l h).of;
  }

  -- and then the walk's word is stored
  pub stepped_word : {ys : List ℕ} {r : ℕ} (v : ℕ) → r ≤ 4 * n → n ≤ span → Stepped span cells n s m r xs ys → Stepped span cells n s m r xs (set ys (walked_at span n + s) v)
  stepped_word {ys} {r} v room small t = record {
    len = length-set ys (walked_at span n + s) v ∙ t.len;
    more = t.more;
    front = λ k l u. other k (λ e. omega (arith, t.more)) ∙ t.front k l u;
    flags = λ k l o. other (flags_at span n + k) (λ e. omega arith) ∙ t.flags k l o;
    words = λ q e. other (walked_at span n + q) (λ f. e (omega arith)) ∙ t.words q e;
    blank = record {
      marks = λ q u. other q (λ e. omega arith) ∙ t.blank.marks q u;
      first = λ c u. other (2 * span + c) (λ e. omega arith) ∙ t.blank.first c u;
      second = λ c u. other (3 * span + c) (λ e. omega arith) ∙ t.blank.second c u;
    };
    own = λ k l u. ap (λ (w : ℕ). w % 4096) (other (records_at span n + 2 * k + 1) (λ e. omega arith)) ∙ t.own k l u;
  }
    where
      other : (k : ℕ) → k ≢ walked_at span n + s → get_or (set ys (walked_at span n + s) v) k 0 ≡ get_or ys k 0
      other k e = get_or-set_other ys (walked_at span n + s) k v 0 e

-- ---- one seed more

module _ {span : ℕ} {cells : List ℕ} {g : Grouping} {s m r : ℕ} {xs ys : List ℕ} (given : Given span cells g.n) (u : Underway span cells g s m xs) (t : Stepped span cells g.n s m r xs ys) (small : s < g.n) where
  abbrev a : ℕ
  a = records_at span g.n

  appended : Appended a m r xs ys
  appended = record { more = t.more; same = λ k i h l. t.front (a + 2 * k + i) (omega arith) (omega arith) }

  early_walk : (q : ℕ) → q < s → Walk cells g (ReachedFrom cells g q) q ys a r (walked_of span g.n ys q)
  early_walk q h = rw (t.words q (λ e. omega arith)) (walk_with (λ L H. holding_more H appended (λ k l b e. omega (arith, t.own k l b))) (u.gathered.walks q h))

  -- where s leaves records it is a laid group's lowest
  pub underway_more : Walk cells g (ReachedFrom cells g s) s ys a r (walked_of span g.n ys s) → (m < r → (g.number s ≡ s) × (walked_of span g.n ys s ≢ 0)) → r ≤ m + 4 * members quads cells g s → Underway span cells g (s + 1) r ys
  underway_more walk owner bound = record {
    room = omega (arith, u.room, t.len);
    table = table_kept u.table t.len (λ k l h. t.front k l (omega arith));
    blank = t.blank;
    groups = u.groups;
    numbers = λ q h. t.front (groups_at span g.n + q) (omega arith) (omega arith) ∙ u.numbers q h;
    unscanned = λ q l h e. other_unscanned given u.table u.groups (λ f. omega (arith, u.groups.lowest s small, f)) (λ f b. t.front (4 * span + 8 * g.n + f) (omega arith) (omega arith)) t.flags (u.unscanned q (omega arith) h e);
    gathered = record {
      walks = λ q h. walks q h (ℕ_discrete q s);
      sizes = λ q h. t.front (fates_at span g.n + q) (omega arith) (omega arith) ∙ u.gathered.sizes q h;
      own = λ k h. own k h (dec_lt k m);
      few = omega (arith, u.gathered.few, below_step g.number s g.n, equal_how_many g.number s g.n);
    };
  }
    where
      walks : (q : ℕ) → q < s + 1 → Dec (q ≡ s) → Walk cells g (ReachedFrom cells g q) q ys a r (walked_of span g.n ys q)
      walks q h (yes e) = subst (λ (z : ℕ). Walk cells g (ReachedFrom cells g z) z ys a r (walked_of span g.n ys z)) (sym e) walk
      walks q h (no e) = early_walk q (omega (arith, e))

      own : (k : ℕ) → k < r → Dec (k < m) → Owned cells g span (s + 1) a ys k
      own k h (yes b) =
          let o = u.gathered.own k b in
          record {
            small = omega (arith, same_seed xs ys a m appended.same k b, o.small);
            lowest = rw (same_seed xs ys a m appended.same k b) o.lowest;
            walked = rw (same_seed xs ys a m appended.same k b, t.words (seed_in xs a k) (λ e. omega (arith, o.small))) o.walked;
          }
      own k h (no b) =
          let e = t.own k (omega arith) h in
          let o = owner (omega arith) in
          record { small = omega (arith, e); lowest = rw e o.0; walked = rw e o.1 }
