-- With the queue used up every reached quad is marked, so the words are an assignment that fits from the seed. Assumes nothing.
use mathlib.Core.Path.{◌≡◌, ◌∙◌, subst}
use mathlib.Core.Logic.{◌≢◌}
use mathlib.Core.List.{List}
use Prim.Native.Nat.{ℕ, ◌+◌, ◌*◌, ◌/◌, ◌%◌, ◌<◌}
use native.Mathlib.Omega.{arith}
use lib.ListN.{get_or}
use Rattle.std.specs.Prelude.{Result, Ok, Err}
use Rattle.cells.specs.Cells.{cell}
use Rattle.cells.specs.Kind.{Next, Reached, ReachedCorner, origin}
use Rattle.cells.specs.Kind.Chain.{here, on}
use Rattle.cells.specs.Quads.{quads}
use Rattle.cells.proofs.Squares.{four, fits_round}
use Rattle.laying.specs.declared.Clash.{Clash}
use Rattle.laying.specs.inner.Layout.{Near, mark, queued, first_word, second_word, pair_of, Given}
use Rattle.laying.specs.inner.Invariant.{Cornered, Met, State}
use Rattle.laying.specs.inner.Settling.{Bears}
use Rattle.laying.specs.inner.Moves.{Grows, Went, Closed, Seeded, Planted}
use Rattle.laying.specs.inner.Answers.{Fitted, Labelled}
use Rattle.laying.proofs.Around.{same_corner}
use Rattle.laying.proofs.Facing.{corner_below, next_across, reached_below}
use Rattle.laying.proofs.Resting.{rest_trans}
use Rattle.laying.proofs.Stepping.{tail_le, reached_at}

-- the seed's words stay
pub seeded_still : {span : ℕ} {cells : List ℕ} {n seed : ℕ} {xs ys : List ℕ} {a b : ℕ} → Given span cells n → seed < n → Seeded span cells seed xs → Grows span xs ys a b → Seeded span cells seed ys
seeded_still {span} {cells} {n} {seed} {xs} {ys} given l s g = record {
  a = kept 0 _ _ s.a (omega arith);
  b = kept 1 _ _ s.b (omega arith);
  c = kept 2 _ _ s.c (omega arith);
  d = kept 3 _ _ s.d (omega arith);
}
  where
    kept : (k x y : ℕ) → Bears span xs (cell 4 cells seed k) x y → 0 < x → Bears span ys (cell 4 cells seed k) x y
    kept k x y b h =
        let o = g.words (cell 4 cells seed k) (corner_below given seed k l) (λ z. omega (arith, b.first)) in
        record { first = o.first ∙ b.first; second = o.second ∙ b.second }

module _ (span : ℕ) (cells : List ℕ) (n seed : ℕ) (w : List ℕ) (t : ℕ) (given : Given span cells n) (st : State span cells n seed w t) (closed : Closed span cells n t w) (sl : seed < n) (first : mark w seed ≢ 0) where
  next_marked : {p q : ℕ} → Next quads cells p q → p < n → mark w p ≢ 0 → mark w q ≢ 0
  next_marked {p} {q} s l m =
      let f = next_across given s in
      let a = st.cover.waits p l m in
      let e : (4 * q + f.j) / 4 ≡ q = omega (arith, f.j_small) in
      let met : Met cells n (4 * p + f.i) w = subst (λ (z : ℕ). Met cells n (4 * z + f.i) w) a.is (closed a.at a.small f.i f.i_small) in
      rw e at (met (4 * q + f.j) (omega (arith, f.j_small, s.to, given.whole)) f.across)

  marked : {q : ℕ} → Reached quads cells seed q → mark w q ≢ 0
  marked here = first
  marked (on {p} {q} r s) = next_marked s (reached_below given sl r) (marked r)

  has : (c : ℕ) → ReachedCorner quads cells seed c → (c < span) × (first_word span w c ≢ 0)
  has c r =
      let l = reached_below given sl r.reached in
      subst (λ (d : ℕ). (d < span) × (first_word span w d ≢ 0)) r.is (corner_below given r.of r.place l, st.full r.of l (marked r.reached) r.place)

  near : (c : ℕ) → ReachedCorner quads cells seed c → Near t (first_word span w c) × Near t (second_word span w c)
  near c r = st.near c (has c r).0 (has c r).1

  of_queue : (c : ℕ) → Cornered span cells w t c → ReachedCorner quads cells seed c
  of_queue c o = record {
    of = queued span w o.at;
    reached = st.sound o.at o.small;
    place = o.place % 4;
    small = omega arith;
    is = same_corner cells (queued span w o.at) (o.place % 4) o.place (omega arith) ∙ o.is;
  }

  reads : Seeded span cells seed w → (i : ℕ) → i < 4 → pair_of span w (cell 4 cells seed i) ≡ get_or quads.first i origin
  reads s = four (λ (i : ℕ). pair_of span w (cell 4 cells seed i) ≡ get_or quads.first i origin) (rw (s.a.first, s.a.second)) (rw (s.b.first, s.b.second)) (rw (s.c.first, s.c.second)) (rw (s.d.first, s.d.second))

  pub fitted : Seeded span cells seed w → Fitted span cells n seed w t
  fitted s = record {
    fits = fits_round cells (reads s) (λ q r. st.round q (reached_below given sl r) (marked r));
    all = λ q r. marked r;
    only = λ q l m. reached_at st l m;
    queue = st.sound;
    words = λ c r. ((has c r).1, λ z. omega (arith, (near c r).1.low, tail_le st.cover, given.few, given.most));
    only_first = λ c l m. of_queue c (st.cover.first c l m);
    only_second = λ c l m. of_queue c (st.cover.second c l m);
    near = near;
    cover = st.cover;
  }

-- from the planted seed the walk ends with the queue used up, or is stuck
pub labelled : {span : ℕ} {cells : List ℕ} {n seed : ℕ} {xs ys zs : List ℕ} → Given span cells n → seed < n → (r : Result ℕ Clash) → Planted span cells n seed xs ys → Went span cells n seed ys zs 1 r (Closed span cells n) → Labelled span cells n seed xs zs r
labelled {span} {cells} {n} {seed} {xs} {ys} {zs} given l (Ok t) p w =
    let g = w.ended in
    record { rest = rest_trans p.rest w.rest; ended = fitted span cells n seed zs t given g.state g.done l (g.grows.still seed (omega (arith, given.few)) p.first) (seeded_still given l p.seeded g.grows) }
labelled given l (Err c) p w = record { rest = rest_trans p.rest w.rest; ended = w.ended }
