-- The twin's known sides: each is a side of a quad reached from the seed, with the pairs that every assignment that fits gives its ends,
-- and in the end no known side leads to a quad that is not known. Assumes nothing.
use mathlib.Core.Path.{◌≡◌, refl, sym, ap, ap₂, ◌∙◌, subst}
use mathlib.Core.Bool.{Bool, true, false, cond, not, ◌&&◌}
use mathlib.Core.List.{List, [], ◌∷◌}
use mathlib.Core.Logic.{◌≢◌, ◌⊎◌, inl, inr}
use mathlib.Core.Option.{Option, none, some, some-ne-none}
use Prim.Native.Nat.{ℕ, zero, suc, ◌+◌, ◌/◌, ◌%◌, ◌≤◌, ◌<◌}
use native.Mathlib.Omega.{arith}
use borrow.Author.Tests.{eqb-true, eqb-false, eq-eqb, ne_eqb, not-true}
use lib.Dec.{eqb, lit<}
use lib.ListN.{length}
use Rattle.cells.specs.Cells.{Cell, cell, Has}
use Rattle.cells.specs.Kind.{Pair, ◌⊖◌, Reached, Fits}
use Rattle.cells.specs.Kind.Chain.{here, on}
use Rattle.cells.specs.Quads.{OneStep, Square, Round, quads}
use Rattle.cells.specs.Quads.OneStep.{east}
use Rattle.cells.specs.Listed.{In}
use Rattle.cells.specs.Listed.In.{first, later}
use Rattle.cells.specs.Twin.{numbers, Known, third_of, after, all_sides, first_side, Pick, picked, onward, start, end, against, seek, pick, run, known_from}
use Rattle.cells.specs.Twin.Pick.{stuck, took}
use Rattle.cells.proofs.Squares.{step_back, square_next, four, all_round}
use Rattle.cells.proofs.Tests.{both, not_in, below_in, in_below, numbers_length}

-- ---- round a quad

pub square_on : (p q : Pair) → OneStep (q ⊖ p) → Square p q (third_of p q) (third_of p q ⊖ (q ⊖ p))
square_on p q s = record { side = s; third = refl; fourth = refl }

third_is : (L : ℕ → Pair) (c : Cell) → Round L c → (i : ℕ) → i < 4 → L (c (((i + 1) % 4 + 1) % 4)) ≡ third_of (L (c i)) (L (c ((i + 1) % 4)))
third_is L c r = four (λ i. L (c (((i + 1) % 4 + 1) % 4)) ≡ third_of (L (c i)) (L (c ((i + 1) % 4)))) r.third (square_next r).third (square_next (square_next r)).third (square_next (square_next (square_next r))).third

abbrev side_of : ℕ → ℕ → Pair → Pair → Known
side_of n i p q = record { quad = n; place = i; p = p; q = q }

-- four sides on is the side itself
after_four : (k : Known) → k.place < 4 → OneStep (k.q ⊖ k.p) → after (after (after (after k))) ≡ k
after_four k small step =
    let p = k.p in
    let q = k.q in
    let r = third_of p q in
    let one = square_next (square_on p q step) in
    let two = square_next one in
    let e : third_of r (third_of q r) ≡ p = ap (third_of r) (sym one.third) ∙ sym two.third in
    let f : third_of (third_of q r) (third_of r (third_of q r)) ≡ q = ap₂ third_of (sym one.third) e ∙ sym (square_next two).third in
    let i : ((((k.place + 1) % 4 + 1) % 4 + 1) % 4 + 1) % 4 ≡ k.place = four (λ i. ((((i + 1) % 4 + 1) % 4 + 1) % 4 + 1) % 4 ≡ i) refl refl refl refl k.place small in
    ap₂ (side_of k.quad (((((k.place + 1) % 4 + 1) % 4 + 1) % 4 + 1) % 4)) e f ∙ ap (λ (j : ℕ). side_of k.quad j p q) i

-- what goes on from each place to the next, and is so at one, is so at all
every_place : (P : ℕ → Type 0) → ((i : ℕ) → P i → P ((i + 1) % 4)) → (i : ℕ) → i < 4 → P i → (j : ℕ) → j < 4 → P j
every_place P go i h p =
    let z : P 0 = four (λ i. P i → P 0) (λ a. a) (λ a. go 3 (go 2 (go 1 a))) (λ a. go 3 (go 2 a)) (λ a. go 3 a) i h p in
    four P z (go 0 z) (go 1 (go 0 z)) (go 2 (go 1 (go 0 z)))

-- ---- seeking

lay_some : (P : Known → Type 0) (b : Bool) (k : Known) (o : Option Known) → (b ≡ true → P k) → ((j : Known) → o ≡ some j → P j) → (j : Known) → cond b (some k) o ≡ some j → P j
lay_some P true k o f g j e =
    let q : k ≡ j = cc in
    subst P q (f refl)
lay_some P false k o f g j e = g j e

is_not : {A : Type 0} {k : Known} → some k ≡ none → A
is_not {k = k} e = absurd (some-ne-none k e)

lay_none : (b : Bool) (k : Known) (o : Option Known) → cond b (some k) o ≡ none → (b ≡ false) × (o ≡ none)
lay_none true k o e = is_not e
lay_none false k o e = (refl, e)

module _ (cells : List ℕ) where
  -- what is so of every side laid on a known one is so of what is found
  seek_some : (P : Known → Type 0) (n : ℕ) (ks : List Known) → ((k : Known) → In k ks → (i : ℕ) → i < 4 → against cells n k i ≡ true → P (side_of n i k.q k.p)) → (j : Known) → seek cells n ks ≡ some j → P j
  seek_some P n [] f j e = is_not (sym e)
  seek_some P n (k ∷ ks) f j e =
      let each : (i : ℕ) → i < 4 → against cells n k i ≡ true → P (side_of n i k.q k.p) = f k (first refl) in
      lay_some P (against cells n k 0) _ _ (each 0 (lit< tt))
      (lay_some P (against cells n k 1) _ _ (each 1 (lit< tt))
      (lay_some P (against cells n k 2) _ _ (each 2 (lit< tt))
      (lay_some P (against cells n k 3) _ _ (each 3 (lit< tt)) (seek_some P n ks (λ m i. f m (later i)))))) j e

  pub seek_none : (n : ℕ) (ks : List Known) → seek cells n ks ≡ none → (k : Known) → In k ks → (i : ℕ) → i < 4 → against cells n k i ≡ false
  seek_none n [] e k i = not_in i
  seek_none n (m ∷ ks) e k i =
      let a = lay_none (against cells n m 0) _ _ e in
      let b = lay_none (against cells n m 1) _ _ a.1 in
      let c = lay_none (against cells n m 2) _ _ b.1 in
      let d = lay_none (against cells n m 3) _ _ c.1 in
      go i a.0 b.0 c.0 d.0 (seek_none n ks d.1 k)
    where
      go : In k (m ∷ ks) → against cells n m 0 ≡ false → against cells n m 1 ≡ false → against cells n m 2 ≡ false → against cells n m 3 ≡ false
          → (In k ks → (i : ℕ) → i < 4 → against cells n k i ≡ false) → (i : ℕ) → i < 4 → against cells n k i ≡ false
      go (first p) a b c d r = subst (λ (j : Known). (i : ℕ) → i < 4 → against cells n j i ≡ false) (sym p) (four (λ i. against cells n m i ≡ false) a b c d)
      go (later j) a b c d r = r j

  against_is : (n : ℕ) (k : Known) (i : ℕ) → against cells n k i ≡ true → (k.quad ≢ n) × (cell 4 cells n i ≡ end cells k) × (cell 4 cells n ((i + 1) % 4) ≡ start cells k)
  against_is n k i t =
      let a = both (not (eqb k.quad n)) _ t in
      let b = both (eqb (cell 4 cells n i) (end cells k)) _ a.1 in
      (eqb-false k.quad n (not-true _ a.0), eqb-true _ _ b.0, eqb-true _ _ b.1)

  pub is_against : (n : ℕ) (k : Known) (i : ℕ) → k.quad ≢ n → cell 4 cells n i ≡ end cells k → cell 4 cells n ((i + 1) % 4) ≡ start cells k → against cells n k i ≡ true
  is_against n k i d e f = ap₂ ◌&&◌ (ap not (ne_eqb k.quad n d)) (ap₂ ◌&&◌ (eq-eqb _ _ e) (eq-eqb _ _ f))

-- ---- picking

first_or_later : {m n : ℕ} {ns : List ℕ} → In m (n ∷ ns) → (m ≡ n) ⊎ In m ns
first_or_later (first p) = inl p
first_or_later (later i) = inr i

or_later : {m n k : ℕ} {ms : List ℕ} → (m ≡ k) ⊎ In m ms → (m ≡ k) ⊎ In m (n ∷ ms)
or_later (inl e) = inl e
or_later (inr i) = inr (later i)

module _ (cells : List ℕ) (ks : List Known) where
  -- of ns quad n is picked, by its side k, and ms are the others
  record Took (ns : List ℕ) (k : Known) (ms : List ℕ) : Type 0 where
    n : ℕ
    among : In n ns
    found : seek cells n ks ≡ some k
    left : (m : ℕ) → In m ns → (m ≡ n) ⊎ In m ms
    old : (m : ℕ) → In m ms → In m ns
    shorter : length ns ≡ suc (length ms)

  data Picks (ns : List ℕ) : Pick → Type 0 where
    none_led : ((n : ℕ) → In n ns → seek cells n ks ≡ none) → Picks ns stuck
    one_led : {k : Known} {ms : List ℕ} → Took ns k ms → Picks ns (took k ms)

  pick_is : (ns : List ℕ) → Picks ns (pick cells ns ks)
  pick_is [] = none_led (λ n i. not_in i)
  pick_is (n ∷ ns) = go (seek cells n ks) refl (pick cells ns ks) (pick_is ns)
    where
      neither : seek cells n ks ≡ none → ((m : ℕ) → In m ns → seek cells m ks ≡ none) → (m : ℕ) → In m (n ∷ ns) → seek cells m ks ≡ none
      neither e f m (first p) = ap (λ (z : ℕ). seek cells z ks) p ∙ e
      neither e f m (later i) = f m i

      left_of : {k : Known} {ms : List ℕ} (t : Took ns k ms) (m : ℕ) → In m (n ∷ ns) → (m ≡ t.n) ⊎ In m (n ∷ ms)
      left_of t m (first p) = inr (first p)
      left_of t m (later i) = or_later (t.left m i)

      old_of : {k : Known} {ms : List ℕ} (t : Took ns k ms) (m : ℕ) → In m (n ∷ ms) → In m (n ∷ ns)
      old_of t m (first p) = first p
      old_of t m (later i) = later (t.old m i)

      go : (o : Option Known) → seek cells n ks ≡ o → (r : Pick) → Picks ns r → Picks (n ∷ ns) (picked n ns o r)
      go (some k) e r p = one_led (record { n = n; among = first refl; found = e; left = λ m i. first_or_later i; old = λ m i. later i; shorter = refl })
      go none e stuck (none_led f) = none_led (neither e f)
      go none e (took k ms) (one_led t) = one_led (record { n = t.n; among = later t.among; found = t.found; left = left_of t; old = old_of t; shorter = ap suc t.shorter })

-- ---- what is so of the known sides

pub record KnownQuad (ks : List Known) (n : ℕ) : Type 0 where
  pub k : Known
  pub among : In k ks
  pub is : k.quad ≡ n

pub record KnownSide (ks : List Known) (n i : ℕ) : Type 0 where
  pub k : Known
  pub among : In k ks
  pub is : k.quad ≡ n
  pub at : k.place ≡ i

module _ (cells : List ℕ) (s : ℕ) where
  -- a side of a reached quad whose ends every assignment that fits gives these pairs
  pub record Good (k : Known) : Type 0 where
    pub range : Has 4 cells k.quad
    pub small : k.place < 4
    pub reached : Reached quads cells s k.quad
    pub step : OneStep (k.q ⊖ k.p)
    pub forced : (L : ℕ → Pair) → Fits quads cells s L → (L (start cells k) ≡ k.p) × (L (end cells k) ≡ k.q)

  after_good : {k : Known} → Good k → Good (after k)
  after_good {k} g =
      record {
        range = g.range;
        small = four (λ i. (i + 1) % 4 < 4) (lit< tt) (lit< tt) (lit< tt) (lit< tt) k.place g.small;
        reached = g.reached;
        step = (square_next (square_on k.p k.q g.step)).side;
        forced = λ L f. ((g.forced L f).1, third_is L (cell 4 cells k.quad) (all_round cells f g.reached) k.place g.small ∙ ap₂ third_of (g.forced L f).0 (g.forced L f).1);
      }

  -- a quad laid on a good side of another
  laid_good : (n : ℕ) → Has 4 cells n → (k : Known) → Good k → (i : ℕ) → i < 4 → against cells n k i ≡ true → Good (side_of n i k.q k.p)
  laid_good n range k g i small t =
      let a = against_is cells n k i t in
      record {
        range = range;
        small = small;
        reached = on g.reached (record {
          from = g.range;
          to = range;
          two = a.0;
          step = record {
            x = start cells k;
            y = end cells k;
            there = record { at = k.place; small = g.small; starts = refl; ends = refl };
            back = record { at = i; small = small; starts = a.1; ends = a.2 };
          };
        });
        step = step_back k.p k.q g.step;
        forced = λ L f. (ap L a.1 ∙ (g.forced L f).1, ap L a.2 ∙ (g.forced L f).0);
      }

  -- they are good, and with a side of a quad all its sides are known
  pub record Sound (ks : List Known) : Type 0 where
    pub good : (k : Known) → In k ks → Good k
    pub next : (k : Known) → In k ks → In (after k) ks

  sound_sides : (k : Known) (ks : List Known) → Good k → Sound ks → Sound (all_sides k ks)
  sound_sides k ks g st = record { good = each; next = turned }
    where
      each : (j : Known) → In j (all_sides k ks) → Good j
      each j (first e) = subst Good (sym e) g
      each j (later (first e)) = subst Good (sym e) (after_good g)
      each j (later (later (first e))) = subst Good (sym e) (after_good (after_good g))
      each j (later (later (later (first e)))) = subst Good (sym e) (after_good (after_good (after_good g)))
      each j (later (later (later (later i)))) = st.good j i

      turned : (j : Known) → In j (all_sides k ks) → In (after j) (all_sides k ks)
      turned j (first e) = later (first (ap after e))
      turned j (later (first e)) = later (later (first (ap after e)))
      turned j (later (later (first e))) = later (later (later (first (ap after e))))
      turned j (later (later (later (first e)))) = first (ap after e ∙ after_four k g.small g.step)
      turned j (later (later (later (later i)))) = later (later (later (later (st.next j i))))

  -- of a known quad every side is known
  pub every_side : (ks : List Known) → Sound ks → {n : ℕ} → KnownQuad ks n → (i : ℕ) → i < 4 → KnownSide ks n i
  every_side ks st {n} h = every_place (KnownSide ks n) on_from h.k.place (st.good h.k h.among).small (record { k = h.k; among = h.among; is = h.is; at = refl })
    where
      on_from : (i : ℕ) → KnownSide ks n i → KnownSide ks n ((i + 1) % 4)
      on_from i a = record { k = after a.k; among = st.next a.k a.among; is = a.is; at = ap (λ (j : ℕ). (j + 1) % 4) a.at }

  -- ---- the end of the run

  pub record Ended (ks : List Known) : Type 0 where
    pub sound : Sound ks
    pub seed : In (first_side s) ks
    pub closed : (n : ℕ) → n < length cells / 4 → KnownQuad ks n ⊎ (seek cells n ks ≡ none)

  -- every quad is known or waits
  record Waiting (ns : List ℕ) (ks : List Known) : Type 0 where
    sound : Sound ks
    seed : In (first_side s) ks
    range : (n : ℕ) → In n ns → Has 4 cells n
    all : (n : ℕ) → n < length cells / 4 → KnownQuad ks n ⊎ In n ns

  one_more : {ns ms : List ℕ} {ks : List Known} {k : Known} → Waiting ns ks → Took cells ks ns k ms → Waiting ms (all_sides k ks)
  one_more {ns} {ms} {ks} {k} w t =
      record {
        sound = sound_sides k ks good w.sound;
        seed = later (later (later (later w.seed)));
        range = λ n i. w.range n (t.old n i);
        all = λ n h. held n (w.all n h);
      }
    where
      good : Good k
      good = seek_some cells Good t.n ks (λ j i. laid_good t.n (w.range t.n t.among) j (w.sound.good j i)) k t.found

      is : k.quad ≡ t.n
      is = seek_some cells (λ (j : Known). j.quad ≡ t.n) t.n ks (λ j i a b c. refl) k t.found

      now : (n : ℕ) → (n ≡ t.n) ⊎ In n ms → KnownQuad (all_sides k ks) n ⊎ In n ms
      now n (inl e) = inl (record { k = k; among = first refl; is = is ∙ sym e })
      now n (inr i) = inr i

      held : (n : ℕ) → KnownQuad ks n ⊎ In n ns → KnownQuad (all_sides k ks) n ⊎ In n ms
      held n (inl h) = inl (record { k = h.k; among = later (later (later (later h.among))); is = h.is })
      held n (inr i) = now n (t.left n i)

  run_ends : (fuel : ℕ) (ns : List ℕ) (ks : List Known) → Waiting ns ks → length ns ≤ fuel → Ended (run cells fuel ns ks)
  run_ends zero [] ks w h = record { sound = w.sound; seed = w.seed; closed = λ n l. known (w.all n l) }
    where
      known : {n : ℕ} → KnownQuad ks n ⊎ In n [] → KnownQuad ks n ⊎ (seek cells n ks ≡ none)
      known (inl k) = inl k
      known (inr i) = not_in i
  run_ends zero (n ∷ ns) ks w h = absurd (omega arith)
  run_ends (suc fuel) ns ks w h = go (pick cells ns ks) (pick_is cells ks ns) (λ ms js. run_ends fuel ms js)
    where
      known : ((n : ℕ) → In n ns → seek cells n ks ≡ none) → {n : ℕ} → KnownQuad ks n ⊎ In n ns → KnownQuad ks n ⊎ (seek cells n ks ≡ none)
      known f (inl k) = inl k
      known f {n} (inr i) = inr (f n i)

      go : (r : Pick) → Picks cells ks ns r → ((ms : List ℕ) (js : List Known) → Waiting ms js → length ms ≤ fuel → Ended (run cells fuel ms js)) → Ended (onward r ks (λ (k : Known) (ms : List ℕ). run cells fuel ms (all_sides k ks)))
      go stuck (none_led f) more = record { sound = w.sound; seed = w.seed; closed = λ n l. known f (w.all n l) }
      go (took k ms) (one_led t) more = more ms (all_sides k ks) (one_more w t) (omega (arith, t.shorter))

  pub known_ends : Has 4 cells s → Ended (known_from cells s)
  known_ends h = run_ends (length cells / 4) (numbers (length cells / 4)) (all_sides (first_side s) []) begun (omega (arith, numbers_length (length cells / 4)))
    where
      good : Good (first_side s)
      good = record { range = h; small = lit< tt; reached = here; step = east refl; forced = λ L f. (f.reads 0 (lit< tt), f.reads 1 (lit< tt)) }

      begun : Waiting (numbers (length cells / 4)) (all_sides (first_side s) [])
      begun = record {
        sound = sound_sides (first_side s) [] good (record { good = λ k i. not_in i; next = λ k i. not_in i });
        seed = first refl;
        range = λ n i. omega (arith, in_below (length cells / 4) i);
        all = λ n l. inr (below_in (length cells / 4) n l);
      }
