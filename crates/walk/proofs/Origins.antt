-- Where each component comes from: component j is that of the group of lowest cell `seed j`, these rise, and a group that has no component
-- is dropped. Assumes nothing.
use mathlib.Core.Path.{◌≡◌, sym, ◌∙◌, subst}
use mathlib.Core.Bool.{cond}
use mathlib.Core.List.{List, [], ◌∷◌, ◌++◌}
use Prim.Native.Nat.{ℕ, suc, ◌+◌, ◌<◌}
use native.Mathlib.Decide.{dec_lt}
use native.Mathlib.Omega.{arith}
use borrow.Author.Tests.{lt-ltb, le-ltb}
use lib.Dec.{ltb}
use lib.ListN.{length, get_or, length-append, get_or-append}
use lib.Seq.{get_or-append_seam}
use Rattle.words.proofs.Listing.{each_more}
use Rattle.cells.specs.Kind.{Kind}
use Rattle.cells.specs.Listed.{Entry, Grouping, Component, Dropped, Components}
use Rattle.cells.specs.Listed.Components.{start, within, dropped, kept}

module _ (k : Kind) (cells : List ℕ) (g : Grouping) where
  -- the group of lowest cell s has one of the components, or none
  pub data Told (seed : ℕ → ℕ) (count s : ℕ) : Type 0 where
    one : (j : ℕ) → j < count → seed j ≡ s → Told seed count s
    none : Dropped k cells g s → Told seed count s

  pub record Origins (m : ℕ) (out : List (List Entry)) : Type 0 where
    pub seed : ℕ → ℕ
    pub small : (j : ℕ) → j < length out → seed j < m
    pub lowest : (j : ℕ) → j < length out → g.number (seed j) ≡ seed j
    pub yields : (j : ℕ) → j < length out → Component k cells g (seed j) (get_or out j [])
    pub rises : (i j : ℕ) → i < j → j < length out → seed i < seed j
    pub told : (s : ℕ) → s < m → g.number s ≡ s → Told seed (length out) s

  -- a cell more, with no component
  passed : {m : ℕ} {out : List (List Entry)} → (o : Origins m out) → (g.number m ≡ m → Dropped k cells g m) → Origins (suc m) out
  passed {m} {out} o d = record {
    seed = o.seed;
    small = λ j l. omega (arith, o.small j l);
    lowest = o.lowest;
    yields = o.yields;
    rises = o.rises;
    told = λ s l e. go s l e (dec_lt s m);
  }
    where
      go : (s : ℕ) → s < suc m → g.number s ≡ s → Dec (s < m) → Told o.seed (length out) s
      go s l e (yes b) = o.told s b e
      go s l e (no b) =
          let q : m ≡ s = omega (arith, b) in
          none (subst (λ (t : ℕ). Dropped k cells g t) q (d (subst (λ (t : ℕ). g.number t ≡ t) (sym q) e)))

  -- a cell more, with a component
  module _ {m : ℕ} {out : List (List Entry)} {es : List Entry} (o : Origins m out) (lowest : g.number m ≡ m) (c : Component k cells g m es) where
    abbrev more : List (List Entry)
    more = out ++ (es ∷ [])

    abbrev seeds : ℕ → ℕ
    seeds j = cond (ltb j (length out)) (o.seed j) m

    old : (j : ℕ) → j < length out → seeds j ≡ o.seed j
    old j l = rw (lt-ltb j (length out) l)

    new : seeds (length out) ≡ m
    new = rw (le-ltb (length out) (length out) (omega arith))

    count_more : length more ≡ length out + 1
    count_more = length-append out (es ∷ [])

    each : (P : ℕ → Type 0) → ((j : ℕ) → j < length out → P j) → P (length out) → (j : ℕ) → j < length more → P j
    each = each_more (length out) (length more) count_more

    told_more : (s : ℕ) → s < suc m → g.number s ≡ s → Told seeds (length more) s
    told_more s l e = go (dec_lt s m)
      where
        again : Told o.seed (length out) s → Told seeds (length more) s
        again (one j b q) = one j (omega (arith, count_more)) (old j b ∙ q)
        again (none d) = none d

        go : Dec (s < m) → Told seeds (length more) s
        go (yes b) = again (o.told s b e)
        go (no b) =
            let q : m ≡ s = omega (arith, b) in
            one (length out) (omega (arith, count_more)) (new ∙ q)

    added : Origins (suc m) more
    added = record {
      seed = seeds;
      small = each (λ j. seeds j < suc m) (λ j l. omega (arith, old j l, o.small j l)) (omega (arith, new));
      lowest = each (λ j. g.number (seeds j) ≡ seeds j) (λ j l. rw (old j l) (o.lowest j l)) (rw new lowest);
      yields = each (λ j. Component k cells g (seeds j) (get_or more j [])) (λ j l. rw (old j l, get_or-append out (es ∷ []) [] j l) (o.yields j l)) (rw (new, get_or-append_seam out es [] []) c);
      rises = λ i j l h. each (λ j. i < j → seeds i < seeds j) (λ j b r. rw (old j b, old i (omega arith)) (o.rises i j r b)) (λ r. rw (new, old i r) (o.small i r)) j h l;
      told = told_more;
    }

  pub origins : (m : ℕ) (out : List (List Entry)) → Components k cells g m out → Origins m out
  origins m out start = record { seed = λ j. 0; small = λ j l. absurd (omega arith); lowest = λ j l. absurd (omega arith); yields = λ j l. absurd (omega arith); rises = λ i j l h. absurd (omega arith); told = λ s l e. absurd (omega arith) }
  origins m out (within {m = p} c n) = passed (origins p out c) (λ e. absurd (n e))
  origins m out (dropped {m = p} c n d) = passed (origins p out c) (λ e. d)
  origins m out (kept {m = p} {out = rest} c n d) = added (origins p rest c) n d
