-- A list of components is small: no more of them than quads, and no more than four entries a quad (`few`). A component's entries stand on
-- different corners of its group's quads; each goes to a place of such a quad, counted within the group, and no two to one place. No quad
-- is in two groups, so the groups' quads add up to no more than all. Assumes nothing.
use mathlib.Core.Path.{◌≡◌, sym, ap, ◌∙◌}
use mathlib.Core.List.{List, [], ◌∷◌}
use Prim.Native.Nat.{ℕ, suc, ◌+◌, ◌*◌, ◌/◌, ◌≤◌, ◌<◌}
use native.Mathlib.Decide.{dec_lt}
use native.Mathlib.Numerals.{add-one}
use native.Mathlib.Omega.{arith}
use lib.ListN.{length, length-append}
use Rattle.words.specs.Sorting.{equal, below}
use Rattle.words.proofs.Rank.{equal_own, below_step, below_mono, below_le}
use Rattle.cells.specs.Cells.{cell, Neighbours, everyone}
use Rattle.cells.specs.Groups.{Groups}
use Rattle.cells.specs.Kind.{Reached, ReachedCorner}
use Rattle.cells.specs.Kind.Chain.{here, on}
use Rattle.cells.specs.Listed.{Entry, Grouping, Component, Components}
use Rattle.cells.specs.Listed.Components.{start, within, dropped, kept}
use Rattle.cells.specs.Quads.{quads}
use Rattle.cells.proofs.Groups.{linked_equal}
use Rattle.cells.proofs.NoMore.{no_more}
use Rattle.cells.proofs.Squares.{quad_laws}
use Rattle.cells.proofs.Unique.{reached_linked}
use Rattle.walk.specs.Call.{all_entries}
use Rattle.walk.proofs.ByPlace.{exactly_lone}
use Rattle.walk.proofs.Counting.{all_snoc}

-- of two numbers with the key v, the higher has more of them below it
one_with_key : (key : ℕ → ℕ) (v p q : ℕ) → key p ≡ v → key q ≡ v → equal key p v ≡ equal key q v → p ≡ q
one_with_key key v p q a b e = go (dec_lt p q) (dec_lt q p)
  where
    go : Dec (p < q) → Dec (q < p) → p ≡ q
    go (yes h) d = absurd (omega (arith, rw a at (equal_own key p q h)))
    go (no h) (yes d) = absurd (omega (arith, rw b at (equal_own key q p d)))
    go (no h) (no d) = omega (arith, h, d)

module _ (cells : List ℕ) (g : Grouping) (all : g.n ≡ length cells / 4) (groups : Groups (Neighbours 4 cells everyone) g.n g.number) where
  -- ---- the quads reached are of the group

  reached_in : {s q : ℕ} → s < g.n → Reached quads cells s q → q < g.n
  reached_in h here = h
  reached_in h (on r n) = omega (arith, n.to)

  module _ (s : ℕ) (own : g.number s ≡ s) (h : s < g.n) where
    in_group : {q : ℕ} → Reached quads cells s q → g.number q ≡ s
    in_group r = sym (linked_equal groups (reached_linked quads quad_laws cells r)) ∙ own

    -- ---- where a corner goes: a place of the quad, past four for each quad of the group before it

    sent : {c : ℕ} → ReachedCorner quads cells s c → ℕ
    sent r = 4 * equal g.number r.of s + r.place

    sent_small : {c : ℕ} (r : ReachedCorner quads cells s c) → sent r < 4 * equal g.number g.n s
    unfolding sent
    sent_small r =
        let b : r.place < 4 = r.small in
        omega (arith, rw (in_group r.reached) at (equal_own g.number r.of g.n (reached_in h r.reached)))

    sent_apart : {c d : ℕ} (r : ReachedCorner quads cells s c) (q : ReachedCorner quads cells s d) → sent r ≡ sent q → c ≡ d
    unfolding sent
    sent_apart r q e =
        let a : r.place < 4 = r.small in
        let b : q.place < 4 = q.small in
        let i : r.place ≡ q.place = omega arith in
        let of : r.of ≡ q.of = one_with_key g.number s r.of q.of (in_group r.reached) (in_group q.reached) (omega arith) in
        sym r.is ∙ ap (λ (p : ℕ). cell 4 cells p r.place) of ∙ ap (λ (j : ℕ). cell 4 cells q.of j) i ∙ q.is

    component_few : {es : List Entry} → Component quads cells g s es → length es ≤ 4 * equal g.number g.n s
    component_few {es} c =
        let a = exactly_lone cells s c.L es c.listed in
        no_more (length es) (4 * equal g.number g.n s) (λ k b. sent (a.each k b).reached) (λ k b. sent_small (a.each k b).reached)
        (λ j k bj bk e. a.apart j k bj bk (sent_apart (a.each j bj).reached (a.each k bk).reached e))

  -- ---- all components

  few_below : (m : ℕ) (out : List (List Entry)) → m ≤ g.n → Components quads cells g m out → (length out ≤ m) × (length (all_entries out) ≤ 4 * below g.number g.n m)
  unfolding all_entries
  few_below m out h start = (omega arith, omega arith)
  few_below m out h (within {m = p} c e) =
      let r = few_below p out (omega arith) c in
      (omega (arith, r.0), omega (arith, r.1, below_mono g.number g.n p (suc p) (omega arith)))
  few_below m out h (dropped {m = p} c e d) =
      let r = few_below p out (omega arith) c in
      (omega (arith, r.0), omega (arith, r.1, below_mono g.number g.n p (suc p) (omega arith)))
  few_below m out h (kept {m = p} {out = rest} {es = es} c e d) =
      let r = few_below p rest (omega arith) c in (
        omega (arith, r.0, length-append rest (es ∷ [])),
        omega (arith, r.1, ap length (all_snoc rest es), length-append (all_entries rest) es, component_few p e (omega arith) d, rw add-one at (below_step g.number p g.n)),
      )

  pub few : (out : List (List Entry)) → Components quads cells g g.n out → (length out ≤ g.n) × (length (all_entries out) ≤ 4 * g.n)
  few out c =
      let r = few_below g.n out (omega arith) c in
      (r.0, omega (arith, r.1, below_le g.number g.n g.n))
