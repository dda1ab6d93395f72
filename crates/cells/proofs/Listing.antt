-- A group's listing is determined: two listings from assignments that fit have the same entries, since each has an entry at its zeros, and
-- a list in order is fixed by what is in it. Assumes nothing.
use mathlib.Core.Path.{◌≡◌, refl, sym, ap, ap₂, ◌∙◌, subst}
use mathlib.Core.List.{List, ◌∷◌}
use Prim.Native.Nat.{ℕ}
use native.Mathlib.Omega.{arith}
use lib.IntN.{ℤ, pos, ◌+ℤ◌}
use Rattle.cells.specs.Kind.{Pair, ◌⊕◌, Kind, Fits}
use Rattle.cells.specs.Listed.{In, Sorted, Entry, Before, Some, Listed}
use Rattle.cells.specs.Listed.In.{first, later}
use Rattle.cells.specs.Listed.Sorted.{none, more}
use Rattle.cells.specs.Listed.Before.{by_u, by_v}
use Rattle.cells.proofs.Whole.{sum, of, to, up_pos}
use Rattle.cells.proofs.Unique.{Laws, one_labelling, one_lone}
use Rattle.cells.proofs.Tests.{not_in}

-- ---- lists in order

-- two entries of which one is before the other have two places
pub apart : {e f : Entry} → Before e f → e.u ≡ f.u → e.v ≡ f.v → ⊥
apart (by_u a) p q = omega arith
apart (by_v a b) p q = omega arith

one_way : {e f : Entry} → Before e f → Before f e → ⊥
one_way (by_u a) (by_u b) = omega arith
one_way (by_u a) (by_v b c) = omega arith
one_way (by_v a b) (by_u c) = omega arith
one_way (by_v a b) (by_v c d) = omega arith

-- past a first entry that both have, what the one has the other has
cut : {x e f : Entry} {es fs : List Entry} → e ≡ f → ((y : Entry) → In y es → Before e y) → In x es → In x (f ∷ fs) → In x fs
cut {x} {e} q o i (first p) =
    let r : Before e e = subst (Before e) (p ∙ sym q) (o x i) in
    absurd (apart r refl refl)
cut q o i (later j) = j

heads : {e f : Entry} {es fs : List Entry} → ((y : Entry) → In y es → Before e y) → ((y : Entry) → In y fs → Before f y) → In e (f ∷ fs) → In f (e ∷ es) → e ≡ f
heads o q (first p) j = p
heads o q (later i) (first p) = sym p
heads {e} {f} o q (later i) (later j) = absurd (one_way (o f j) (q e i))

pub same_sorted : {es fs : List Entry} → Sorted Before es → Sorted Before fs → ((e : Entry) → In e es → In e fs) → ((e : Entry) → In e fs → In e es) → es ≡ fs
same_sorted none none a b = refl
same_sorted none (more {e = f} q r) a b = not_in (b f (first refl))
same_sorted (more {e = e} o p) none a b = not_in (a e (first refl))
same_sorted (more {e = e} {es} o p) (more {e = f} {es = fs} q r) a b =
    let h : e ≡ f = heads o q (a e (first refl)) (b f (first refl)) in
    ap₂ ◌∷◌ h (same_sorted p r (λ x i. cut h o i (a x (later i))) (λ x i. cut (sym h) q i (b x (later i))))

-- ---- shifts

-- two numbers of which neither is the greater
meet : (a b : ℤ) (m n : ℕ) → a ≡ b +ℤ pos m → b ≡ a +ℤ pos n → a ≡ b
meet a b m n e f = to (omega (arith, of e, of f, sum b (pos m), sum a (pos n), up_pos m, up_pos n))

pub add_inj : (a : ℤ) (m n : ℕ) → a +ℤ pos m ≡ a +ℤ pos n → m ≡ n
add_inj a m n e = omega (arith, of e, sum a (pos m), sum a (pos n), up_pos m, up_pos n)

at_zero : (z a : ℤ) (m : ℕ) → m ≡ 0 → z ≡ a +ℤ pos m → z ≡ a
at_zero z a m e f = to (omega (arith, of f, sum a (pos m), up_pos m))

-- `at` is an entry's number along an axis of pairs
abbrev Adds : (Pair → ℤ) → (Entry → ℕ) → Type 0
Adds along at = (p : Pair) (e : Entry) → along (p ⊕ (pos e.u, pos e.v)) ≡ along p +ℤ pos (at e)

module _ (k : Kind) (w : Laws k) (cells : List ℕ) (s : ℕ) (L M : ℕ → Pair) (fl : Fits k cells s L) (fm : Fits k cells s M) (es fs : List Entry) (l : Listed k cells s L es) (m : Listed k cells s M fs) where
  -- an entry of es has one of fs on the same corner
  partner : (e : Entry) → In e es → Some fs (λ f. f.corner ≡ e.corner)
  partner e i = m.every e.corner (one_lone k w cells fl fm (l.lone e i))

  -- whose pair is the same pair
  pair_of : (e : Entry) → In e es → (f : Entry) → In f fs → f.corner ≡ e.corner → l.least ⊕ (pos e.u, pos e.v) ≡ m.least ⊕ (pos f.u, pos f.v)
  pair_of e i f j c = sym (l.pairs e i) ∙ one_labelling k w cells fl fm (l.lone e i).reached ∙ ap M (sym c) ∙ m.pairs f j

  -- so along an axis the shift of fs is no greater than that of es
  low : (along : Pair → ℤ) (at : Entry → ℕ) → Adds along at → Some es (λ f. at f ≡ 0) → record { n : ℕ; is : along l.least ≡ along m.least +ℤ pos n }
  low along at adds z =
      let p = partner z.entry z.among in
      let q = pair_of z.entry z.among p.entry p.among p.is in
      record { n = at p.entry; is = sym (at_zero (along m.least +ℤ pos (at p.entry)) (along l.least) (at z.entry) z.is (sym (adds m.least p.entry) ∙ sym (ap along q) ∙ adds l.least z.entry)) }

-- ---- one listing

abbrev made : ℕ → ℕ → ℕ → Entry
made u v c = record { u = u; v = v; corner = c }

pub entry_eq : {e f : Entry} → e.u ≡ f.u → e.v ≡ f.v → e.corner ≡ f.corner → e ≡ f
entry_eq {e} {f} a b c = ap₂ (λ (u v : ℕ). made u v e.corner) a b ∙ ap (λ (d : ℕ). made f.u f.v d) c

module _ (k : Kind) (w : Laws k) (cells : List ℕ) (s : ℕ) where
  module _ (L M : ℕ → Pair) (fl : Fits k cells s L) (fm : Fits k cells s M) (es fs : List Entry) (l : Listed k cells s L es) (m : Listed k cells s M fs) where
    -- the shifts are the same, and so are the numbers of two entries on one corner
    same_at : (along : Pair → ℤ) (at : Entry → ℕ) → Adds along at → Some es (λ g. at g ≡ 0) → Some fs (λ g. at g ≡ 0) → (e : Entry) → In e es → (f : Entry) → In f fs → f.corner ≡ e.corner → at e ≡ at f
    same_at along at adds y z e i f j c =
        let a = low k w cells s L M fl fm es fs l m along at adds y in
        let b = low k w cells s M L fm fl fs es m l along at adds z in
        let shift : along l.least ≡ along m.least = meet (along l.least) (along m.least) a.n b.n a.is b.is in
        let q = pair_of k w cells s L M fl fm es fs l m e i f j c in
        add_inj (along m.least) (at e) (at f) (ap (λ (z : ℤ). z +ℤ pos (at e)) (sym shift) ∙ sym (adds l.least e) ∙ ap along q ∙ adds m.least f)

    within : (e : Entry) → In e es → In e fs
    within e i =
        let p = partner k w cells s L M fl fm es fs l m e i in
        let f = p.entry in
        let c : e.u ≡ f.u = same_at (λ r. r.0) (λ g. g.u) (λ r g. refl) (l.zero_u e i) (m.zero_u f p.among) e i f p.among p.is in
        let d : e.v ≡ f.v = same_at (λ r. r.1) (λ g. g.v) (λ r g. refl) (l.zero_v e i) (m.zero_v f p.among) e i f p.among p.is in
        subst (λ (g : Entry). In g fs) (sym (entry_eq c d (sym p.is))) p.among

  pub determined_listing : {L M : ℕ → Pair} {es fs : List Entry} → Fits k cells s L → Fits k cells s M → Listed k cells s L es → Listed k cells s M fs → es ≡ fs
  determined_listing {L} {M} {es} {fs} fl fm l m = same_sorted l.ordered m.ordered (within L M fl fm es fs l m) (within M L fm fl fs es m l)
