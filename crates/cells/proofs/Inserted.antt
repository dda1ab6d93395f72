-- Entries put in order: sorted, and the same entries, where two at one place are one. Assumes nothing.
use mathlib.Core.Path.{◌≡◌, refl, sym, ap, ◌∙◌, subst}
use mathlib.Core.Bool.{Bool, true, false, ◌&&◌}
use mathlib.Core.List.{List, [], ◌∷◌}
use mathlib.Core.Logic.{◌⊎◌, inl, inr}
use Prim.Native.Nat.{ℕ, ◌≤◌}
use native.Mathlib.Omega.{arith}
use borrow.Author.Tests.{eqb-true, eq-eqb, ltb-true, ltb-false}
use lib.Dec.{eqb, ltb}
use Rattle.cells.specs.Listed.{In, Sorted, Entry, Before}
use Rattle.cells.specs.Listed.In.{first, later}
use Rattle.cells.specs.Listed.Sorted.{none, more}
use Rattle.cells.specs.Listed.Before.{by_u, by_v}
use Rattle.cells.specs.Computed.{comes_before, inserted, insert, in_order}
use Rattle.cells.proofs.Tests.{both, either, neither, not_in}

before_is : (e f : Entry) → comes_before e f ≡ true → Before e f
before_is e f t = go (either (ltb e.u f.u) (eqb e.u f.u && ltb e.v f.v) t)
  where
    go : (ltb e.u f.u ≡ true) ⊎ ((eqb e.u f.u && ltb e.v f.v) ≡ true) → Before e f
    go (inl a) = by_u (ltb-true e.u f.u a)
    go (inr a) =
        let b = both (eqb e.u f.u) (ltb e.v f.v) a in
        by_v (eqb-true e.u f.u b.0) (ltb-true e.v f.v b.1)

before_before : {e f g : Entry} → Before e f → Before f g → Before e g
before_before (by_u a) (by_u b) = by_u (omega arith)
before_before (by_u a) (by_v b c) = by_u (omega arith)
before_before (by_v a b) (by_u c) = by_u (omega arith)
before_before (by_v a b) (by_v c d) = by_v (a ∙ c) (omega arith)

no_lower : (a b x y : ℕ) → a ≡ b → (eqb a b && ltb x y) ≡ false → y ≤ x
no_lower a b x y e t = ltb-false x y (sym (ap (λ (c : Bool). c && ltb x y) (eq-eqb a b e)) ∙ t)

-- neither before the other: one place
one_place : (e f : Entry) → comes_before e f ≡ false → comes_before f e ≡ false → (e.u ≡ f.u) × (e.v ≡ f.v)
one_place e f a b =
    let c = neither (ltb e.u f.u) _ a in
    let d = neither (ltb f.u e.u) _ b in
    let u : e.u ≡ f.u = omega (arith, ltb-false e.u f.u c.0, ltb-false f.u e.u d.0) in
    (u, omega (arith, no_lower e.u f.u e.v f.v u c.1, no_lower f.u e.u f.v e.v (sym u) d.1))

-- ---- one entry

insert_in : (e g : Entry) (fs : List Entry) → In g (insert e fs) → In g (e ∷ fs)
insert_in e g [] i = i
insert_in e g (f ∷ fs) i = go (comes_before e f) (comes_before f e) i (λ j. insert_in e g fs j)
  where
    past : In g (e ∷ fs) → In g (e ∷ f ∷ fs)
    past (first p) = first p
    past (later j) = later (later j)

    go : (b c : Bool) → In g (inserted b c e f fs (insert e fs)) → (In g (insert e fs) → In g (e ∷ fs)) → In g (e ∷ f ∷ fs)
    go true c i r = i
    go false true (first p) r = later (first p)
    go false true (later j) r = past (r j)
    go false false i r = later i

in_insert : (e g : Entry) (fs : List Entry) → In g fs → In g (insert e fs)
in_insert e g [] i = not_in i
in_insert e g (f ∷ fs) i = go (comes_before e f) (comes_before f e) i (λ j. in_insert e g fs j)
  where
    go : (b c : Bool) → In g (f ∷ fs) → (In g fs → In g (insert e fs)) → In g (inserted b c e f fs (insert e fs))
    go true c i r = later i
    go false true (first p) r = first p
    go false true (later j) r = later (r j)
    go false false i r = i

-- where an entry at e's place is e
self_insert : (e : Entry) (fs : List Entry) → ((f : Entry) → In f fs → e.u ≡ f.u → e.v ≡ f.v → e ≡ f) → In e (insert e fs)
self_insert e [] h = first refl
self_insert e (f ∷ fs) h = go (comes_before e f) refl (comes_before f e) refl (self_insert e fs (λ g i. h g (later i)))
  where
    go : (b : Bool) → comes_before e f ≡ b → (c : Bool) → comes_before f e ≡ c → In e (insert e fs) → In e (inserted b c e f fs (insert e fs))
    go true p c q r = first refl
    go false p true q r = later r
    go false p false q r =
        let o = one_place e f p q in
        first (h f (first refl) o.0 o.1)

insert_sorted : (e : Entry) {fs : List Entry} → Sorted Before fs → Sorted Before (insert e fs)
insert_sorted e none = more (λ f i. not_in i) none
insert_sorted e (more {e = f} {es = fs} o s) = go (comes_before e f) refl (comes_before f e) refl (insert_sorted e s)
  where
    in_front : Before e f → (g : Entry) → In g (f ∷ fs) → Before e g
    in_front b g (first p) = subst (Before e) (sym p) b
    in_front b g (later i) = before_before b (o g i)

    behind : Before f e → (g : Entry) → In g (e ∷ fs) → Before f g
    behind b g (first p) = subst (Before f) (sym p) b
    behind b g (later i) = o g i

    go : (b : Bool) → comes_before e f ≡ b → (c : Bool) → comes_before f e ≡ c → Sorted Before (insert e fs) → Sorted Before (inserted b c e f fs (insert e fs))
    go true p c q r = more (in_front (before_is e f p)) (more o s)
    go false p true q r = more (λ g i. behind (before_is f e q) g (insert_in e g fs i)) r
    go false p false q r = more o s

-- ---- all of them

pub order_in : {g : Entry} (es : List Entry) → In g (in_order es) → In g es
order_in [] i = i
order_in {g} (e ∷ es) i = go (insert_in e g (in_order es) i) (λ j. order_in es j)
  where
    go : In g (e ∷ in_order es) → (In g (in_order es) → In g es) → In g (e ∷ es)
    go (first p) r = first p
    go (later j) r = later (r j)

pub in_the_order : {g : Entry} (es : List Entry) → ((e f : Entry) → In e es → In f es → e.u ≡ f.u → e.v ≡ f.v → e ≡ f) → In g es → In g (in_order es)
in_the_order [] h i = i
in_the_order {g} (e ∷ es) h (first p) = subst (λ (x : Entry). In x (insert e (in_order es))) (sym p) (self_insert e (in_order es) (λ f i. h e f (first refl) (later (order_in es i))))
in_the_order {g} (e ∷ es) h (later i) = in_insert e g (in_order es) (in_the_order es (λ x y j k. h x y (later j) (later k)) i)

pub order_sorted : (es : List Entry) → Sorted Before (in_order es)
order_sorted [] = none
order_sorted (e ∷ es) = insert_sorted e (order_sorted es)
