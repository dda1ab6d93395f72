-- An example says what is computed of it; the worked examples are one list, and one proof by computation. Assumes nothing.
use mathlib.Core.Path.{◌≡◌, refl, sym, ap, ◌∙◌, subst}
use mathlib.Core.Bool.{Bool, true}
use mathlib.Core.List.{List, map}
use Prim.Native.Nat.{ℕ}
use native.Mathlib.Omega.{arith}
use Rattle.cells.specs.Quads.{quads}
use Rattle.cells.specs.Listed.{In, Entry, Components}
use Rattle.cells.specs.Listed.In.{first, later}
use Rattle.cells.specs.Sums.{total}
use Rattle.cells.specs.Holes.{holes, places, width, height, held}
use Rattle.cells.specs.Computed.{computed}
use Rattle.cells.specs.Check.{groups_test}
use Rattle.cells.specs.Example.{Told, Example, grouping, Says, examples}
use Rattle.cells.proofs.Computed.{computed_are}
use Rattle.cells.proofs.Check.{groups_are}

-- two functions that make the same list of a list are equal on its members
same_made : {A B : Type 0} (f g : A → B) {x : A} {xs : List A} → map f xs ≡ map g xs → In x xs → f x ≡ g x
same_made f g e (first {f = y} {es = ys} p) =
    let h : f y ≡ g y = cc in
    ap f p ∙ h ∙ ap g (sym p)
same_made f g e (later {f = y} {es = ys} i) =
    let h : map f ys ≡ map g ys = cc in
    same_made f g h i

-- what is computed of an example, and what it tells
abbrev pub Outcome : Type 0
Outcome = Bool × List (List Entry) × List ℕ

abbrev pub found : Example → Outcome
found x = (groups_test x.cells (grouping x).number, computed x.cells (grouping x) (grouping x).n, map (λ (t : Told). holes t.entries) x.answer)

abbrev pub told : Example → Outcome
told x = (true, map (λ (t : Told). t.entries) x.answer, map (λ (t : Told). t.gaps) x.answer)

pub example_says : (x : Example) → found x ≡ told x → Says x
example_says x e = record {
  grouped = groups_are x.cells (grouping x).number (ap (λ (o : Outcome). o.0) e);
  components = subst (Components quads x.cells (grouping x) (grouping x).n) (ap (λ (o : Outcome). o.1) e) (computed_are x.cells (grouping x) (grouping x).n (omega arith));
  holed = λ t i. same_made (λ (t : Told). holes t.entries) (λ (t : Told). t.gaps) (ap (λ (o : Outcome). o.2) e) i;
}

pub examples_say : (x : Example) → In x examples → Says x
unfolding holes places total width height held
examples_say x i = example_says x (same_made found told {xs = examples} refl i)
