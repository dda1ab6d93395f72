-- Laws of the search for a triangle's only diagonal: one side more, a stop stays one, and what it answers is the only diagonal. Assumes nothing.
use Rattle.std.specs.Prelude.{Option, Some, None}
use mathlib.Core.Path.{◌≡◌, refl, sym, ap, ◌∙◌}
use mathlib.Core.List.{List}
use Prim.Native.Nat.{ℕ, zero, suc, ◌+◌, ◌-◌, ◌*◌, ◌≤◌, ◌<◌}
use native.Mathlib.Nat.{add-zero, add-suc}
use native.Mathlib.Omega.{arith}
use Rattle.classify.specs.declared.Class.{Class}
use Rattle.classify.specs.declared.Class.TheVariants.{Spurious, Grid, Diagonal}
use Rattle.quads.specs.Diagonal.{only_by, only_at, side_class}
use Rattle.quads.specs.inner.Search.{goes_on, step_of, seen_to, answer_of}

pub seen_more : (classes : List ℕ) (base side : ℕ) (found : Option ℕ) → base ≤ side → seen_to classes base (side - base) ≡ Some found
    → seen_to classes base (side + 1 - base) ≡ goes_on found side (side_class classes side)
unfolding seen_to
seen_more classes base side found h e =
    let here : base + (side - base) ≡ side = omega arith in
    let next : side + 1 - base ≡ suc (side - base) = omega arith in
    rw (next, e, here)

stays : (classes : List ℕ) (base n d : ℕ) → seen_to classes base n ≡ None → seen_to classes base (n + d) ≡ None
unfolding seen_to
stays classes base n zero e = rw (add-zero n) e
stays classes base n (suc d) e = rw (add-suc n d, stays classes base n d e)

three : (base : ℕ) (a b c : Class) → only_by base a b c ≡ answer_of (step_of (step_of (goes_on None base a) (base + 1) b) (base + 2) c)
unfolding only_by
three base Spurious b c = refl
three base Grid Spurious c = refl
three base Grid Grid Spurious = refl
three base Grid Grid Grid = refl
three base Grid Grid Diagonal = refl
three base Grid Diagonal Spurious = refl
three base Grid Diagonal Grid = refl
three base Grid Diagonal Diagonal = refl
three base Diagonal Spurious c = refl
three base Diagonal Grid Spurious = refl
three base Diagonal Grid Grid = refl
three base Diagonal Grid Diagonal = refl
three base Diagonal Diagonal c = refl

pub only_seen : (classes : List ℕ) (t : ℕ) → answer_of (seen_to classes (3 * t) 3) ≡ only_at classes t
unfolding only_at seen_to
only_seen classes t = rw (add-zero (3 * t)) (sym (three (3 * t) (side_class classes (3 * t)) (side_class classes (3 * t + 1)) (side_class classes (3 * t + 2))))

-- all three are passed
pub found_all : (classes : List ℕ) (t side : ℕ) (found : Option ℕ) → side ≡ 3 * t + 3 → seen_to classes (3 * t) (side - 3 * t) ≡ Some found → found ≡ only_at classes t
found_all classes t side found h e =
    let n : side - 3 * t ≡ 3 = omega arith in
    ap answer_of (sym (rw n at e)) ∙ only_seen classes t

-- the search stops at one of them
pub found_none : (classes : List ℕ) (t side : ℕ) (found : Option ℕ) → 3 * t ≤ side → side < 3 * t + 3 → seen_to classes (3 * t) (side - 3 * t) ≡ Some found
    → goes_on found side (side_class classes side) ≡ None → None ≡ only_at classes t
found_none classes t side found low high e stop =
    let n : (side + 1 - 3 * t) + (3 * t + 2 - side) ≡ 3 = omega arith in
    let at_end = rw n at (stays classes (3 * t) (side + 1 - 3 * t) (3 * t + 2 - side) (seen_more classes (3 * t) side found low e ∙ stop)) in
    ap answer_of (sym at_end) ∙ only_seen classes t
