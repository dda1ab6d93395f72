-- Words said over and over: the given ones are the first, and each later one is the word that stands `given` places before it.
-- Assumes nothing.
use mathlib.Core.Path.{◌≡◌, refl, sym, ap, ◌∙◌}
use mathlib.Core.List.{List}
use Prim.Native.Nat.{ℕ, zero, suc, ◌-◌, ◌≤◌}
use native.Mathlib.Nat.{mod-zero, mod-eq_of_lt, mod-eq-sub-mod, le_refl}
use native.Mathlib.Omega.{arith}
use lib.ListN.{get_or}
use Rattle.vectors.specs.inner.Lists.{over_at, Laid}

pub over_given : (xs : List ℕ) (given : ℕ) → Laid 0 xs xs given (over_at xs given)
over_given xs given = record { len = refl; laid = λ k h. ap (λ (j : ℕ). get_or xs j 0) (sym (mod-eq_of_lt h)); rest = λ k h. refl }

pub over_next : (given : ℕ) {xs ys : List ℕ} {i : ℕ} → given ≤ i → Laid 0 xs ys i (over_at xs given) → get_or ys (i - given) 0 ≡ over_at xs given i
over_next zero {xs} {ys} {i} h l = let e : i - 0 ≡ i = omega arith in rw e (l.rest i (le_refl i)) ∙ ap (λ (j : ℕ). get_or xs j 0) (sym (mod-zero i))
over_next (suc given) {xs} {ys} {i} h l = l.laid (i - suc given) (omega arith) ∙ ap (λ (j : ℕ). get_or xs j 0) (sym (mod-eq-sub-mod h))
