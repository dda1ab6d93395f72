-- A triangle's only diagonal is one of its half-edges. Assumes nothing.
use Rattle.std.specs.Prelude.{Option, Some, None}
use mathlib.Core.Path.{◌≡◌, refl}
use mathlib.Core.Bool.{Bool, true, false, cond, ◌&&◌}
use mathlib.Core.List.{List}
use Prim.Native.Nat.{ℕ, ◌+◌, ◌*◌, ◌≤◌, ◌<◌}
use native.Mathlib.Omega.{arith}
use lib.Dec.{eqb}
use Rattle.std.specs.Option.{option_eq}
use Rattle.quads.specs.Diagonal.{is_grid, is_diagonal, only_by, only_at, side_class, is_at}

picked : (base e : ℕ) (p q r : Bool) → cond p (Some base) (cond q (Some (base + 1)) (cond r (Some (base + 2)) None)) ≡ Some e → (base ≤ e) × (e < base + 3)
picked base e true q r h = let s : base ≡ e = cc in (omega arith, omega arith)
picked base e false true r h = let s : base + 1 ≡ e = cc in (omega arith, omega arith)
picked base e false false true h = let s : base + 2 ≡ e = cc in (omega arith, omega arith)
picked base e false false false h = let z : ◌≡◌ {A = ℕ} 0 1 = cc in absurd (omega arith)

pub only_own : (classes : List ℕ) (t e : ℕ) → only_at classes t ≡ Some e → (3 * t ≤ e) × (e < 3 * t + 3)
unfolding only_at only_by
only_own classes t e h =
    let a = side_class classes (3 * t) in
    let b = side_class classes (3 * t + 1) in
    let c = side_class classes (3 * t + 2) in
    picked (3 * t) e (is_diagonal a && (is_grid b && is_grid c)) (is_grid a && (is_diagonal b && is_grid c)) (is_grid a && (is_grid b && is_diagonal c)) h

pub same_at : (f : Option ℕ) (e : ℕ) → option_eq eqb f (Some e) ≡ is_at f e
same_at None e = refl
same_at (Some f) e = refl
