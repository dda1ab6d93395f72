-- Laws of the half-edge convention: in a whole list the next half-edge is in the list, and those of a triangle follow one another. Assumes nothing.
use mathlib.Core.Path.{◌≡◌, refl}
use mathlib.Core.Bool.{Bool, true, false}
use Prim.Native.Nat.{ℕ, ◌+◌, ◌*◌, ◌%◌, ◌<◌}
use native.Mathlib.Omega.{arith}
use borrow.Author.Tests.{eqb-false, eq-eqb, ne_eqb}
use lib.Dec.{eqb}
use Rattle.mesh.specs.HalfEdge.{next_of}

pub next_lt : (n e : ℕ) → n % 3 ≡ 0 → e < n → next_of e < n
unfolding next_of
next_lt n e whole h = go (eqb (e % 3) 2) refl
  where
    go : (t : Bool) → eqb (e % 3) 2 ≡ t → next_of e < n
    go true q = rw q (omega arith)
    go false q = let m : e % 3 ≡ 2 → ⊥ = eqb-false (e % 3) 2 q in rw q (omega (arith, m))

-- ---- the half-edges of triangle t follow one another

pub next_first : (t : ℕ) → next_of (3 * t) ≡ 3 * t + 1
unfolding next_of
next_first t = let h : 3 * t % 3 ≡ 2 → ⊥ = λ e. omega arith in rw (ne_eqb (3 * t % 3) 2 h)

pub next_second : (t : ℕ) → next_of (3 * t + 1) ≡ 3 * t + 2
unfolding next_of
next_second t = let h : (3 * t + 1) % 3 ≡ 2 → ⊥ = λ e. omega arith in rw (ne_eqb ((3 * t + 1) % 3) 2 h) (omega arith)

pub next_third : (t : ℕ) → next_of (3 * t + 2) ≡ 3 * t
unfolding next_of
next_third t = let h : (3 * t + 2) % 3 ≡ 2 = omega arith in rw (eq-eqb ((3 * t + 2) % 3) 2 h) (omega arith)
