-- Side e of a list of quads runs from corner e to the next one round its quad. Assumes nothing.
use mathlib.Core.Path.{◌≡◌, ap, ◌∙◌}
use mathlib.Core.List.{List}
use Prim.Native.Nat.{ℕ, ◌+◌, ◌*◌, ◌/◌, ◌%◌}
use native.Mathlib.Omega.{arith}
use lib.Ieee as Ieee
use lib.Ieee.{Float, binary32}
use lib.ListN.{get_or}
use Rattle.filter.specs.Input.{length_between, length_of_side}
use Rattle.filter.specs.inner.Steps.{side_word}

pub side_ends : (xs ys : List Float) (quads : List ℕ) (e : ℕ) → Ieee.to_bits binary32 (length_between xs ys (get_or quads e 0) (get_or quads (4 * (e / 4) + (e + 1) % 4) 0)) ≡ side_word xs ys quads e
unfolding side_word length_of_side
side_ends xs ys quads e =
    let between : ℕ → ℕ → ℕ = λ a b. Ieee.to_bits binary32 (length_between xs ys (get_or quads a 0) (get_or quads b 0)) in
    let from : e ≡ 4 * (e / 4) + e % 4 % 4 = omega arith in
    let to : 4 * (e / 4) + (e + 1) % 4 ≡ 4 * (e / 4) + (e % 4 + 1) % 4 = omega arith in
    ap (λ (a : ℕ). between a (4 * (e / 4) + (e + 1) % 4)) from ∙ ap (between (4 * (e / 4) + e % 4 % 4)) to
