-- Quads at the front of a list: where they are written there, the front is their words, four a quad, and is in the list. Assumes nothing.
use mathlib.Core.Path.{◌≡◌, sym, ap, ◌∙◌}
use mathlib.Core.List.{List, ◌++◌}
use Prim.Native.Nat.{ℕ, ◌*◌, ◌≤◌}
use native.Mathlib.Omega.{arith}
use lib.ListN.{length, take, length-take}
use lib.Seq.{take_at}
use Rattle.quads.specs.declared.Quad.{Quad}
use Rattle.quads.specs.Call.{words_of}
use Rattle.quads.proofs.Made.{length_words}

module _ (qs : List Quad) (n : ℕ) (list : List ℕ) (count : n ≡ length qs) where
  four : length (words_of qs) ≡ 4 * n
  four = length_words qs ∙ ap (λ (k : ℕ). 4 * k) (sym count)

  pub front_put : (rest : List ℕ) → list ≡ words_of qs ++ rest → take (4 * n) list ≡ words_of qs
  front_put rest put = ap (take (4 * n)) put ∙ take_at (words_of qs) rest (4 * n) four

  pub front_counted : take (4 * n) list ≡ words_of qs → 4 * n ≡ length (take (4 * n) list)
  front_counted front = sym (ap length front ∙ four)

  pub front_in : take (4 * n) list ≡ words_of qs → 4 * n ≤ length list
  front_in front = omega (arith, front_counted front, length-take (4 * n) list)
