-- `params_of` takes the first eight words, five of them as floats by their bits.
use mathlib.Core.List.{List}
use mathlib.Core.Path.{◌≡◌, sym, ap, ◌∙◌}
use Prim.Native.Nat.{ℕ, ◌<◌}
use native.Mathlib.Omega.{arith}
use lib.ListN.{length, get_or, take}
use lib.Seq.{get_or-take}
use Rattle.gridtext.specs.Lines.{ParamsLine}
use Rattle.gridtext.specs.Lists.{params_of}
use Rattle.gridtext.specs.inner.Read.{param_words, all_params}
use Rattle.gridtext.proofs.inner.params_of.Goals as goal

front_word : (l : List ℕ) (p : ParamsLine) → take (length (all_params p)) l ≡ all_params p → (i : ℕ) → i < length (all_params p) → get_or l i 0 ≡ get_or (all_params p) i 0
front_word l p e i h = sym (get_or-take (length (all_params p)) l i 0 h) ∙ ap (λ (x : List ℕ). get_or x i 0) e

pub returns : goal.returns
unfolding param_words all_params params_of
returns c =
    λ p e.
    let w = front_word c.args.words.now p e in
    let tolerance = w 0 (omega arith) in
    let ratio = w 1 (omega arith) in
    let least = w 2 (omega arith) in
    let greatest = w 3 (omega arith) in
    let limit = w 4 (omega arith) in
    let quads = w 5 (omega arith) in
    let corners = w 6 (omega arith) in
    let rule = w 7 (omega arith) in
    cc
