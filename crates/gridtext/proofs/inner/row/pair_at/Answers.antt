-- `pair_at` tells whether the two bytes stand: where the text is too short, or a byte is another, they do not.
use mathlib.Core.Bool.{Bool, true, false}
use mathlib.Core.List.{List, [], ◌∷◌}
use mathlib.Core.Path.{◌≡◌, refl, sym, ap, ◌∙◌}
use Prim.Native.Nat.{ℕ, suc, ◌+◌, ◌-◌, ◌≤◌}
use native.Mathlib.Omega.{arith}
use borrow.Author.Tests.{lt-leb}
use lib.Dec.{eqb}
use lib.ListN.{length, drop, length-drop}
use lib.Seq.{drop-drop}
use Rattle.std.specs.List.{starts_with}
use Rattle.std.proofs.lemmas.Bool.{false≢true}
use Rattle.std.proofs.lemmas.Bool.Decides.{Decides-eqb}
use Rattle.std.proofs.lemmas.Slice.{between_to_end}
use Rattle.std.proofs.lemmas.Slice.Eq.{starts_is}
use Rattle.gridtext.specs.inner.Rows.{PairAt}
use Rattle.gridtext.proofs.inner.row.pair_at.Goals as goal

module _ (text : List ℕ) (at a b : ℕ) where
  -- two bytes from there on are within the text
  within : (rest : List ℕ) → drop at text ≡ a ∷ b ∷ rest → at + 2 ≤ length text
  within rest e = let l : length text - at ≡ suc (suc (length rest)) = sym (length-drop at text) ∙ ap length e in omega arith

  by_front : (t : Bool) → t ≡ starts_with eqb (drop at text) (a ∷ b ∷ []) → PairAt text at a b t
  by_front true e =
      let s = (starts_is Decides-eqb (drop at text) (a ∷ b ∷ []) true e).0 refl in
      PairAt.there (rw drop-drop at s) (within _ s)
  by_front false e = PairAt.elsewhere (λ rest q. false≢true ((starts_is Decides-eqb (drop at text) (a ∷ b ∷ []) false e).1 rest q))

pub returns-then-at-text : goal.returns-then-at-text
returns-then-at-text c =
    let a = c.args in
    by_front a.text.now a.at a.first a.second _ (rw (between_to_end a.text.now a.at (length a.text.now) (omega arith)) at c.starts_with.ensures.value)

pub returns-else-at-text : goal.returns-else-at-text
returns-else-at-text c =
    let a = c.args in
    rw (lt-leb a.at (length a.text.now) c.if-at-text.false)
    (PairAt.elsewhere (λ rest e. let h = within a.text.now a.at a.first a.second rest e in omega arith))
