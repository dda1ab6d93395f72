-- A quad has one fate: two that it may become are equal, since two labellings agree on every reached corner, and so on which corners are
-- lone and which pairs are claimed. Assumes nothing.
use mathlib.Core.Path.{◌≡◌, refl, sym, ap, ◌∙◌}
use mathlib.Core.List.{List}
use Prim.Native.Nat.{ℕ}
use native.Mathlib.Omega.{arith}
use Rattle.cells.specs.Kind.{Pair, Fits, Lone, Claimed}
use Rattle.cells.specs.Listed.{Grouping}
use Rattle.cells.specs.Quads.{quads}
use Rattle.cells.proofs.Unique.{one_labelling, one_lone}
use Rattle.cells.proofs.Squares.{quad_laws}
use Rattle.cells.proofs.Counted.{one_count, exactly_same}
use Rattle.fates.specs.declared.Fate.{Fate}
use Rattle.fates.specs.declared.Fate.TheVariants.{TooFewLone, Kept}
use Rattle.fates.specs.Judged.{Labels, Becomes}
use Rattle.fates.specs.Judged.Becomes.{not_lowest, few_quads, no_labelling, few_lone, kept}

module _ (cells : List ℕ) where
  one_claimed : {s : ℕ} {L M : ℕ → Pair} {p : Pair} → Fits quads cells s L → Fits quads cells s M → Claimed quads cells s L p → Claimed quads cells s M p
  one_claimed f h k = record {
    c = k.c;
    d = k.d;
    two = k.two;
    first = k.first;
    second = k.second;
    at_c = sym (one_labelling quads quad_laws cells f h k.first) ∙ k.at_c;
    at_d = sym (one_labelling quads quad_laws cells f h k.second) ∙ k.at_d;
  }

module _ (cells : List ℕ) (g : Grouping) (s : ℕ) where
  same_lone : {l c m d : ℕ} → Labels cells g s l c → Labels cells g s m d → l ≡ m
  same_lone a b =
      let f = a.labelling.fits in
      let h = b.labelling.fits in
      one_count (Lone quads cells s b.L) (exactly_same (Lone quads cells s a.L) (Lone quads cells s b.L) (λ c k. one_lone quads quad_laws cells f h k) (λ c k. one_lone quads quad_laws cells h f k) a.lones) b.lones

  same_claims : {l c m d : ℕ} → Labels cells g s l c → Labels cells g s m d → c ≡ d
  same_claims a b =
      let f = a.labelling.fits in
      let h = b.labelling.fits in
      one_count (Claimed quads cells s b.L) (exactly_same (Claimed quads cells s a.L) (Claimed quads cells s b.L) (λ p k. one_claimed cells f h k) (λ p k. one_claimed cells h f k) a.claims) b.claims

  pub one_fate : {x y : Fate} → Becomes cells g s x → Becomes cells g s y → x ≡ y
  one_fate (not_lowest a) (not_lowest b) = refl
  one_fate (not_lowest a) (few_quads b d) = absurd (a b)
  one_fate (not_lowest a) (no_labelling b d e) = absurd (a b)
  one_fate (not_lowest a) (few_lone b d) = absurd (a b.lowest)
  one_fate (not_lowest a) (kept b d) = absurd (a b.lowest)
  one_fate (few_quads a c) (not_lowest b) = absurd (b a)
  one_fate (few_quads a c) (few_quads b d) = refl
  one_fate (few_quads a c) (no_labelling b d e) = absurd (omega arith)
  one_fate (few_quads a c) (few_lone b d) = absurd (omega (arith, b.enough))
  one_fate (few_quads a c) (kept b d) = absurd (omega (arith, b.enough))
  one_fate (no_labelling a c e) (not_lowest b) = absurd (b a)
  one_fate (no_labelling a c e) (few_quads b d) = absurd (omega arith)
  one_fate (no_labelling a c e) (no_labelling b d f) = refl
  one_fate (no_labelling a c e) (few_lone b d) = absurd (e b.L b.labelling)
  one_fate (no_labelling a c e) (kept b d) = absurd (e b.L b.labelling)
  one_fate (few_lone a c) (not_lowest b) = absurd (b a.lowest)
  one_fate (few_lone a c) (few_quads b d) = absurd (omega (arith, a.enough))
  one_fate (few_lone a c) (no_labelling b d e) = absurd (e a.L a.labelling)
  one_fate (few_lone a c) (few_lone b d) = ap TooFewLone (same_claims a b)
  one_fate (few_lone a c) (kept b d) = absurd (omega (arith, same_lone a b))
  one_fate (kept a c) (not_lowest b) = absurd (b a.lowest)
  one_fate (kept a c) (few_quads b d) = absurd (omega (arith, a.enough))
  one_fate (kept a c) (no_labelling b d e) = absurd (e a.L a.labelling)
  one_fate (kept a c) (few_lone b d) = absurd (omega (arith, same_lone a b))
  one_fate (kept a c) (kept b d) = ap Kept (same_claims a b)
