-- A list's elements are laid, one a turn.
use Prim.Native.Nat.{ℕ}
use Rattle.vectors.specs.inner.Lists.{element_of, Laid}
use Rattle.vectors.proofs.inner.words.Words.fill.Given as goal

abbrev pub invariant-loop-i : goal.invariant-loop-i
invariant-loop-i g l = Laid g.T.FromWord.blank l.initial.out l.out l.i (λ (k : ℕ). g.T.FromWord.of (element_of l.self.text.now l.head.start l.head.given l.head.fill k))
