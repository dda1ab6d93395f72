-- A text without a word has no case.
use Rattle.std.proofs.Common.{◌≡◌, ◌<◌, length}
use Rattle.vectors.proofs.inner.cases.Given as goal

abbrev pub invariant-loop : goal.invariant-loop
invariant-loop g l = length l.text < 9 → (l.out ≡ l.initial.out) × (l.words.text.now ≡ l.text)
