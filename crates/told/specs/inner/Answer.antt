-- The line of a labelling's answer: the numbers of components and entries, or the refusal.
use Rattle.std.specs.Prelude.{List, ℕ, Result, Ok, Err}
use Rattle.vectors.specs.Hex.{refusal_line}
use Rattle.vectors.specs.inner.Lines.{counts_line}
use Rattle.refusal.specs.declared.Refusal.{Refusal}
use Rattle.walk.specs.declared.Labelled.{Labelled}

abbrev pub answer_line : Result Labelled Refusal → List ℕ
answer_line (Ok done) = counts_line done.components done.entries
answer_line (Err why) = refusal_line why
