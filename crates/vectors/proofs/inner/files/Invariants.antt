-- Where the program's own name is the only argument, `files` writes nothing.
use Rattle.std.proofs.Common.{◌≡◌, ◌≤◌}
use Rattle.vectors.proofs.inner.files.Given as goal

abbrev pub invariant-loop-i : goal.invariant-loop-i
invariant-loop-i g l = l.arguments ≤ 1 → l.out ≡ l.initial.out
