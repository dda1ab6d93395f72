-- The search has not stopped at the sides that it has passed, and `found` is what they have.
use Rattle.std.specs.Prelude.{Some}
use Prim.Native.Nat.{◌-◌}
use mathlib.Core.Path.{◌≡◌}
use Rattle.quads.specs.inner.Search.{seen_to}
use Rattle.quads.proofs.diagonal.only_diagonal.Given as goal

abbrev pub invariant-sides : goal.invariant-sides
invariant-sides l = seen_to l.classes l.base (l.side - l.base) ≡ Some l.found
