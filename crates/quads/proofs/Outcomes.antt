-- The call's outcomes behind an open gate: refused for room, done. Assumes nothing.
use mathlib.Core.Path.{◌≡◌}
use mathlib.Core.List.{List, ◌++◌}
use Prim.Native.Nat.{ℕ, ◌*◌, ◌/◌, ◌≤◌, ◌<◌}
use borrow.Author.Tests.{lt-ltb, le-ltb}
use native.Mathlib.Omega.{arith}
use lib.ListN.{length, drop}
use Rattle.refusal.specs.Rows.{Gate}
use Rattle.std.specs.Prelude.{Ok, Err}
use Rattle.refusal.specs.declared.Refusal.TheVariants.{RecordsShort}
use Rattle.quads.specs.Merge.{Input, merged_of}
use Rattle.quads.specs.Call.{gate_of, words_of, Outcome, call_of}

module _ (i : Input) (quads : List ℕ) (g : Gate) (judged : g ≡ gate_of i) where
  pub short : (n : ℕ) → g ≡ Ok tt → n ≡ length (merged_of i) → length quads / 4 < n → ◌≡◌ {A = Outcome} (record { answer = Err (RecordsShort n); quads = quads }) (call_of i quads)
  unfolding call_of
  short n e c h = rw (← judged, e, ← c, lt-ltb (length quads / 4) n h)

  pub done : (n : ℕ) (after : List ℕ) → g ≡ Ok tt → n ≡ length (merged_of i) → n ≤ length quads / 4 → after ≡ words_of (merged_of i) ++ drop (4 * length (merged_of i)) quads
      → ◌≡◌ {A = Outcome} (record { answer = Ok n; quads = after }) (call_of i quads)
  unfolding call_of
  done n after e c h f = rw (← judged, e, f, c, le-ltb (length quads / 4) (length (merged_of i)) (omega (arith, c, h)))
