-- From the quads kept to the fates of their groups: the front of their list is what labelling reads, of corners that exist and differ, the
-- workspace has room, and what labelling leaves is `Fated`. Assumes nothing.
use mathlib.Core.Path.{◌≡◌}
use mathlib.Core.List.{List}
use Prim.Native.Nat.{ℕ, ◌+◌, ◌*◌, ◌≤◌, max}
use native.Mathlib.Omega.{arith}
use lib.ListN.{length, take}
use Rattle.std.specs.Prelude.{Ok}
use Rattle.mesh.specs.Lists.{most_quads}
use Rattle.laying.specs.inner.Layout.{Given}
use Rattle.fates.specs.inner.Computed.{Computed}
use Rattle.frame.specs.Stages.{Input, filtering}
use Rattle.frame.specs.Call.{entry_gate}
use Rattle.frame.specs.inner.Steps.{Sifted, Fated}
use Rattle.frame.proofs.Sound.{entry_open}
use Rattle.frame.proofs.Labelling.{kept_few, kept_given, kept_room}

module _ (i : Input) (n : ℕ) (list : List ℕ) (sifted : Sifted (filtering i) n list) where
  module _ (words : ℕ) (through : entry_gate i words ≡ Ok tt) where
    -- so their words can be counted
    pub few_kept : n ≤ most_quads
    few_kept = omega (arith, sifted.count, kept_few i (entry_open i words through).0 sifted.marks)

    pub fates_ask : (span room : ℕ) → span ≡ max n (length i.xs) → room ≡ words → Given span (take (4 * n) list) n × (4 * span + 27 * n ≤ room)
    fates_ask span room spanned same =
        let rows = entry_open i words through in (
          rw (spanned, sifted.front, sifted.count) (kept_given i rows.0 sifted.marks),
          omega (arith, rows.1, spanned, same, sifted.count, kept_room i rows.0 sifted.marks),
        )

  pub fated : (span : ℕ) (work mid after : List ℕ) → span ≡ max n (length i.xs) → length mid ≡ length work → Computed span (take (4 * n) list) n i.params.labels mid after → Fated i n work after
  fated span work mid after spanned same c = record { marks = sifted.marks; marked = sifted.marked; count = sifted.count; mid = mid; len = same; computed = rw (← spanned, ← sifted.front) c }
