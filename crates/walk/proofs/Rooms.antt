-- The components that are counted, by rows 9 and 10: refused for the room of a list, or written. Assumes nothing.
use Rattle.walk.specs.Call.{wrote}
use mathlib.Core.Path.{◌≡◌}
use mathlib.Core.List.{List}
use Prim.Native.Nat.{ℕ, ◌*◌, ◌/◌, ◌≤◌, ◌<◌}
use borrow.Author.Tests.{lt-ltb, le-ltb}
use native.Mathlib.Omega.{arith}
use lib.ListN.{length, replicate}
use Rattle.std.specs.Prelude.{Ok, Err}
use Rattle.refusal.specs.declared.Refusal.TheVariants.{RecordsShort, EntriesShort}
use Rattle.refusal.specs.Rows.{Gate, ◌then◌}
use Rattle.mesh.specs.Lists.{most_quads}
use Rattle.cells.specs.Listed.{Entry}
use Rattle.walk.specs.Call.{all_entries, room_row, entries_row, Outcome, outcome_by}
use Rattle.walk.specs.inner.Emitting.{Counted, Written}

-- rows 9 and 10 for these components
abbrev pub room_rows : (out : List (List Entry)) (components entries : List ℕ) → Gate
room_rows out components entries = room_row (length components) (length out) then entries_row (length entries) (length (all_entries out))

-- of the workspace only the length is left
pub outcome_by_length : (g : Gate) (out : List (List Entry)) (work mid components entries : List ℕ) → length mid ≡ length work → outcome_by g out mid components entries ≡ outcome_by g out work components entries
outcome_by_length (Ok _) out work mid components entries e = rw e
outcome_by_length (Err why) out work mid components entries e = rw e

module _ {out : List (List Entry)} {n k l : ℕ} (counted : Counted out n k l) where
  -- the counts are words
  pub few : n ≤ most_quads → (k < 4294967296) × (l < 4294967296)
  few h = (omega (arith, counted.few_components), omega (arith, counted.few_entries))

  module _ (components entries : List ℕ) where
    pub may_write : k ≤ length components / 3 → l ≤ length entries / 3 → (3 * length out ≤ length components) × (3 * length (all_entries out) ≤ length entries)
    may_write h r = (omega (arith, counted.components_are), omega (arith, counted.entries_are))

    module _ (work after : List ℕ) (zeroed : after ≡ replicate (length work) 0) where
      pub short : length components / 3 < k → ◌≡◌ {A = Outcome} (record { answer = Err (RecordsShort k); work = after; components = components; entries = entries }) (outcome_by (room_rows out components entries) out work components entries)
      short h = rw (← counted.components_are, lt-ltb (length components / 3) k h, zeroed)

      pub short_entries : k ≤ length components / 3 → length entries / 3 < l
          → ◌≡◌ {A = Outcome} (record { answer = Err (EntriesShort l); work = after; components = components; entries = entries }) (outcome_by (room_rows out components entries) out work components entries)
      short_entries h r = rw (← counted.components_are, ← counted.entries_are, le-ltb (length components / 3) k h, lt-ltb (length entries / 3) l r, zeroed)

      pub done : (records list : List ℕ) → k ≤ length components / 3 → l ≤ length entries / 3 → Written out components entries records list
          → ◌≡◌ {A = Outcome} (record { answer = wrote k l; work = after; components = records; entries = list }) (outcome_by (room_rows out components entries) out work components entries)
      done records list h r w =
          rw (w.components_are, w.entries_are, counted.components_are, counted.entries_are, le-ltb (length components / 3) (length out) (omega (arith, counted.components_are, h)), le-ltb (length entries / 3) (length (all_entries out)) (omega (arith, counted.entries_are, r)), zeroed)
