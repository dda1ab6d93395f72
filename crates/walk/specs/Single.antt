-- The call whole on one quad: what is allowed, where the lists are long enough and where they are not.
use Rattle.std.specs.Prelude.{Err}
use Rattle.walk.specs.Call.{wrote}
use Rattle.std.specs.Prelude.{[], ◌∷◌, replicate}
use Rattle.refusal.specs.declared.Refusal.TheVariants.{WorkspaceShort, RecordsShort, EntriesShort}
use Rattle.walk.specs.Input.{Input}
use Rattle.walk.specs.Call.{Allowed}

abbrev pub square : Input
square = record { quads = 0 ∷ 1 ∷ 2 ∷ 3 ∷ []; corners = 4; params = record { quads = 1; corners = 1 } }

-- labelled, with what stands behind in both lists as it was; with a workspace of one word too few; with room for no component, and for
-- three entries of four
pub record Single : Type 0 where
  pub labelled : Allowed square (replicate 96 5) (7 ∷ 7 ∷ 7 ∷ 7 ∷ []) (replicate 14 7)
      (record {
        answer = wrote 1 4;
        work = replicate 96 0;
        components = 0 ∷ 4 ∷ 0 ∷ 7 ∷ [];
        entries = 0 ∷ 0 ∷ 0 ∷ 0 ∷ 1 ∷ 3 ∷ 1 ∷ 0 ∷ 1 ∷ 1 ∷ 1 ∷ 2 ∷ 7 ∷ 7 ∷ [];
      })
  pub no_workspace : Allowed square (replicate 95 5) (7 ∷ []) (8 ∷ []) (record { answer = Err (WorkspaceShort 96); work = replicate 95 5; components = 7 ∷ []; entries = 8 ∷ [] })
  pub no_room : Allowed square (replicate 97 5) (7 ∷ 7 ∷ []) (8 ∷ []) (record { answer = Err (RecordsShort 1); work = replicate 97 0; components = 7 ∷ 7 ∷ []; entries = 8 ∷ [] })
  pub no_entries : Allowed square (replicate 96 5) (7 ∷ 7 ∷ 7 ∷ []) (replicate 11 7)
      (record { answer = Err (EntriesShort 4); work = replicate 96 0; components = 7 ∷ 7 ∷ 7 ∷ []; entries = replicate 11 7 })
