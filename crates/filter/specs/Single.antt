-- The call whole on one square of side 10: what is allowed, where the lists are long enough and where they are not.
use Rattle.std.specs.Prelude.{Ok, Err}
use Rattle.std.specs.Prelude.{[], ◌∷◌, replicate}
use Rattle.refusal.specs.declared.Refusal.TheVariants.{WorkspaceShort, RecordsShort}
use Rattle.measure.specs.Float.{bits, fraction}
use Rattle.filter.specs.Input.{Input}
use Rattle.filter.specs.Call.{Allowed}

abbrev pub square : Input
square = record {
  xs = bits 0 ∷ fraction 10 1 ∷ fraction 10 1 ∷ bits 0 ∷ [];
  ys = bits 0 ∷ bits 0 ∷ fraction 10 1 ∷ fraction 10 1 ∷ [];
  quads = 0 ∷ 1 ∷ 2 ∷ 3 ∷ [];
  params = record { ratio = fraction 3 2; least = fraction 1 2; greatest = fraction 2 1 };
}

-- kept; with room for none, and with a workspace of one word too few
pub record Single : Type 0 where
  pub kept : Allowed square (replicate 96 5) (7 ∷ 7 ∷ 7 ∷ 7 ∷ 7 ∷ []) (record { answer = Ok 1; work = replicate 96 0; kept = 0 ∷ 1 ∷ 2 ∷ 3 ∷ 7 ∷ [] })
  pub no_room : Allowed square (replicate 97 5) (7 ∷ 7 ∷ 7 ∷ []) (record { answer = Err (RecordsShort 1); work = replicate 97 0; kept = 7 ∷ 7 ∷ 7 ∷ [] })
  pub no_workspace : Allowed square (replicate 95 5) [] (record { answer = Err (WorkspaceShort 96); work = replicate 95 5; kept = [] })
