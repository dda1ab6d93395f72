-- Rows in the table's order: a row refuses or lets through, and the first that refuses decides. Place is the first offender.
use Rattle.std.specs.Prelude.{Bool, true, false, ℕ, ltb, Result, Ok, Err}
use Rattle.refusal.specs.declared.Refusal.{Refusal}
use Rattle.refusal.specs.First.{first_of}

-- a row's answer: it lets through, or refuses
abbrev pub Gate : Type 0
Gate = Result (Unit {0}) Refusal

-- refused exactly when
abbrev pub refuse_if : Bool → Refusal → Gate
refuse_if true why = Err why
refuse_if false why = Ok tt

-- refused exactly when one of n places offends, at the first that does
unfoldable pub refuse_first : (ℕ → Bool) → ℕ → (ℕ → Refusal) → Gate
refuse_first offends n why = refuse_if (ltb (first_of offends n) n) (why (first_of offends n))

-- a row, and the rows after it
infixr 20 ◌then◌
abbrev pub ◌then◌ : Gate → Gate → Gate
(Ok _) then g = g
(Err why) then g = Err why
