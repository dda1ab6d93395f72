-- An answer in document 01's numbers: 0, 0, 0 and its values, or a refusal's number, its place and what stands beside it.
use Rattle.std.specs.Prelude.{ℕ}
use Rattle.refusal.specs.declared.Refusal.{Refusal}
use Rattle.refusal.specs.Table.{number_of, place_of, beside_of}

pub record InNumbers (A : Type 0) : Type 0 where
  pub refused : ℕ
  pub place : ℕ
  pub beside : ℕ
  pub values : A

module _ {A : Type 0} where
  abbrev pub gives : A → InNumbers A
  gives values = record { refused = 0; place = 0; beside = 0; values = values }

  -- `none` stands where the values would
  abbrev pub refuses : (none : A) → Refusal → InNumbers A
  refuses none why = record { refused = number_of why; place = place_of why; beside = beside_of why; values = none }
