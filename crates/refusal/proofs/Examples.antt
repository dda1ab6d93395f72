-- Worked examples of the table and of "first offender", computed; and which numbers have a value beside their place. Assumes nothing.
use mathlib.Core.Bool.{true, false, false≢true}
use mathlib.Core.Path.{◌≡◌, refl, sym}
use Prim.Native.Nat.{ℕ}
use lib.Dec.{leb}
use Rattle.refusal.specs.declared.Refusal.{Refusal}
use Rattle.refusal.specs.declared.Refusal.TheVariants.{Unpaired, OverLimit, ParameterNan, NoSuchRule, OutOfRange, NoSuchCorner, NoSuchClass, CornerTwice, TwinPastEnd, TwinNotBack, TwinElsewhere, WorkspaceShort, RecordsShort, EntriesShort}
use Rattle.refusal.specs.Table.{number_of, place_of, beside_of, has_beside}
use Rattle.refusal.specs.First.{first_of}

-- a root, or an angle, of a float out of its range
pub single_float : (number_of (OutOfRange 0) ≡ 4) × (place_of (OutOfRange 0) ≡ 0)
single_float = (refl, refl)

-- a spread limit that is NaN; a rule that is neither of the two; a list that lacks room for 12 records
pub spread_limit : (number_of (ParameterNan 4) ≡ 3) × (place_of (ParameterNan 4) ≡ 4)
spread_limit = (refl, refl)

pub unknown_rule : (number_of NoSuchRule ≡ 18) × (place_of NoSuchRule ≡ 0) × (has_beside (number_of NoSuchRule) ≡ false)
unknown_rule = (refl, refl, refl)

pub room : (number_of (RecordsShort 12) ≡ 9) × (place_of (RecordsShort 12) ≡ 12) × (beside_of (RecordsShort 12) ≡ 0) × (has_beside (number_of (RecordsShort 12)) ≡ false)
room = (refl, refl, refl, refl)

-- the twins of half-edge 5: one past the end, one that does not point back, itself
pub past_end : (number_of (TwinPastEnd 5 24576) ≡ 7) × (place_of (TwinPastEnd 5 24576) ≡ 5) × (beside_of (TwinPastEnd 5 24576) ≡ 24576)
past_end = (refl, refl, refl)

pub not_back : (number_of (TwinNotBack 5 2) ≡ 11) × (place_of (TwinNotBack 5 2) ≡ 5) × (beside_of (TwinNotBack 5 2) ≡ 2)
not_back = (refl, refl, refl)

pub itself : (number_of (TwinElsewhere 5 5) ≡ 12) × (place_of (TwinElsewhere 5 5) ≡ 5) × (beside_of (TwinElsewhere 5 5) ≡ 5)
itself = (refl, refl, refl)

-- 7, 11 and 12 have a value beside their place
pub twin_told : (edge twin : ℕ) → (has_beside (number_of (TwinPastEnd edge twin)) ≡ true) × (has_beside (number_of (TwinNotBack edge twin)) ≡ true) × (has_beside (number_of (TwinElsewhere edge twin)) ≡ true)
twin_told edge twin = (refl, refl, refl)

-- beside every other number than 7, 11 and 12 stands 0
pub other_zero : (why : Refusal) → has_beside (number_of why) ≡ false → beside_of why ≡ 0
other_zero Unpaired e = refl
other_zero OverLimit e = refl
other_zero (ParameterNan parameter) e = refl
other_zero NoSuchRule e = refl
other_zero (OutOfRange corner) e = refl
other_zero (NoSuchCorner position) e = refl
other_zero (NoSuchClass position) e = refl
other_zero (CornerTwice cell) e = refl
other_zero (TwinPastEnd edge twin) e = absurd (false≢true (sym e))
other_zero (TwinNotBack edge twin) e = absurd (false≢true (sym e))
other_zero (TwinElsewhere edge twin) e = absurd (false≢true (sym e))
other_zero (WorkspaceShort words) e = refl
other_zero (RecordsShort records) e = refl
other_zero (EntriesShort entries) e = refl

-- of the numbers below 5 the first that is at least 3, and the first that is at least 7: none
pub found : first_of (leb 3) 5 ≡ 3
unfolding first_of
found = refl

pub nowhere : first_of (leb 7) 5 ≡ 5
unfolding first_of
nowhere = refl
