-- Document 01's table, "Refusal numbers", with document 02's twin faults and its spread rule: for each way of being wrong its number, its
-- place, and what stands beside the place.
use Rattle.std.specs.Prelude.{Bool, ◌||◌, ℕ, eqb}
use Rattle.refusal.specs.declared.Refusal.{Refusal}
use Rattle.refusal.specs.declared.Refusal.TheVariants.{Unpaired, OverLimit, ParameterNan, NoSuchRule, OutOfRange, NoSuchCorner, NoSuchClass, CornerTwice, TwinPastEnd, TwinNotBack, TwinElsewhere, WorkspaceShort, RecordsShort, EntriesShort}

-- 1 paired lists differ in length, or a triangle or quad list is not whole; 2 a count is over its limit; 3 a parameter is NaN;
-- 18, tried behind all of 3, a spread rule that does not exist;
-- 4 a number is out of its range; 5 a corner that does not exist, or a class above 2; 6 a corner named twice;
-- 7 a twin past the end, 11 one that does not point back, 12 one that does not run between the same corners the other way, tried as one
-- where 7 stands, which gates call row 7;
-- 8 the workspace, 9 the component list or quad list, 10 the entry list too short
abbrev pub number_of : Refusal → ℕ
number_of Unpaired = 1
number_of OverLimit = 2
number_of (ParameterNan parameter) = 3
number_of NoSuchRule = 18
number_of (OutOfRange corner) = 4
number_of (NoSuchCorner position) = 5
number_of (NoSuchClass position) = 5
number_of (CornerTwice cell) = 6
number_of (TwinPastEnd edge twin) = 7
number_of (TwinNotBack edge twin) = 11
number_of (TwinElsewhere edge twin) = 12
number_of (WorkspaceShort words) = 8
number_of (RecordsShort records) = 9
number_of (EntriesShort entries) = 10

-- 0; the parameter's number; the corner, else 0; the position in its list; the triangle or quad; the half-edge; the words, records or entries wanted
abbrev pub place_of : Refusal → ℕ
place_of Unpaired = 0
place_of OverLimit = 0
place_of (ParameterNan parameter) = parameter
place_of NoSuchRule = 0
place_of (OutOfRange corner) = corner
place_of (NoSuchCorner position) = position
place_of (NoSuchClass position) = position
place_of (CornerTwice cell) = cell
place_of (TwinPastEnd edge twin) = edge
place_of (TwinNotBack edge twin) = edge
place_of (TwinElsewhere edge twin) = edge
place_of (WorkspaceShort words) = words
place_of (RecordsShort records) = records
place_of (EntriesShort entries) = entries

-- the twin's own value, else 0
abbrev pub beside_of : Refusal → ℕ
beside_of Unpaired = 0
beside_of OverLimit = 0
beside_of (ParameterNan parameter) = 0
beside_of NoSuchRule = 0
beside_of (OutOfRange corner) = 0
beside_of (NoSuchCorner position) = 0
beside_of (NoSuchClass position) = 0
beside_of (CornerTwice cell) = 0
beside_of (TwinPastEnd edge twin) = twin
beside_of (TwinNotBack edge twin) = twin
beside_of (TwinElsewhere edge twin) = twin
beside_of (WorkspaceShort words) = 0
beside_of (RecordsShort records) = 0
beside_of (EntriesShort entries) = 0

-- so by the number: 7, 11 and 12 have such a value, and no other row
abbrev pub has_beside : ℕ → Bool
has_beside number = eqb number 7 || (eqb number 11 || eqb number 12)
