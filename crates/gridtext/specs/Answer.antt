-- The answer's text: the component count; per component its number, entries and holes, and then its entries, u, v, corner. Or a refusal's
-- number and place, and for a wrong twin its value, or the number of the first bad line.
use Rattle.std.specs.Prelude.{cond, List, [], ◌∷◌, ◌++◌, ℕ, suc, length}
use Rattle.refusal.specs.declared.Refusal.{Refusal}
use Rattle.refusal.specs.Table.{number_of, place_of, beside_of, has_beside}
use Rattle.cells.specs.Listed.{Entry}
use Rattle.cells.specs.Holes.{holes}
use Rattle.digits.specs.Digits.{decimal_of}
use Rattle.gridtext.specs.Lines.{spaced}

-- numbers with one blank between, and a line feed
unfoldable pub numbers_line : List ℕ → List (List ℕ) → List ℕ
numbers_line word fields = word ++ (spaced fields ++ (10 ∷ []))

-- "bad"
unfoldable pub bad_text : ℕ → List ℕ
bad_text k = numbers_line (98 ∷ 97 ∷ 100 ∷ []) (decimal_of k ∷ [])

-- the number, the place, and what stands beside it where the row has that
abbrev pub refused_fields : Refusal → List (List ℕ)
refused_fields why = decimal_of (number_of why) ∷ decimal_of (place_of why) ∷ cond (has_beside (number_of why)) (decimal_of (beside_of why) ∷ []) []

-- "refused"
unfoldable pub refused_text : Refusal → List ℕ
refused_text why = numbers_line (114 ∷ 101 ∷ 102 ∷ 117 ∷ 115 ∷ 101 ∷ 100 ∷ []) (refused_fields why)

unfoldable pub entry_line : Entry → List ℕ
entry_line e = numbers_line (decimal_of e.u) (decimal_of e.v ∷ decimal_of e.corner ∷ [])

unfoldable pub entry_lines : List Entry → List ℕ
entry_lines [] = []
entry_lines (e ∷ es) = entry_line e ++ entry_lines es

-- "component"; the components from number j on
unfoldable pub component_lines : ℕ → List (List Entry) → List ℕ
component_lines j [] = []
component_lines j (es ∷ out) =
    numbers_line (99 ∷ 111 ∷ 109 ∷ 112 ∷ 111 ∷ 110 ∷ 101 ∷ 110 ∷ 116 ∷ []) (decimal_of j ∷ decimal_of (length es) ∷ decimal_of (holes es) ∷ [])
    ++ (entry_lines es ++ component_lines (suc j) out)

-- "components"
unfoldable pub components_text : List (List Entry) → List ℕ
components_text out =
    numbers_line (99 ∷ 111 ∷ 109 ∷ 112 ∷ 111 ∷ 110 ∷ 101 ∷ 110 ∷ 116 ∷ 115 ∷ []) (decimal_of (length out) ∷ []) ++ component_lines 0 out
