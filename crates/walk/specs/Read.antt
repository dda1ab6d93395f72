-- How a reader takes the answer from the words of the two lists: an entry is three words of the entry list; a component is three words of
-- the component list, which say how many entries stand before its own, how many it has, and its holes.
use Rattle.std.specs.Prelude.{List, [], ◌∷◌, ℕ, zero, suc, ◌+◌, ◌*◌, get_or}
use Rattle.cells.specs.Listed.{Entry}

abbrev pub entry_at : List ℕ → ℕ → Entry
entry_at words k = record { u = get_or words (3 * k) 0; v = get_or words (3 * k + 1) 0; corner = get_or words (3 * k + 2) 0 }

-- the `count` entries that stand after those before
unfoldable pub entries_from : List ℕ → (before count : ℕ) → List Entry
entries_from words before zero = []
entries_from words before (suc count) = entry_at words before ∷ entries_from words (before + 1) count

abbrev pub before_of : List ℕ → ℕ → ℕ
before_of components j = get_or components (3 * j) 0

abbrev pub count_of : List ℕ → ℕ → ℕ
count_of components j = get_or components (3 * j + 1) 0

abbrev pub holes_of : List ℕ → ℕ → ℕ
holes_of components j = get_or components (3 * j + 2) 0

-- component j, by its entries
abbrev pub component_at : (components entries : List ℕ) → ℕ → List Entry
component_at components entries j = entries_from entries (before_of components j) (count_of components j)

-- k components, from number j on
unfoldable pub components_from : (components entries : List ℕ) → (j k : ℕ) → List (List Entry)
components_from components entries j zero = []
components_from components entries j (suc k) = component_at components entries j ∷ components_from components entries (j + 1) k
