-- Rows 5 and 6, over records of 3 or 4 corners alike: a corner that does not exist, a class above 2, a corner named twice.
use Rattle.std.specs.Prelude.{Bool, false, ◌||◌, List, ℕ, zero, suc, ◌+◌, ◌*◌, ◌/◌, eqb, leb, length, get_or}
use Rattle.refusal.specs.declared.Refusal.TheVariants.{NoSuchCorner, NoSuchClass, CornerTwice}
use Rattle.refusal.specs.Rows.{Gate, refuse_first}

-- the word at k is not below the count of what there is
unfoldable pub not_below : ℕ → List ℕ → ℕ → Bool
not_below count words k = leb count (get_or words k 0)

unfoldable pub corners_row : ℕ → List ℕ → Gate
corners_row corners cells = refuse_first (not_below corners cells) (length cells) NoSuchCorner

-- there are the classes 0, 1 and 2
unfoldable pub classes_row : List ℕ → Gate
classes_row classes = refuse_first (not_below 3 classes) (length classes) NoSuchClass

-- some number below n has the property
unfoldable pub some : ℕ → (ℕ → Bool) → Bool
some zero p = false
some (suc n) p = some n p || p n

-- record r of the size: of its corners two, at i and at a j before it, are the same
unfoldable pub names_twice : ℕ → List ℕ → ℕ → Bool
names_twice size cells r = some size (λ (i : ℕ). some i (λ (j : ℕ). eqb (get_or cells (r * size + j) 0) (get_or cells (r * size + i) 0)))

unfoldable pub twice_row : ℕ → List ℕ → Gate
twice_row size cells = refuse_first (names_twice size cells) (length cells / size) CornerTwice
