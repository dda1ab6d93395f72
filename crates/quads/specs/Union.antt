-- The union of two triangles' corners: the first one's three in order, then those of the second that are new.
use Rattle.quads.specs.declared.Quad.{Quad}
use Rattle.std.specs.Prelude.{Option, Some, None}
use Rattle.std.specs.Prelude.{Bool, false, cond, ◌||◌, List, [], ◌∷◌, ◌++◌, ℕ, ◌+◌, ◌*◌, eqb, get_or}

abbrev pub corners_of : List ℕ → ℕ → List ℕ
corners_of triangles t = get_or triangles (3 * t) 0 ∷ get_or triangles (3 * t + 1) 0 ∷ get_or triangles (3 * t + 2) 0 ∷ []

unfoldable pub is_in : ℕ → List ℕ → Bool
is_in x [] = false
is_in x (y ∷ ys) = eqb x y || is_in x ys

unfoldable pub new_to : List ℕ → List ℕ → List ℕ
new_to own [] = []
new_to own (x ∷ xs) = cond (is_in x own) (new_to own xs) (x ∷ new_to own xs)

unfoldable pub union_of : List ℕ → ℕ → ℕ → List ℕ
union_of triangles t u = corners_of triangles t ++ new_to (corners_of triangles t) (corners_of triangles u)

-- four corners make a quad, fewer or more do not
unfoldable pub four_from : List ℕ → Option Quad
four_from [] = None
four_from (a ∷ []) = None
four_from (a ∷ b ∷ []) = None
four_from (a ∷ b ∷ c ∷ []) = None
four_from (a ∷ b ∷ c ∷ d ∷ []) = Some (record { a = a; b = b; c = c; d = d })
four_from (a ∷ b ∷ c ∷ d ∷ e ∷ rest) = None
