-- One mark per input quad: 0 kept; 1, 2, 3 dropped by that rule. The rules are tried in order, and the third looks at the groups of the
-- quads that the second has left.
use Rattle.std.specs.Prelude.{◌≡◌, Bool, true, false, cond, not, ◌&&◌, List, [], ◌∷◌, ◌++◌, ℕ, zero, suc, ◌+◌, ◌*◌, ◌<◌, eqb, Float, get_or}
use Rattle.words.specs.Listing.{listing}
use Rattle.cells.specs.Cells.{Neighbours}
use Rattle.cells.specs.Groups.{Groups}
use Rattle.quads.specs.declared.Quad.{Quad}
use Rattle.filter.specs.Input.{Input, quad_count, side_length}
use Rattle.filter.specs.Topology.{crowded}
use Rattle.filter.specs.Opposing.{skewed}
use Rattle.filter.specs.Median.{Median}
use Rattle.filter.specs.Size.{is_skipped, off_size, sides_to}

-- by the answers of the three rules
unfoldable pub mark_by : Bool → Bool → Bool → ℕ
mark_by true second third = 1
mark_by false true third = 2
mark_by false false true = 3
mark_by false false false = 0

-- the quads that the second rule has left
unfoldable pub left : Input → ℕ → Bool
left i q = not (crowded i.quads q) && not (skewed i q)

-- two quads left that share a side
abbrev pub Joined : Input → ℕ → ℕ → Type 0
Joined i = Neighbours 4 i.quads (left i)

pub data Marked (i : Input) : List ℕ → Type 0 where
  skipped : is_skipped i.params ≡ true → Marked i (listing (quad_count i) (λ (q : ℕ). mark_by (crowded i.quads q) (skewed i q) false))
  sized : is_skipped i.params ≡ false → (group : ℕ → ℕ) → Groups (Joined i) (quad_count i) group → (median : ℕ → Float)
      → ((q : ℕ) → q < quad_count i → left i q ≡ true → Median (sides_to i group (group q) (quad_count i)) (median (group q)))
      → Marked i (listing (quad_count i) (λ (q : ℕ). mark_by (crowded i.quads q) (skewed i q) (off_size i.params (median (group q)) (side_length i q))))

-- quad q of a list of words
abbrev pub quad_at : List ℕ → ℕ → Quad
quad_at quads q = record { a = get_or quads (4 * q) 0; b = get_or quads (4 * q + 1) 0; c = get_or quads (4 * q + 2) 0; d = get_or quads (4 * q + 3) 0 }

-- the quads below n whose mark is 0, in their order
unfoldable pub kept_to : List ℕ → (ℕ → ℕ) → ℕ → List Quad
kept_to quads mark zero = []
kept_to quads mark (suc q) = kept_to quads mark q ++ cond (eqb (mark q) 0) (quad_at quads q ∷ []) []

unfoldable pub kept_of : Input → List ℕ → List Quad
kept_of i marks = kept_to i.quads (λ (q : ℕ). get_or marks q 0) (quad_count i)
