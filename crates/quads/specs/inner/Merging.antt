-- What the routines of merging are given: what the rows have shown of an input that they let through. And what the search for the next pair
-- and the count of pairs answer.
use Rattle.std.specs.Option.{is_some}
use Rattle.std.specs.Prelude.{Option, Some, None, ◌≡◌, false, ℕ, zero, suc, ◌+◌, ◌*◌, ◌%◌, ◌≤◌, ◌<◌, List, ◌++◌, length, get_or, drop}
use Rattle.words.specs.Sorting.{one}
use Rattle.mesh.specs.Lists.{most_corners, most_half_edges}
use Rattle.mesh.specs.HalfEdge.{no_twin}
use Rattle.mesh.specs.Cells.{names_twice}
use Rattle.mesh.specs.Twins.{twin_offends}
use Rattle.quads.specs.declared.Quad.{Quad}
use Rattle.quads.specs.Merge.{Mesh, Input, triangle_count, paired_at, merged_of}
use Rattle.quads.specs.Call.{words_of}
use Rattle.quads.specs.inner.Ordering.{Standing}

-- what the rows on half-edges have shown of a mesh that they let through: whole lists of one length, twins that are in them
pub record MeshSound (m : Mesh) : Type 0 where
  pub twins : length m.twins ≡ length m.triangles
  pub classes : length m.classes ≡ length m.triangles
  pub whole : length m.triangles % 3 ≡ 0
  pub edges : length m.triangles ≤ most_half_edges
  pub inside : (e : ℕ) → e < length m.triangles → (get_or m.twins e 0 ≡ no_twin → ⊥) → get_or m.twins e 0 < length m.triangles

-- and the rows of the call of an input
pub record Sound (i : Input) : Type 0 where
  pub mesh : MeshSound i.mesh
  pub standing : Standing i.xs i.ys
  pub corners : length i.xs ≤ most_corners
  pub named : (e : ℕ) → e < length i.mesh.triangles → get_or i.mesh.triangles e 0 < length i.xs
  pub differ : (t : ℕ) → t < triangle_count i.mesh → names_twice 3 i.mesh.triangles t ≡ false
  pub back : (e : ℕ) → e < length i.mesh.triangles → twin_offends i.mesh.triangles i.mesh.twins e ≡ false

-- no triangle from `from` on and below t makes a quad
abbrev pub Passed : Mesh → (from t : ℕ) → Type 0
Passed m from t = (k : ℕ) → from ≤ k → k < t → paired_at m k ≡ None

-- t is the first triangle from `from` on that makes a quad, and q has that one's corners
pub record FirstPair (m : Mesh) (from t : ℕ) (q : Quad) : Type 0 where
  pub past : from ≤ t
  pub reach : t < triangle_count m
  pub clear : Passed m from t
  pub hit : paired_at m t ≡ Some q

-- the first one is found, or there is none
abbrev pub NextPair : Mesh → (from : ℕ) → Option (ℕ × Quad) → Type 0
NextPair m from None = Passed m from (triangle_count m)
NextPair m from (Some p) = FirstPair m from p.0 p.1

-- how many of the triangles below t make a quad
unfoldable pub count_to : Mesh → ℕ → ℕ
count_to m zero = 0
count_to m (suc t) = count_to m t + one (is_some (paired_at m t))

-- the quads stand at the front of the list, and the rest of it is as it was; r tells how many they are
abbrev pub Writes : Input → (before after : List ℕ) → ℕ → Type 0
Writes i before after r = (r ≡ length (merged_of i)) × (after ≡ words_of (merged_of i) ++ drop (4 * length (merged_of i)) before)
