-- What the quads kept are: of n quads those whose mark is 0, each once and in their order.
use Rattle.std.specs.Prelude.{◌≡◌, List, ℕ, ◌<◌, length, get_or}
use Rattle.quads.specs.declared.Quad.{Quad}
use Rattle.filter.specs.Marks.{quad_at}

-- what stands at k in the list came from place `source k`; the places rise, and each that has the mark 0 is one of them
pub record Picked (quads : List ℕ) (mark : ℕ → ℕ) (n : ℕ) (out : List Quad) : Type 0 where
  pub source : ℕ → ℕ
  pub inside : (k : ℕ) → k < length out → source k < n
  pub rising : (j k : ℕ) → j < k → k < length out → source j < source k
  pub is : (k : ℕ) (none : Quad) → k < length out → get_or out k none ≡ quad_at quads (source k)
  pub unmarked : (k : ℕ) → k < length out → mark (source k) ≡ 0
  pub all : (q : ℕ) → q < n → mark q ≡ 0 → (k : ℕ) × (k < length out) × (source k ≡ q)
