-- Demand 3 in words that a reader can check: what is asked of a group that yields a component, which group each component is of, and what
-- the words of its entries are.
use Rattle.std.specs.Prelude.{◌≡◌, List, ℕ, ◌≤◌, ◌<◌, pos}
use Rattle.cells.specs.Kind.{Pair, ◌⊕◌, Fits, Lone}
use Rattle.cells.specs.Listed.{Entry, Before, members}
use Rattle.cells.specs.Quads.{quads}
use Rattle.walk.specs.Input.{Input, quad_count, grouping}

-- one of the numbers below m is as P says
pub record Place (m : ℕ) (P : ℕ → Type 0) : Type 0 where
  pub at : ℕ
  pub small : at < m
  pub is : P at

-- t numbers, no two of them equal, are as P says
pub record AtLeast (P : ℕ → Type 0) (t : ℕ) : Type 0 where
  pub pick : ℕ → ℕ
  pub each : (k : ℕ) → k < t → P (pick k)
  pub apart : (j k : ℕ) → j < t → k < t → pick j ≡ pick k → j ≡ k

-- the group of lowest quad s has the least quads, and an assignment fits from s under which the least corners are lone
pub record Demanded (i : Input) (number : ℕ → ℕ) (s : ℕ) : Type 0 where
  pub enough : i.params.quads ≤ members quads i.quads (grouping i number) s
  pub L : ℕ → Pair
  pub fits : Fits quads i.quads s L
  pub corners : AtLeast (λ c. Lone quads i.quads s L c) i.params.corners

-- s is the lowest quad of a group that has all that is demanded
pub record Yields (i : Input) (number : ℕ → ℕ) (s : ℕ) : Type 0 where
  pub small : s < quad_count i
  pub lowest : number s ≡ s
  pub demanded : Demanded i number s

-- k groups have all that is demanded, and component j is of the group whose lowest quad is seed j: these rise, and are all there are
pub record Seeds (i : Input) (number : ℕ → ℕ) (k : ℕ) (seed : ℕ → ℕ) : Type 0 where
  pub each : (j : ℕ) → j < k → Yields i number (seed j)
  pub rises : (j m : ℕ) → j < m → m < k → seed j < seed m
  pub every : (s : ℕ) → Yields i number s → Place k (λ j. seed j ≡ s)

-- a group lacks one of what is demanded: the first that applies
pub data Lacks (i : Input) (number : ℕ → ℕ) (s : ℕ) : Type 0 where
  few_quads : members quads i.quads (grouping i number) s < i.params.quads → Lacks i number s
  no_assignment : i.params.quads ≤ members quads i.quads (grouping i number) s → ((L : ℕ → Pair) → Fits quads i.quads s L → ⊥) → Lacks i number s
  few_lone : i.params.quads ≤ members quads i.quads (grouping i number) s → (L : ℕ → Pair) → Fits quads i.quads s L
      → (AtLeast (λ c. Lone quads i.quads s L c) i.params.corners → ⊥) → Lacks i number s

-- whether one of k components is of the group of lowest quad s, and if not, what the group lacks
pub data Decided (i : Input) (number : ℕ → ℕ) (k : ℕ) (seed : ℕ → ℕ) (s : ℕ) : Type 0 where
  kept : Place k (λ j. seed j ≡ s) → Demanded i number s → Decided i number k seed s
  dropped : (Place k (λ j. seed j ≡ s) → ⊥) → Lacks i number s → Decided i number k seed s

-- the first `count` entries are of the lone corners under L, each of them once, with its pair less `least`, in order of u, then v; if there
-- is one, both minima are 0
pub record Lists (cells : List ℕ) (s : ℕ) (L : ℕ → Pair) (entry : ℕ → Entry) (count : ℕ) : Type 0 where
  pub least : Pair
  pub lone : (p : ℕ) → p < count → Lone quads cells s L (entry p).corner
  pub pairs : (p : ℕ) → p < count → L (entry p).corner ≡ least ⊕ (pos (entry p).u, pos (entry p).v)
  pub every : (c : ℕ) → Lone quads cells s L c → Place count (λ p. (entry p).corner ≡ c)
  pub once : (p q : ℕ) → p < count → q < count → (entry p).corner ≡ (entry q).corner → p ≡ q
  pub zero_u : 0 < count → Place count (λ p. (entry p).u ≡ 0)
  pub zero_v : 0 < count → Place count (λ p. (entry p).v ≡ 0)
  pub ordered : (p q : ℕ) → p < q → q < count → Before (entry p) (entry q)
