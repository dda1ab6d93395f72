-- Parent lists: numbers that point at themselves or lower, what each routine of the forest leaves of one, and when one has the classes
-- of a relation.
use Rattle.std.specs.Prelude.{◌≡◌, ◌⊎◌, List, ℕ, ◌≤◌, ◌<◌, length, get_or}
use Rattle.cells.specs.Groups.{Linked}

-- each number points at itself or lower
abbrev pub Low : List ℕ → Type 0
Low p = (y : ℕ) → y < length p → get_or p y 0 ≤ y

-- y points at z
abbrev pub Ptr : List ℕ → ℕ → ℕ → Type 0
Ptr p y z = (y < length p) × (z ≡ get_or p y 0)

-- y points at z, or y and z are a and b
abbrev pub PtrOr : List ℕ → ℕ → ℕ → ℕ → ℕ → Type 0
PtrOr p a b y z = Ptr p y z ⊎ ((y ≡ a) × (z ≡ b))

-- f is the same along every pointer
abbrev pub Respects : List ℕ → (ℕ → ℕ) → Type 0
Respects p f = (y : ℕ) → y < length p → f (get_or p y 0) ≡ f y

-- q is p with pointers moved up: the same classes, and every root still a root
pub record Refines (p q : List ℕ) : Type 0 where
  pub len : length q ≡ length p
  pub low : Low q
  pub sound : (y : ℕ) → y < length p → Linked (Ptr p) y (get_or q y 0)
  pub keeps : (f : ℕ → ℕ) → Respects q f → Respects p f
  pub roots : (y : ℕ) → y < length p → get_or p y 0 ≡ y → get_or q y 0 ≡ y

-- r is the root above x
pub record Found (p q : List ℕ) (x r : ℕ) : Type 0 where
  pub refines : Refines p q
  pub up : Linked (Ptr p) x r
  pub le : r ≤ x
  pub root : get_or q r 0 ≡ r

-- q has the classes of p, but that a's and b's are one
pub record Joined (p q : List ℕ) (a b : ℕ) : Type 0 where
  pub len : length q ≡ length p
  pub low : Low q
  pub sound : (y : ℕ) → y < length p → Linked (PtrOr p a b) y (get_or q y 0)
  pub keeps : (f : ℕ → ℕ) → Respects q f → Respects p f
  pub met : (f : ℕ → ℕ) → Respects q f → f a ≡ f b

-- of a list of n, the first i point at themselves
pub record Alone (n i : ℕ) (p : List ℕ) : Type 0 where
  pub len : length p ≡ n
  pub own : (y : ℕ) → y < i → get_or p y 0 ≡ y

-- q is p with the first j pointing at their roots
pub record Flat (p : List ℕ) (j : ℕ) (q : List ℕ) : Type 0 where
  pub refines : Refines p q
  pub flat : (y : ℕ) → y < j → get_or q (get_or q y 0) 0 ≡ get_or q y 0

-- p has the classes of E
pub record Classes (E : ℕ → ℕ → Type 0) (n : ℕ) (p : List ℕ) : Type 0 where
  pub len : length p ≡ n
  pub low : Low p
  pub sound : (y : ℕ) → y < n → Linked E y (get_or p y 0)
  pub keeps : (f : ℕ → ℕ) → Respects p f → (x y : ℕ) → E x y → f x ≡ f y
