-- Pairs that quarter turns and a shift take to others: what two labellings of the same quads differ by.
use Rattle.std.specs.Prelude.{◌≡◌, List, ℕ, ◌<◌, pos}
use Rattle.cells.specs.Kind.{Pair}
use Rattle.cells.specs.Listed.{In, Entry}
use Rattle.cells.specs.Quads.{moved}

-- the same turns, none to three, and one shift take the one pair to the other, for all that are as Over says
pub record Turned {A : Type 0} (Over : A → Type 0) (one other : A → Pair) : Type 0 where
  pub t : ℕ
  pub small : t < 4
  pub d : Pair
  pub is : (x : A) → Over x → other x ≡ moved t d (one x)

abbrev pub entry_pair : Entry → Pair
entry_pair e = (pos e.u, pos e.v)

-- an entry of the one listing, and the other's entry of the same corner
abbrev pub OfOneCorner : (es fs : List Entry) → Entry × Entry → Type 0
OfOneCorner es fs x = In x.0 es × In x.1 fs × (x.1.corner ≡ x.0.corner)

-- the pairs of the one listing to those of the other, corner by corner
abbrev pub TurnedListing : (es fs : List Entry) → Type 0
TurnedListing es fs = Turned (OfOneCorner es fs) (λ x. entry_pair x.0) (λ x. entry_pair x.1)
