-- A list by its places: what stands at each place below n.
use Rattle.std.specs.Prelude.{List, [], ◌∷◌, ℕ, zero, suc}

module _ {A : Type 0} where
  unfoldable pub listing : ℕ → (ℕ → A) → List A
  listing zero f = []
  listing (suc n) f = f zero ∷ listing n (λ (k : ℕ). f (suc k))
