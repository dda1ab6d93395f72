-- What a function that is lent says at each place, as a clause about the one that calls it.
use Rattle.std.specs.Prelude.{◌≡◌, ℕ, ◌<◌}

-- at a place below n no call may answer anything but what `told` says of it
abbrev pub Tells : {A : Type 0} → ℕ → (ℕ → A → Type 0) → (ℕ → A) → Type 0
Tells {A} n may told = (k : ℕ) (a : A) → k < n → may k a → a ≡ told k
