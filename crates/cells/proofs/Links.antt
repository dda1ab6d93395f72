-- Links: they join, turn round, and carry over to any relation whose links hold them; what every step keeps, they keep. Assumes nothing.
use mathlib.Core.Path.{◌≡◌, refl, sym, ◌∙◌}
use Prim.Native.Nat.{ℕ}
use Rattle.cells.specs.Groups.{Linked}
use Rattle.cells.specs.Groups.Linked.{same, on, back}

pub joined : {E : ℕ → ℕ → Type 0} {x y z : ℕ} → Linked E x y → Linked E y z → Linked E x z
joined a same = a
joined a (on b e) = on (joined a b) e
joined a (back b e) = back (joined a b) e

pub turned : {E : ℕ → ℕ → Type 0} {x y : ℕ} → Linked E x y → Linked E y x
turned same = same
turned (on a e) = joined (back same e) (turned a)
turned (back a e) = joined (on same e) (turned a)

-- links of links are links
pub fold : {E F : ℕ → ℕ → Type 0} {x y : ℕ} → ((u v : ℕ) → E u v → Linked F u v) → Linked E x y → Linked F x y
fold h same = same
fold h (on a e) = joined (fold h a) (h _ _ e)
fold h (back a e) = joined (fold h a) (turned (h _ _ e))

-- what E keeps, links keep
pub kept : {E : ℕ → ℕ → Type 0} {x y : ℕ} (f : ℕ → ℕ) → ((u v : ℕ) → E u v → f u ≡ f v) → Linked E x y → f x ≡ f y
kept f h same = refl
kept f h (on a e) = kept f h a ∙ h _ _ e
kept f h (back a e) = kept f h a ∙ sym (h _ _ e)
