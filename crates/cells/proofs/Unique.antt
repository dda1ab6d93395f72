-- Over every kind that has its three laws: chains join and go back, what is reached is in the list and in the seed's group, and two
-- assignments that fit agree on every reached corner, so on which are lone. Assumes nothing.
use mathlib.Core.Path.{◌≡◌, refl, sym, ◌∙◌, subst}
use mathlib.Core.List.{List}
use Prim.Native.Nat.{ℕ, ◌<◌}
use Rattle.cells.specs.Cells.{Cell, Touch, cell, Has, Neighbours, everyone}
use Rattle.cells.specs.Groups.{Linked}
use Rattle.cells.specs.Kind.{Pair, Kind, Chain, Next, Reached, ReachedCorner, Fits, Lone}
use Rattle.cells.specs.Kind.Chain.{here, on}

-- a step goes back, cells with a step touch, and what holds forces the next cell's pairs from the cell's
pub record Laws (k : Kind) : Type 0 where
  pub back : {p q : Cell} → k.Step p q → k.Step q p
  pub touch : {p q : Cell} → k.Step p q → Touch k.size p q
  pub forced : {p q : Cell} {L M : ℕ → Pair} → k.Step p q → k.Holds L p q → k.Holds M p q → ((i : ℕ) → i < k.size → L (p i) ≡ M (p i)) → (i : ℕ) → i < k.size → L (q i) ≡ M (q i)

pub join : {E : ℕ → ℕ → Type 0} {s p q : ℕ} → Chain E s p → Chain E p q → Chain E s q
join a here = a
join a (on b n) = on (join a b) n

-- where steps go back, chains do
chain_back : {E : ℕ → ℕ → Type 0} {s q : ℕ} → ((x y : ℕ) → E x y → E y x) → Chain E s q → Chain E q s
chain_back b here = here
chain_back b (on {p} {q} r n) = join (on here (b p q n)) (chain_back b r)

-- what is reached is in the list
pub reached_has : (k : Kind) (cells : List ℕ) {s q : ℕ} → Has k.size cells s → Reached k cells s q → Has k.size cells q
reached_has k cells h here = h
reached_has k cells h (on r n) = n.to

module _ (k : Kind) (w : Laws k) (cells : List ℕ) where
  next_back : (p q : ℕ) → Next k cells p q → Next k cells q p
  next_back p q n = record { from = n.to; to = n.from; two = λ e. n.two (sym e); step = w.back n.step }

  pub reached_back : {s q : ℕ} → Reached k cells s q → Reached k cells q s
  reached_back r = chain_back next_back r

  -- a corner reached from s is reached from every cell that s reaches
  pub corner_from : {s r c : ℕ} → Reached k cells s r → ReachedCorner k cells s c → ReachedCorner k cells r c
  corner_from h c = record { of = c.of; reached = join (reached_back h) c.reached; place = c.place; small = c.small; is = c.is }

  -- what is reached is in the group
  pub reached_linked : {s q : ℕ} → Reached k cells s q → Linked (Neighbours k.size cells everyone) s q
  reached_linked here = Linked.same
  reached_linked (on r n) = Linked.on (reached_linked r) (record { from = n.from; to = n.to; from_among = refl; to_among = refl; touch = w.touch n.step })

  -- two assignments that fit agree on every corner of a reached cell
  one_cell : {s q : ℕ} {L M : ℕ → Pair} → Fits k cells s L → Fits k cells s M → Reached k cells s q → (i : ℕ) → i < k.size → L (cell k.size cells q i) ≡ M (cell k.size cells q i)
  one_cell f g here = λ i h. f.reads i h ∙ sym (g.reads i h)
  one_cell f g (on {p} {q} r n) = w.forced n.step (f.holds p q r n) (g.holds p q r n) (one_cell f g r)

  pub one_labelling : {s c : ℕ} {L M : ℕ → Pair} → Fits k cells s L → Fits k cells s M → ReachedCorner k cells s c → L c ≡ M c
  one_labelling {L = L} {M} f g r = subst (λ (c : ℕ). L c ≡ M c) r.is (one_cell f g r.reached r.place r.small)

  pub one_lone : {s c : ℕ} {L M : ℕ → Pair} → Fits k cells s L → Fits k cells s M → Lone k cells s L c → Lone k cells s M c
  one_lone f g l = record { reached = l.reached; alone = λ d r e. l.alone d r (one_labelling f g r ∙ e ∙ sym (one_labelling f g l.reached)) }
