-- Quads as a kind of cell: four corners, steps across sides run in opposite senses, unit squares with one turn.
use Rattle.std.specs.Prelude.{◌≡◌, [], ◌∷◌, ℕ, zero, suc, pos, negsuc, neg_ℤ}
use Rattle.cells.specs.Cells.{Cell, Side}
use Rattle.cells.specs.Kind.{Pair, ◌⊕◌, ◌⊖◌, Kind}

abbrev pub turn : Pair → Pair
turn p = (neg_ℤ p.1, p.0)

-- a side of p and a side of q have the same ends, run in opposite senses
pub record Opposed (p q : Cell) : Type 0 where
  pub x : ℕ
  pub y : ℕ
  pub there : Side 4 p x y
  pub back : Side 4 q y x

-- one of the four unit steps
pub data OneStep (s : Pair) : Type 0 where
  east : s ≡ (pos 1, pos 0) → OneStep s
  north : s ≡ (pos 0, pos 1) → OneStep s
  west : s ≡ (negsuc 0, pos 0) → OneStep s
  south : s ≡ (pos 0, negsuc 0) → OneStep s

-- four pairs that go round a unit square
pub record Square (a b c d : Pair) : Type 0 where
  pub side : OneStep (b ⊖ a)
  pub third : c ≡ b ⊕ turn (b ⊖ a)
  pub fourth : d ≡ c ⊖ (b ⊖ a)

-- q goes round a unit square under L
abbrev pub Round : (ℕ → Pair) → Cell → Type 0
Round L q = Square (L (q 0)) (L (q 1)) (L (q 2)) (L (q 3))

-- the seed reads (0,0), (1,0), (1,1), (0,1), and every reached quad goes round
abbrev pub quads : Kind
quads =
    record {
      size = 4;
      first = (pos 0, pos 0) ∷ (pos 1, pos 0) ∷ (pos 1, pos 1) ∷ (pos 0, pos 1) ∷ [];
      Step = Opposed;
      Holds = λ L p q. Round L q;
      Crowd = λ p q r. ⊥;
    }

-- t quarter turns
abbrev pub turns : ℕ → Pair → Pair
turns zero p = p
turns (suc t) p = turn (turns t p)

-- t quarter turns, and then a shift by d
abbrev pub moved : ℕ → Pair → Pair → Pair
moved t d p = turns t p ⊕ d
