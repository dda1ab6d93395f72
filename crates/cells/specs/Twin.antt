-- A twin of `Fits quads` that computes, for small lists: the reached quads are laid one by one, each on a known side of another, and
-- there are labels exactly when no corner is laid on two pairs.
use Rattle.std.specs.Prelude.{Bool, true, false, cond, not, ◌&&◌, List, [], ◌∷◌, map, ℕ, zero, suc, ◌+◌, ◌/◌, ◌%◌, eqb, ℤ, pos, negsuc, length}
use Rattle.std.proofs.Math.Option.{Option, none, some}
use Rattle.cells.specs.Cells.{cell}
use Rattle.cells.specs.Kind.{Pair, ◌⊕◌, ◌⊖◌, origin}
use Rattle.cells.specs.Quads.{turn}

abbrev pub same_number : ℤ → ℤ → Bool
same_number (pos m) (pos n) = eqb m n
same_number (pos m) (negsuc n) = false
same_number (negsuc m) (pos n) = false
same_number (negsuc m) (negsuc n) = eqb m n

abbrev pub same_pair : Pair → Pair → Bool
same_pair p q = same_number p.0 q.0 && same_number p.1 q.1

module _ {A : Type 0} (test : A → Bool) where
  abbrev pub every_one : List A → Bool
  every_one [] = true
  every_one (x ∷ xs) = test x && every_one xs

-- the numbers below n
abbrev pub numbers : ℕ → List ℕ
numbers zero = []
numbers (suc n) = n ∷ numbers n

-- ---- known sides

-- side `place` of a quad runs from a corner that reads p to one that reads q
pub record Known : Type 0 where
  pub quad : ℕ
  pub place : ℕ
  pub p : Pair
  pub q : Pair

-- the third corner of the unit square that begins with p and q
abbrev pub third_of : Pair → Pair → Pair
third_of p q = q ⊕ turn (q ⊖ p)

-- the next side of the same quad
abbrev pub after : Known → Known
after k = record { quad = k.quad; place = (k.place + 1) % 4; p = k.q; q = third_of k.p k.q }

-- all sides of a quad of which one is known, and what was known before
abbrev pub all_sides : Known → List Known → List Known
all_sides k ks = k ∷ after k ∷ after (after k) ∷ after (after (after k)) ∷ ks

abbrev pub first_side : ℕ → Known
first_side s = record { quad = s; place = 0; p = (pos 0, pos 0); q = (pos 1, pos 0) }

-- ---- laying quads

-- nothing can be laid, or this side of one of the waiting, and those still wait
pub data Pick : Type 0 where
  stuck : Pick
  took : Known → List ℕ → Pick

-- quad n waits on
abbrev pub passing : ℕ → Pick → Pick
passing n stuck = stuck
passing n (took k ns) = took k (n ∷ ns)

abbrev pub picked : ℕ → List ℕ → Option Known → Pick → Pick
picked n ns none later = passing n later
picked n ns (some k) later = took k ns

abbrev pub onward : Pick → List Known → (Known → List ℕ → List Known) → List Known
onward stuck ks go = ks
onward (took k ns) ks go = go k ns

-- what a corner reads
pub record Reading : Type 0 where
  pub corner : ℕ
  pub pair : Pair

module _ (cells : List ℕ) where
  abbrev pub start : Known → ℕ
  start k = cell 4 cells k.quad k.place

  abbrev pub end : Known → ℕ
  end k = cell 4 cells k.quad ((k.place + 1) % 4)

  -- side i of quad n is the known side of another quad, run in the opposite sense
  abbrev pub against : ℕ → Known → ℕ → Bool
  against n k i = not (eqb k.quad n) && (eqb (cell 4 cells n i) (end k) && eqb (cell 4 cells n ((i + 1) % 4)) (start k))

  -- that side of quad n, with its pairs
  abbrev pub lay : ℕ → Known → ℕ → Option Known → Option Known
  lay n k i otherwise = cond (against n k i) (some (record { quad = n; place = i; p = k.q; q = k.p })) otherwise

  -- quad n laid on the first known side that leads to it
  abbrev pub seek : ℕ → List Known → Option Known
  seek n [] = none
  seek n (k ∷ ks) = lay n k 0 (lay n k 1 (lay n k 2 (lay n k 3 (seek n ks))))

  -- the first of the waiting quads that a known side leads to
  abbrev pub pick : List ℕ → List Known → Pick
  pick [] ks = stuck
  pick (n ∷ ns) ks = picked n ns (seek n ks) (pick ns ks)

  -- at most so many quads are laid
  abbrev pub run : ℕ → List ℕ → List Known → List Known
  run zero ns ks = ks
  run (suc fuel) ns ks = onward (pick ns ks) ks (λ (k : Known) (ms : List ℕ). run fuel ms (all_sides k ks))

  -- the sides of the quads reached from s
  abbrev pub known_from : ℕ → List Known
  known_from s = run (length cells / 4) (numbers (length cells / 4)) (all_sides (first_side s) [])

  abbrev pub reading : Known → Reading
  reading k = record { corner = start k; pair = k.p }

-- the pair of the first reading of c
abbrev pub label : List Reading → ℕ → Pair
label [] c = origin
label (r ∷ rs) c = cond (eqb r.corner c) r.pair (label rs c)

abbrev pub agree : List Reading → Bool
agree rs = every_one (λ (r : Reading). same_pair (label rs r.corner) r.pair) rs

abbrev pub judged : Bool → List Reading → Option (List Reading)
judged true rs = some rs
judged false rs = none

-- what the corners reached from s read, or none where no assignment fits
abbrev pub solve : List ℕ → ℕ → Option (List Reading)
solve cells s =
    let rs = map (reading cells) (known_from cells s) in
    judged (agree rs) rs
