-- A component: the lone corners of a group with their shifted pairs, in order of u, then v; and what becomes of a group.
use Rattle.std.specs.Prelude.{◌≡◌, ◌≢◌, Bool, false, ◌||◌, List, [], ◌∷◌, ◌++◌, ℕ, zero, suc, ◌≤◌, ◌<◌, eqb, pos, length}
use Rattle.cells.specs.Cells.{cell}
use Rattle.cells.specs.Sums.{how_many}
use Rattle.cells.specs.Kind.{Pair, ◌⊕◌, Kind, Fits, Lone}

-- e is in the list
pub data In {A : Type 0} (e : A) : List A → Type 0 where
  first : {f : A} {es : List A} → e ≡ f → In e (f ∷ es)
  later : {f : A} {es : List A} → In e es → In e (f ∷ es)

-- one of the list passes the test
module _ {A : Type 0} (test : A → Bool) where
  abbrev pub some_one : List A → Bool
  some_one [] = false
  some_one (x ∷ xs) = test x || some_one xs

-- each stands before all that follow it
pub data Sorted {A : Type 0} (Before : A → A → Type 0) : List A → Type 0 where
  none : Sorted Before []
  more : {e : A} {es : List A} → ((f : A) → In f es → Before e f) → Sorted Before es → Sorted Before (e ∷ es)

pub record Entry : Type 0 where
  pub u : ℕ
  pub v : ℕ
  pub corner : ℕ

-- by u, then v
pub data Before (e f : Entry) : Type 0 where
  by_u : e.u < f.u → Before e f
  by_v : e.u ≡ f.u → e.v < f.v → Before e f

-- one of the entries is as P says
pub record Some (es : List Entry) (P : Entry → Type 0) : Type 0 where
  pub entry : Entry
  pub among : In entry es
  pub is : P entry

-- es lists exactly the lone corners, each with its pair less `least`; if there are any, both minima are zero
pub record Listed (k : Kind) (cells : List ℕ) (seed : ℕ) (L : ℕ → Pair) (es : List Entry) : Type 0 where
  pub least : Pair
  pub lone : (e : Entry) → In e es → Lone k cells seed L e.corner
  pub pairs : (e : Entry) → In e es → L e.corner ≡ least ⊕ (pos e.u, pos e.v)
  pub every : (c : ℕ) → Lone k cells seed L c → Some es (λ e. e.corner ≡ c)
  pub zero_u : (e : Entry) → In e es → Some es (λ f. f.u ≡ 0)
  pub zero_v : (e : Entry) → In e es → Some es (λ f. f.v ≡ 0)
  pub ordered : Sorted Before es

-- the groups' numbers of n cells, and the least numbers of cells and of listed corners that a component has
pub record Grouping : Type 0 where
  pub n : ℕ
  pub number : ℕ → ℕ
  pub least_cells : ℕ
  pub least_corners : ℕ

abbrev pub grouping_by : ℕ → (ℕ → ℕ) → (least_cells least_corners : ℕ) → Grouping
grouping_by n number least_cells least_corners = record { n = n; number = number; least_cells = least_cells; least_corners = least_corners }

module _ (k : Kind) (cells : List ℕ) (g : Grouping) where
  -- how many cells the group of lowest cell s has, reached or not
  abbrev pub members : ℕ → ℕ
  members s = how_many (λ (q : ℕ). eqb (g.number q) s) g.n

  -- no three cells of the group are a crowd
  pub record Clear (s : ℕ) : Type 0 where
    pub clear : (p q r : ℕ) → p < g.n → q < g.n → r < g.n → g.number p ≡ s → g.number q ≡ s → g.number r ≡ s
        → p ≢ q → q ≢ r → p ≢ r → k.Crowd (cell k.size cells p) (cell k.size cells q) (cell k.size cells r) → ⊥

  -- the group of lowest cell s has a labelling
  pub record Labelling (s : ℕ) (L : ℕ → Pair) : Type 0 where
    pub clear : Clear s
    pub fits : Fits k cells s L

  -- the group of lowest cell s yields the component es
  pub record Component (s : ℕ) (es : List Entry) : Type 0 where
    pub enough : g.least_cells ≤ members s
    pub L : ℕ → Pair
    pub labelling : Labelling s L
    pub listed : Listed k cells s L es
    pub corners : g.least_corners ≤ length es

  -- it yields none: the first that applies
  pub data Dropped (s : ℕ) : Type 0 where
    few_cells : members s < g.least_cells → Dropped s
    no_labelling : g.least_cells ≤ members s → ((L : ℕ → Pair) → Labelling s L → ⊥) → Dropped s
    few_corners : g.least_cells ≤ members s → (L : ℕ → Pair) → Labelling s L → (es : List Entry) → Listed k cells s L es → length es < g.least_corners → Dropped s

  -- the components of the groups whose lowest cell is below m, in order of it
  pub data Components : ℕ → List (List Entry) → Type 0 where
    start : Components zero []
    within : {m : ℕ} {out : List (List Entry)} → Components m out → g.number m ≢ m → Components (suc m) out
    dropped : {m : ℕ} {out : List (List Entry)} → Components m out → g.number m ≡ m → Dropped m → Components (suc m) out
    kept : {m : ℕ} {out : List (List Entry)} {es : List Entry} → Components m out → g.number m ≡ m → Component m es → Components (suc m) (out ++ (es ∷ []))
