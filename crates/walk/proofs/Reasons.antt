-- A group that yields a component has all that is demanded, and a dropped one lacks a part of it; no group does both. An assignment that
-- fits is as good as another: a listing under the one is a listing under the other, and as many corners are lone. Assumes nothing.
use mathlib.Core.Path.{◌≡◌, sym, ap, ◌∙◌}
use mathlib.Core.List.{List}
use Prim.Native.Nat.{ℕ, ◌≤◌}
use native.Mathlib.Omega.{arith}
use Rattle.cells.specs.Kind.{Pair, Fits, Lone}
use Rattle.cells.specs.Counted.{Exactly}
use Rattle.cells.specs.Quads.{quads}
use Rattle.cells.specs.Listed.{Entry, Listed, Component, Dropped}
use Rattle.cells.specs.Listed.Dropped.{few_cells, no_labelling, few_corners}
use Rattle.cells.proofs.Counted.{one_count, exactly_same}
use Rattle.cells.proofs.NoMore.{no_more}
use Rattle.cells.proofs.Unique.{one_labelling, one_lone}
use Rattle.cells.proofs.Squares.{quad_laws, no_crowd}
use Rattle.walk.specs.Input.{Input, grouping}
use Rattle.walk.specs.Demanded.{AtLeast, Demanded, Lacks}
use Rattle.walk.specs.Demanded.Lacks.{few_quads, no_assignment, few_lone}
use Rattle.walk.proofs.ByPlace.{exactly_lone}

pub listed_under : (cells : List ℕ) (s : ℕ) (L M : ℕ → Pair) (es : List Entry) → Fits quads cells s L → Fits quads cells s M → Listed quads cells s M es → Listed quads cells s L es
listed_under cells s L M es f g l = record {
  least = l.least;
  lone = λ e i. one_lone quads quad_laws cells g f (l.lone e i);
  pairs = λ e i. one_labelling quads quad_laws cells f g (l.lone e i).reached ∙ l.pairs e i;
  every = λ c o. l.every c (one_lone quads quad_laws cells f g o);
  zero_u = l.zero_u;
  zero_v = l.zero_v;
  ordered = l.ordered;
}

-- as many corners are lone under one assignment that fits as under another
pub one_lone_count : (cells : List ℕ) (s : ℕ) (L M : ℕ → Pair) → Fits quads cells s L → Fits quads cells s M → {j k : ℕ} → Exactly (Lone quads cells s L) j → Exactly (Lone quads cells s M) k → j ≡ k
one_lone_count cells s L M f g x y =
    one_count (Lone quads cells s M) (exactly_same (Lone quads cells s L) (Lone quads cells s M) (λ c k. one_lone quads quad_laws cells f g k) (λ c k. one_lone quads quad_laws cells g f k) x) y

-- ---- at least so many of exactly so many

pub some_of : {P : ℕ → Type 0} {t n : ℕ} → Exactly P n → t ≤ n → AtLeast P t
some_of x h = record { pick = x.pick; each = λ k l. x.each k (omega arith); apart = λ j k lj lk. x.apart j k (omega arith) (omega arith) }

pub at_least_over : {P Q : ℕ → Type 0} {t : ℕ} → ((c : ℕ) → P c → Q c) → AtLeast P t → AtLeast Q t
at_least_over h a = record { pick = a.pick; each = λ k l. h (a.pick k) (a.each k l); apart = a.apart }

pub no_more_than : {P : ℕ → Type 0} {t n : ℕ} → Exactly P n → AtLeast P t → t ≤ n
no_more_than {t = t} {n} x a =
    no_more t n (λ k l. (x.every (a.pick k) (a.each k l)).at) (λ k l. (x.every (a.pick k) (a.each k l)).small)
    (λ j k lj lk e. a.apart j k lj lk (sym (x.every (a.pick j) (a.each j lj)).is ∙ ap x.pick e ∙ (x.every (a.pick k) (a.each k lk)).is))

-- ---- what a group has or lacks

module _ (i : Input) (number : ℕ → ℕ) (s : ℕ) where
  pub component_demanded : (es : List Entry) → Component quads i.quads (grouping i number) s es → Demanded i number s
  component_demanded es c = record { enough = c.enough; L = c.L; fits = c.labelling.fits; corners = some_of (exactly_lone i.quads s c.L es c.listed) c.corners }

  pub dropped_lacks : Dropped quads i.quads (grouping i number) s → Lacks i number s
  dropped_lacks (few_cells h) = few_quads h
  dropped_lacks (no_labelling h r) = no_assignment h (λ L f. r L (no_crowd f))
  dropped_lacks (few_corners h L m es l c) = few_lone h L m.fits (λ a. omega (arith, no_more_than (exactly_lone i.quads s L es l) a, c))

  pub not_both : Lacks i number s → Demanded i number s → ⊥
  not_both (few_quads h) d = omega (arith, d.enough)
  not_both (no_assignment h r) d = r d.L d.fits
  not_both (few_lone h L f r) d = r (at_least_over (λ c l. one_lone quads quad_laws i.quads d.fits f l) d.corners)
