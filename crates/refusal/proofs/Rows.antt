-- Laws of rows in order: a gate is open or shut for one reason, what an open gate says of its rows, and where the search of a row ends.
-- Assumes nothing.
use mathlib.Core.Path.{◌≡◌, refl, sym, ◌∙◌}
use mathlib.Core.Bool.{Bool, true, false}
use Prim.Native.Nat.{ℕ, ◌<◌, ◌≤◌}
use native.Mathlib.Nat.{lt_of_lt_of_le}
use borrow.Author.Tests.{lt-ltb, le-ltb, ltb-false}
use native.Mathlib.Omega.{arith}
use Rattle.std.specs.Prelude.{Ok, Err}
use Rattle.refusal.specs.declared.Refusal.{Refusal}
use Rattle.refusal.specs.First.{first_of}
use Rattle.refusal.proofs.First.{Clear, first_of_is, first_found, first_none}
use Rattle.refusal.specs.Rows.{Gate, refuse_if, refuse_first, ◌then◌}

pub shut_open : (g : Gate) (why : Refusal) → g ≡ Err why → g ≡ Ok tt → ⊥
shut_open g why e f = let z : ◌≡◌ {A = ℕ} 0 1 = cc in omega arith

pub one_why : (g : Gate) (why other : Refusal) → g ≡ Err why → g ≡ Err other → why ≡ other
one_why g why other e f = let z : Err why ≡ Err other = sym e ∙ f in cc

-- both were open
pub open_both : (g h : Gate) → (g then h) ≡ Ok tt → (g ≡ Ok tt) × (h ≡ Ok tt)
open_both (Ok _) h e = (refl, e)
open_both (Err why) h e = absurd (shut_open (Err why) why refl e)

pub open_if : (t : Bool) (why : Refusal) → refuse_if t why ≡ Ok tt → t ≡ false
open_if true why e = absurd (shut_open (Err why) why refl e)
open_if false why e = refl

-- a row that searches: shut at the first offender, open where there is none
module _ (offends : ℕ → Bool) (n r : ℕ) (why : ℕ → Refusal) (first : r ≡ first_of offends n) where
  pub shut_at : r < n → Err (why r) ≡ refuse_first offends n why
  unfolding refuse_first
  shut_at h = rw (← first, lt-ltb r n h)

  pub open_at : n ≤ r → Ok tt ≡ refuse_first offends n why
  unfolding refuse_first
  open_at h = rw (← first, le-ltb r n h)

-- a search from the front that has come to i: it refuses there, where i offends, and lets through at the end
module _ (offends : ℕ → Bool) (n i : ℕ) (why : ℕ → Refusal) (clear : Clear offends i) where
  pub refused_here : i < n → offends i ≡ true → Err (why i) ≡ refuse_first offends n why
  refused_here below e = shut_at offends n i why (first_found offends n i clear below e) below

  pub none_refused : i ≤ n → n ≤ i → Ok tt ≡ refuse_first offends n why
  none_refused reach all = open_at offends n i why (first_none offends n i clear reach all) all

-- a searching row that is open: no place offends
pub open_clear : (offends : ℕ → Bool) (n : ℕ) (why : ℕ → Refusal) → refuse_first offends n why ≡ Ok tt → Clear offends n
unfolding refuse_first
open_clear offends n why e k h = (first_of_is offends n).clear k (lt_of_lt_of_le h (ltb-false (first_of offends n) n (open_if _ _ e)))
