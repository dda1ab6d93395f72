-- "Some number below n": a hit decides it, it is not so where none has the property, and `any` over the range answers it. Assumes nothing.
use mathlib.Core.Path.{◌≡◌, refl, sym, ap, ◌∙◌}
use mathlib.Core.List.{List}
use mathlib.Core.Bool.{Bool, true, false, ◌||◌, or-false, false≢true}
use Prim.Native.Nat.{ℕ, zero, suc, ◌+◌, ◌<◌}
use native.Mathlib.Nat.{not-suc-le-zero}
use native.Mathlib.Nat.{add-zero, zero-add}
use native.Mathlib.Numerals.{add-one}
use native.Mathlib.Omega.{arith}
use borrow.Author.Tests.{eqb-true, eqb-false}
use lib.Dec.{eqb}
use denote.Param.Members.{Mut}
use Rattle.std.specs.Prelude.{Option}
use Rattle.std.specs.declared.ops.Range.{Range}
use Rattle.std.specs.Fn.{Called}
use Rattle.std.specs.Iterator.{YieldsThen}
use Rattle.std.specs.List.{FoldsTo, list_any, range_with_len}
use Rattle.std.specs.Option.{MatchOption}
use Rattle.std.proofs.iter.Yields.{nat_range_steps}
use Rattle.std.proofs.lemmas.Iterator.{YieldsList-from_range}
use Rattle.std.proofs.lemmas.Iterator.Search.{any_from_yields_List}
use Rattle.std.proofs.Math.Bool.{or_assoc}
use Rattle.mesh.specs.Cells.{some}

or_true : (a : Bool) → (a || true) ≡ true
or_true true = refl
or_true false = refl

pub some_hit : (n i : ℕ) (p : ℕ → Bool) → i < n → p i ≡ true → some n p ≡ true
unfolding some
some_hit zero i p h e = absurd (not-suc-le-zero h)
some_hit (suc n) i p h e = go (eqb i n) refl (λ l. some_hit n i p l e)
  where
    go : (t : Bool) → eqb i n ≡ t → (i < n → some n p ≡ true) → some (suc n) p ≡ true
    go true q ih = let s : i ≡ n = eqb-true i n q in rw (ap p (sym s) ∙ e) (or_true (some n p))
    go false q ih = let s : i ≡ n → ⊥ = eqb-false i n q in rw (ih (omega (arith, s)))

-- ---- no is said where none has the property

pub some_clear : (n : ℕ) (p : ℕ → Bool) → ((j : ℕ) → j < n → p j ≡ false) → some n p ≡ false
unfolding some
some_clear zero p h = refl
some_clear (suc n) p h = rw (some_clear n p (λ j l. h j (omega arith)), h n (omega arith))

pub some_missed : (n : ℕ) (p : ℕ → Bool) → some n p ≡ false → (j : ℕ) → j < n → p j ≡ false
some_missed n p e j l = go (p j) refl
  where
    go : (b : Bool) → p j ≡ b → p j ≡ false
    go true f = absurd (false≢true (sym e ∙ some_hit n j p l f))
    go false f = f

-- ---- `any` over the numbers below n

next_any : (p : ℕ → Bool) (a n : ℕ) → list_any p (range_with_len a (suc n)) ≡ (list_any p (range_with_len a n) || p (a + n))
next_any p a zero = rw add-zero (or-false (p a))
next_any p a (suc n) =
    ap (λ (b : Bool). p a || b) (next_any p (a + 1) n ∙ ap (λ (k : ℕ). list_any p (range_with_len (a + 1) n) || p k) (omega arith))
    ∙ sym (or_assoc (p a) (list_any p (range_with_len (a + 1) n)) (p (a + suc n)))

any_some : (n : ℕ) (p : ℕ → Bool) → list_any p (range_with_len 0 n) ≡ some n p
unfolding some
any_some zero p = refl
any_some (suc n) p = rw (next_any p 0 n, any_some n p, zero-add n)

-- what `any` over the range answers, of a call c.any: its clause `ran`, and that the closure tells whether a number has the property
pub some_from_any : {F : Type 0} {g : Mut F (ℕ × Unit {0}) Bool} {s : Range ℕ} (n : ℕ) (p : ℕ → Bool) (u : Range ℕ) (f : F) (r : Bool)
    → (xs : List ℕ) × (o : Option ℕ) × (j : F) × YieldsThen nat_range_steps s xs o u × FoldsTo (λ p x q. Called g p (x, tt) false q) f xs j × MatchOption o (r ≡ false) (λ x. (r ≡ true) × ((h : F) × Called g j (x, tt) true h))
    → s ≡ record { start = 0; end = n } → ((x : ℕ) (b : Bool) (q : F) → Called g f (x, tt) b q → (q ≡ f) × (b ≡ p x)) → r ≡ some n p
some_from_any n p u f r ran from told = any_from_yields_List p u f r ran (YieldsList-from_range 0 n n from (omega arith)) told ∙ any_some n p
