-- What `outcome_of` is by the tests of the code (the answer below 0 or not, errno 4 or not, the count 0 or not), and that it moves no more
-- bytes than there were. Assumes nothing.
use mathlib.Core.Path.{◌≡◌, refl, sym, ap, ◌∙◌}
use mathlib.Core.Bool.{Bool, true, false, cond}
use Prim.Native.Nat.{ℕ, ◌≤◌, min}
use native.Mathlib.Omega.{arith}
use lib.IntN.{ℤ, pos, negsuc}
use lib.Signed.{lt_z}
use lib.Dec.{eqb}
use mir.Syntax.{w32}
use mir.Val.{SFits, to_z, of_z}
use mir.Facts.{to_z-of_z}
use borrow.Author.Tests.{ltb-true, ne_eqb, eqb-false}
use Rattle.io.specs.Counts.{clamp_len}
use Rattle.streams.specs.declared.Moved.{Moved}
use Rattle.streams.specs.declared.Moved.TheVariants.{Some, Nothing, Interrupted, Failed}
use Rattle.streams.specs.Moves.{failure_of, moved_of, outcome_of, MovedWithin}

below : (got error : ℤ) (most : ℕ) → lt_z got (pos 0) ≡ true → outcome_of got error most ≡ failure_of error
unfolding outcome_of
below (negsuc n) error most e = refl
below (pos n) error most e = absurd (omega (arith, ltb-true n 0 e))

not_below_lem : (got error : ℤ) (most : ℕ) → lt_z got (pos 0) ≡ false → outcome_of got error most ≡ moved_of (clamp_len got most)
unfolding outcome_of
not_below_lem (negsuc n) error most e = absurd (let z : ◌≡◌ {A = ℕ} 0 1 = cc in omega arith)
not_below_lem (pos n) error most e = refl

-- the code compares the bits of errno
is_four_lem : (error : ℤ) → SFits w32 error → of_z w32 error ≡ 4 → failure_of error ≡ Interrupted
unfolding failure_of
is_four_lem error fits e = ap failure_of (sym (to_z-of_z fits) ∙ ap (to_z w32) e)

not_four : (error : ℤ) → (of_z w32 error ≡ 4 → ⊥) → failure_of error ≡ Failed error
unfolding failure_of
not_four (negsuc n) ne = refl
not_four (pos n) ne = rw (ne_eqb n 4 (λ e. ne (ap (λ (k : ℕ). of_z w32 (pos k)) e)))

pub interrupted : (got error : ℤ) (most : ℕ) → lt_z got (pos 0) ≡ true → SFits w32 error → of_z w32 error ≡ 4 → Interrupted ≡ outcome_of got error most
interrupted got error most b fits e = sym (below got error most b ∙ is_four_lem error fits e)

pub failed : (got error : ℤ) (most : ℕ) → lt_z got (pos 0) ≡ true → SFits w32 error → (of_z w32 error ≡ 4 → ⊥) → Failed (to_z w32 (of_z w32 error)) ≡ outcome_of got error most
failed got error most b fits ne = ap Failed (to_z-of_z fits) ∙ sym (below got error most b ∙ not_four error ne)

pub nothing : (got error : ℤ) (most n : ℕ) → lt_z got (pos 0) ≡ false → n ≡ clamp_len got most → n ≡ 0 → Nothing ≡ outcome_of got error most
unfolding moved_of
nothing got error most n b is e = sym (not_below_lem got error most b ∙ ap moved_of (sym is ∙ e))

pub some : (got error : ℤ) (most n : ℕ) → lt_z got (pos 0) ≡ false → n ≡ clamp_len got most → (n ≡ 0 → ⊥) → Some n ≡ outcome_of got error most
unfolding moved_of
some got error most n b is ne = sym (not_below_lem got error most b ∙ ap moved_of (sym is) ∙ rw (ne_eqb n 0 ne))

-- ---- a call moves no more bytes than there were, and at least one where it says that it moved some

counted : (n most : ℕ) → n ≤ most → (t : Bool) → eqb n 0 ≡ t → MovedWithin most (cond t Nothing (Some n))
counted n most h true e = tt
counted n most h false e = (omega (arith, eqb-false n 0 e), h)

not_moved : (most : ℕ) (error : ℤ) (t : Bool) → MovedWithin most (cond t Interrupted (Failed error))
not_moved most error true = tt
not_moved most error false = tt

pub within : (got error : ℤ) (most : ℕ) → MovedWithin most (outcome_of got error most)
unfolding outcome_of failure_of moved_of
within (pos n) error most = counted (min n most) most (omega arith) _ refl
within (negsuc n) (negsuc e) most = tt
within (negsuc n) (pos e) most = not_moved most (pos e) (eqb e 4)
