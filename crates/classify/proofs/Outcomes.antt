-- The call's two outcomes, by what the gate was. Assumes nothing.
use mathlib.Core.Path.{◌≡◌, sym, subst}
use mathlib.Core.List.{List}
use Prim.Native.Nat.{ℕ, ◌<◌}
use lib.Ieee.{Float}
use lib.ListN.{length}
use Rattle.refusal.specs.Rows.{Gate}
use Rattle.words.proofs.Listing.{is_listing}
use Rattle.std.specs.Prelude.{Ok, Err}
use Rattle.refusal.specs.declared.Refusal.{Refusal}
use Rattle.classify.specs.Match.{no_fit}
use Rattle.classify.specs.Classes.{Input, classes_of}
use Rattle.classify.specs.Fits.{fit_at, fits_of}
use Rattle.classify.specs.inner.Triangle.{AllFit}
use Rattle.classify.specs.Call.{fitted_gate, Outcome, call_of}

module _ (i : Input) (classes : List ℕ) (fits : List Float) (g : Gate) (judged : g ≡ fitted_gate i (length classes) (length fits)) where
  pub refused : (why : Refusal) → g ≡ Err why → ◌≡◌ {A = Outcome} (record { answer = Err why; classes = classes; fits = fits }) (call_of i classes fits)
  unfolding call_of
  refused why e = rw (← judged, e)

  pub done : (after : List ℕ) (fitted : List Float) → g ≡ Ok tt → after ≡ classes_of i → length fitted ≡ length i.triangles → AllFit i fitted
      → ◌≡◌ {A = Outcome} (record { answer = Ok tt; classes = after; fits = fitted }) (call_of i classes fits)
  unfolding call_of fits_of
  done after fitted e f n all = rw (← judged, e, f, is_listing no_fit fitted (length i.triangles) (fit_at i) n (λ k h. all k (subst (λ (m : ℕ). k < m) (sym n) h)))
