-- Document 02, T-06: how well each half-edge fits. A Grid half-edge reports the greater of the distances at its ends, any other -1.
use Rattle.std.specs.Prelude.{List, ℕ, Float, length}
use Rattle.words.specs.Listing.{listing}
use Rattle.classify.specs.declared.Judged.{Judged}
use Rattle.classify.specs.declared.Judged.TheVariants.{Grid, Spurious}
use Rattle.classify.specs.Match.{no_fit}
use Rattle.classify.specs.Classes.{Input, judged_at}

-- a half-edge by its judgement: Diagonal and Spurious ones are not judged Grid for themselves
unfoldable pub fit_of : Judged → Float
fit_of (Grid own) = own.fit
fit_of Spurious = no_fit

unfoldable pub fit_at : Input → ℕ → Float
fit_at i e = fit_of (judged_at i e)

-- the fit list: one fit for each half-edge
unfoldable pub fits_of : Input → List Float
fits_of i = listing (length i.triangles) (λ (e : ℕ). fit_at i e)
