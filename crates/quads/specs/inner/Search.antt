-- What the search for a triangle's only diagonal has found in the sides that it has passed, or that it has stopped: at a Spurious side or at a
-- second Diagonal.
use Rattle.std.specs.Prelude.{Option, Some, None, List, ℕ, zero, suc, ◌+◌}
use Rattle.classify.specs.declared.Class.{Class}
use Rattle.classify.specs.declared.Class.TheVariants.{Spurious, Grid, Diagonal}
use Rattle.quads.specs.Diagonal.{side_class}

-- one side more: `None` where the search stops, else what is found by then
abbrev pub goes_on : (found : Option ℕ) → (side : ℕ) → Class → Option (Option ℕ)
goes_on found side Spurious = None
goes_on found side Grid = Some found
goes_on None side Diagonal = Some (Some side)
goes_on (Some e) side Diagonal = None

abbrev pub step_of : Option (Option ℕ) → (side : ℕ) → Class → Option (Option ℕ)
step_of None side class = None
step_of (Some found) side class = goes_on found side class

-- after n sides from half-edge `base` on
unfoldable pub seen_to : (classes : List ℕ) → (base n : ℕ) → Option (Option ℕ)
seen_to classes base zero = Some None
seen_to classes base (suc n) = step_of (seen_to classes base n) (base + n) (side_class classes (base + n))

-- what the search answers
abbrev pub answer_of : Option (Option ℕ) → Option ℕ
answer_of None = None
answer_of (Some found) = found
