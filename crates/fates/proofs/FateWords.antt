-- The two words of a fate say it. Assumes nothing.
use mathlib.Core.Path.{◌≡◌, refl}
use Rattle.fates.specs.declared.Fate.{Fate}
use Rattle.fates.specs.declared.Fate.TheVariants.{NotLowest, TooFewQuads, NoLabelling, TooFewLone, Kept}
use Rattle.fates.specs.inner.FateWords.{fate_number, claimed_in, fate_from}

pub read_back : (fate : Fate) → fate_from (fate_number fate) (claimed_in fate) ≡ fate
unfolding fate_number claimed_in fate_from
read_back NotLowest = refl
read_back TooFewQuads = refl
read_back NoLabelling = refl
read_back (TooFewLone claimed) = refl
read_back (Kept claimed) = refl
