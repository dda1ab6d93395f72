-- A fate as the two words that stand in the workspace: its number, and how many pairs are claimed by several.
use Rattle.std.specs.Prelude.{Bool, true, false, List, ℕ, zero, suc}
use Rattle.fates.specs.declared.Fate.{Fate}
use Rattle.fates.specs.declared.Fate.TheVariants.{NotLowest, TooFewQuads, NoLabelling, TooFewLone, Kept}
use Rattle.fates.specs.inner.Fates.{fate_of, walked_of}

-- in this order, from 0
unfoldable pub fate_number : Fate → ℕ
fate_number NotLowest = 0
fate_number TooFewQuads = 1
fate_number NoLabelling = 2
fate_number (TooFewLone claimed) = 3
fate_number (Kept claimed) = 4

unfoldable pub claimed_in : Fate → ℕ
claimed_in NotLowest = 0
claimed_in TooFewQuads = 0
claimed_in NoLabelling = 0
claimed_in (TooFewLone claimed) = claimed
claimed_in (Kept claimed) = claimed

unfoldable pub fate_from : ℕ → ℕ → Fate
fate_from zero claimed = NotLowest
fate_from (suc zero) claimed = TooFewQuads
fate_from (suc (suc zero)) claimed = NoLabelling
fate_from (suc (suc (suc zero))) claimed = TooFewLone claimed
fate_from (suc (suc (suc (suc more)))) claimed = Kept claimed

-- the fate of quad s as the workspace says it
abbrev pub fate_at : ℕ → ℕ → List ℕ → ℕ → Fate
fate_at span n w s = fate_from (fate_of span n w s) (walked_of span n w s)

-- a labelling was found
unfoldable pub is_labelled : Fate → Bool
is_labelled NotLowest = false
is_labelled TooFewQuads = false
is_labelled NoLabelling = false
is_labelled (TooFewLone claimed) = true
is_labelled (Kept claimed) = true
