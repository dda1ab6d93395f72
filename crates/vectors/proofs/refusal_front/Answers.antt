-- `refusal_front` is the definition of its name: its digits are those of the row and the place.
use borrow.Author.Rules.{rules}
use Rattle.vectors.specs.Hex.{refusal_front}
use Rattle.vectors.proofs.refusal_front.Goals as goal

pub returns : goal.returns
unfolding refusal_front
returns c = (simp (c.copy_from_slice-2.ensures.after, c.hex-place.ensures.0, c.place.ensures, c.copy_from_slice.ensures.after, c.hex-row.ensures.0, c.number.ensures), search rules)
