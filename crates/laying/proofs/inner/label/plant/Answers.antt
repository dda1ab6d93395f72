-- `plant`: the four corners take their words two by two, and two stores mark and queue the seed.
use Rattle.std.proofs.Common.{refl, arith}
use Rattle.laying.specs.inner.Layout.{centre}
use Rattle.laying.proofs.Seeds.{two_corners, word_zero, word_one, planted_at}
use Rattle.laying.proofs.inner.label.plant.Goals as goal

pub to_word-zero-requires : goal.to_word-zero-requires
to_word-zero-requires c = record { word = centre; of = record { is = refl; small = omega arith } }

pub to_word-one-requires : goal.to_word-one-requires
to_word-one-requires c = record { word = 16385; of = record { is = refl; small = omega arith } }

pub place-requires-clause-apart : goal.place-requires-clause-apart
place-requires-clause-apart c = two_corners c.args.seed 0 1 _ _ c.args.sheet.given c.requires.seed_in.0 (omega arith) c.corner-a.ensures.0 c.corner-b.ensures.0

pub place-requires-2-clause-apart : goal.place-requires-2-clause-apart
place-requires-2-clause-apart c = two_corners c.args.seed 2 3 _ _ c.args.sheet.given c.requires.seed_in.0 (omega arith) c.corner-c.ensures.0 c.corner-d.ensures.0

pub returns : goal.returns
returns c = planted_at c.args.sheet.span _ _ _ _ _ _ _ _ _ _ _ _ _ _ c.args.sheet.given c.requires.seed_in.0 c.requires.seed_in.1 c.requires.blank.0 c.requires.blank.1 c.corner-a.ensures.0 c.corner-b.ensures.0 c.corner-c.ensures.0 c.corner-d.ensures.0 (word_zero c.to_word-zero.ensures) (word_one c.to_word-one.ensures) c.place.ensures c.place-2.ensures
