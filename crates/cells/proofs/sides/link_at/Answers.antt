-- `link_at`: by its two tests, and the words that it reads are those of records h and h + 1.
use native.Mathlib.Omega.{arith}
use Rattle.cells.proofs.Adjacent.{no_side, two_keys, one_key}
use Rattle.cells.proofs.sides.link_at.Goals as goal

pub returns-then-work-at-eq0 : goal.returns-then-work-at-eq0
returns-then-work-at-eq0 c = no_side _ _ _ c.requires.classes c.if-work-at-eq0.true

pub returns-then-work-at : goal.returns-then-work-at
returns-then-work-at c = two_keys _ _ _ c.requires.classes c.if-work-at.true

pub returns : goal.returns
returns c = one_key _ _ _ c.requires.classes _ (omega arith) c.join.ensures c.if-work-at-eq0.false c.if-work-at.false
