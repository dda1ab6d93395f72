-- `crowd_mark` is `one` of `crowded`: it adds a flag for each of the four corners.
use native.Mathlib.Omega.{arith}
use Rattle.filter.proofs.Crowd.{crowded_is}
use Rattle.filter.proofs.checked.Checked.crowd_mark.Goals as goal

pub returns : goal.returns
returns c =
    let s = c.args.self in
    crowded_is s.quads.now c.args.table.now c.args.q c.requires.q_in_bounds.0 (λ k h. omega (arith, s.sound.named k h, c.requires.q_in_bounds.1)) c.requires.counts _ _ _ _ _
    c.illegal_at.ensures.0 c.illegal_at-2.ensures.0 c.illegal_at-3.ensures.0 c.illegal_at-4.ensures.0 c.from.ensures
