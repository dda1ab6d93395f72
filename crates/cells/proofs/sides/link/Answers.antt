-- `link`: each turn takes one pair of neighbours more; with m records there are m - 1 pairs.
use mathlib.Core.Path.{◌≡◌}
use Prim.Native.Nat.{◌-◌}
use native.Mathlib.Omega.{arith}
use Rattle.cells.proofs.Adjacent.{still_ready, still_classes, united_then}
use Rattle.cells.proofs.sides.link.Goals as goal

pub link_at-requires : goal.link_at-requires
link_at-requires c =
    let u = c.loop-h.invariant in
    record { ready = still_ready u.kept c.requires.ready (omega arith); classes = still_classes u.kept u.classes }

pub loop-h-preserved : goal.loop-h-preserved
loop-h-preserved c = united_then c.loop-h.invariant c.link_at.ensures

pub returns : goal.returns
returns c =
    let e : c.loop-h.h ≡ c.args.m - 1 = omega arith in
    rw (← e) c.loop-h.invariant
