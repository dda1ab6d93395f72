-- `find` ends at the root above x: each number passed is lower than the one before it, and moving its pointer up keeps the classes.
use mathlib.Core.Path.{refl}
use native.Mathlib.Omega.{arith}
use Rattle.cells.specs.Groups.Linked.{same}
use Rattle.cells.proofs.Parents.{refines_refl, climbed_next}
use Rattle.cells.proofs.forest.find.Goals as goal

pub climb-init : goal.climb-init
climb-init c = record { refines = refines_refl c.args.p.now c.requires.low; above = same; le = omega arith; is_up = refl; up_le = c.requires.low c.args.x c.requires.x_in_bounds }

pub climb-preserved : goal.climb-preserved
climb-preserved c = climbed_next c.climb.invariant c.requires.x_in_bounds
