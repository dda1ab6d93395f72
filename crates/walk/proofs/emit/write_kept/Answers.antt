-- `write_kept` goes by whether the group is kept.
use mathlib.Core.Path.{refl}
use Rattle.words.proofs.Regions.{kept_refl}
use Rattle.walk.proofs.emit.write_kept.Goals as goal

pub write_component-requires : goal.write_component-requires
write_component-requires c = let p = c.requires c.if-kept.true in record { ascending = (p.0, p.1); components_in_bounds = (p.2, p.3, p.4) }

pub returns-then-kept : goal.returns-then-kept
returns-then-kept c = let e = c.write_component.ensures in rw c.if-kept.true e

pub returns-else-kept : goal.returns-else-kept
returns-else-kept c = rw c.if-kept.false (record { components_after = refl; entries_after = refl; kept = kept_refl c.args.work.now 0 0 })
