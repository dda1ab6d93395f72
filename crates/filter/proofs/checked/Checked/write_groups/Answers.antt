-- `write_groups`: the records in order of group, the lengths by group, and the middle one of each group's run is its median.
use Rattle.filter.proofs.Proper.{as_cells}
use Rattle.filter.proofs.Weighing.{numbers_small, rises, weighed}
use borrow.Author.Rules.{rules}
use Rattle.filter.proofs.checked.Checked.write_groups.Goals as goal

pub groups-requires-clause-sound : goal.groups-requires-clause-sound
groups-requires-clause-sound c = as_cells _ c.args.self.sound

pub gather_lengths-requires : goal.gather_lengths-requires
gather_lengths-requires c = record { n_in_bounds = search rules; by_index = numbers_small _ _ _ _ _ _ c.args.self.sound.few c.groups.ensures c.write_records.ensures c.order_by_group.ensures }

pub write_medians-requires : goal.write_medians-requires
write_medians-requires c = record { n_in_bounds = search rules; rising = rises _ _ _ _ _ _ c.args.self.sound.few c.groups.ensures c.write_records.ensures c.order_by_group.ensures _ c.gather_lengths.ensures }

pub returns : goal.returns
returns c = weighed _ _ _ _ _ _ c.args.self.sound.few c.groups.ensures c.write_records.ensures c.order_by_group.ensures _ c.gather_lengths.ensures c.args.self.sound.whole _ c.write_medians.ensures
