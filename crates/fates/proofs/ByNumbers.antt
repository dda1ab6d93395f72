-- The first fate that applies by a group's numbers, case by case.
use Rattle.fates.specs.inner.Judging.Falls.{not_lowest, few_quads, no_labelling, few_lone, kept}

pub ruleset applies = (not_lowest, few_quads, no_labelling, few_lone, kept)
