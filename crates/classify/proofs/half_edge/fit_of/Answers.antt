-- `fit_of` is the definition of its name, by whether it is Grid.
use lib.Ieee.{neg, of_bits}
use Rattle.std.proofs.Common.{rules}
use Rattle.classify.specs.Fits.{fit_of}
use Rattle.classify.proofs.half_edge.fit_of.Goals as goal

pub returns-in-Spurious : goal.returns-in-Spurious
unfolding fit_of neg of_bits
returns-in-Spurious c = search rules
