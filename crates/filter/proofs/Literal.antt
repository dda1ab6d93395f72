-- The code's literals are document 01's float 1e-6 and 0. Assumes nothing.
use mathlib.Core.Path.{◌≡◌, refl}
use lib.Ieee.{of_bits, round}
use Rattle.measure.specs.Float.{bits, fraction}
use Rattle.filter.specs.Opposing.{tiny}

pub tiny_bits : bits 0x3586_37bd ≡ tiny
unfolding of_bits round
tiny_bits = refl

pub zero_bits : bits 0 ≡ fraction 0 1
unfolding of_bits round
zero_bits = refl
