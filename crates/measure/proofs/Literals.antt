-- The code's literals are document 01's numbers: each 1/n rounded once, 53/128, 4, and the two ranges. Assumes nothing.
use mathlib.Core.Path.{◌≡◌, refl}
use mathlib.Core.Bool.{true, false}
use lib.Ieee.{binary32, neg, of_bits, round}
use Rattle.measure.specs.Float.{bits, fraction}

pub p1 : bits 0x3f80_0000 ≡ round binary32 false 1 1
unfolding of_bits round
p1 = refl

pub m3 : neg (bits 0x3eaa_aaab) ≡ round binary32 true 1 3
unfolding of_bits round neg
m3 = refl

pub p5 : bits 0x3e4c_cccd ≡ round binary32 false 1 5
unfolding of_bits round
p5 = refl

pub m7 : neg (bits 0x3e12_4925) ≡ round binary32 true 1 7
unfolding of_bits round neg
m7 = refl

pub p9 : bits 0x3de3_8e39 ≡ round binary32 false 1 9
unfolding of_bits round
p9 = refl

pub m11 : neg (bits 0x3dba_2e8c) ≡ round binary32 true 1 11
unfolding of_bits round neg
m11 = refl

pub p13 : bits 0x3d9d_89d9 ≡ round binary32 false 1 13
unfolding of_bits round
p13 = refl

pub m15 : neg (bits 0x3d88_8889) ≡ round binary32 true 1 15
unfolding of_bits round neg
m15 = refl

pub bend : bits 0x3ed4_0000 ≡ fraction 53 128
unfolding of_bits round
bend = refl

pub four : bits 0x4080_0000 ≡ fraction 4 1
unfolding of_bits round
four = refl

pub reach : bits 0x4a00_0000 ≡ fraction 2097152 1
unfolding of_bits round
reach = refl

pub range : bits 0x4980_0000 ≡ fraction 1048576 1
unfolding of_bits round
range = refl

pub ruleset literals = (p1, m3, p5, m7, p9, m11, p13, m15, bend, four, reach, range)
