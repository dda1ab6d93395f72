-- Document 01's frame computed by the definitions: its one quad, a full tie, and class lists with none. Assumes nothing.
use mathlib.Core.Path.{◌≡◌, refl}
use mathlib.Core.List.{List, [], ◌∷◌}
use Prim.Native.Nat.{ℕ}
use lib.Ieee.{Float, neg, of_bits, round, add, sub, mul, div, lt, eq, le}
use Rattle.refusal.specs.First.{first_of}
use Rattle.words.specs.Sorting.{one, equal, below, rank, placed}
use Rattle.measure.specs.Float.{bits}
use Rattle.measure.specs.Angle.{series_of, part_of, ratio_of, base_of, octant_of, across_of, below_of, angle_rule}
use Rattle.measure.specs.Position.{centroid_of}
use Rattle.measure.specs.Root.{units_of}
use Rattle.measure.specs.Value.{whole_of}
use Rattle.mesh.specs.Cells.{some}
use Rattle.mesh.specs.HalfEdge.{no_twin}
use Rattle.quads.specs.Diagonal.{only_by, only_at}
use Rattle.quads.specs.Union.{is_in, new_to, union_of, four_from}
use Rattle.quads.specs.Order.{middle_of, angle_seen, ahead, by_angle, sorted_of, leads, leader_of, turned_from, order_of}
use Rattle.quads.specs.Merge.{Input, paired_by, paired_across, paired_at, quads_to, merged_of}
use Rattle.quads.specs.Call.{words_of}

-- four corners of a square in two triangles, the last of them at this height, with these classes
unfoldable pub frame : Float → List ℕ → Input
frame height classes =
    record {
      xs = bits 0 ∷ bits 0x41200000 ∷ bits 0x41200000 ∷ bits 0 ∷ [];
      ys = bits 0 ∷ bits 0 ∷ bits 0x41200000 ∷ height ∷ [];
      mesh = record { triangles = 0 ∷ 1 ∷ 2 ∷ 0 ∷ 2 ∷ 3 ∷ []; twins = no_twin ∷ no_twin ∷ 3 ∷ 2 ∷ no_twin ∷ no_twin ∷ []; classes = classes };
    }

pub of_the_frame : words_of (merged_of (frame (bits 0x41200000) (1 ∷ 1 ∷ 2 ∷ 2 ∷ 1 ∷ 1 ∷ []))) ≡ 0 ∷ 1 ∷ 2 ∷ 3 ∷ []
unfolding frame neg of_bits round add sub mul div lt eq le first_of one equal below rank placed series_of part_of ratio_of base_of octant_of across_of below_of angle_rule centroid_of units_of whole_of some only_by only_at is_in new_to union_of four_from middle_of angle_seen ahead by_angle sorted_of leads leader_of turned_from order_of paired_by paired_across paired_at quads_to merged_of words_of
of_the_frame = refl

-- corners 0 and 3 at one position have equal angles and tie in full: they keep their order, and the earlier is first
pub full_tie : words_of (merged_of (frame (bits 0) (1 ∷ 1 ∷ 2 ∷ 2 ∷ 1 ∷ 1 ∷ []))) ≡ 0 ∷ 3 ∷ 1 ∷ 2 ∷ []
unfolding frame neg of_bits round add sub mul div lt eq le first_of one equal below rank placed series_of part_of ratio_of base_of octant_of across_of below_of angle_rule centroid_of units_of whole_of some only_by only_at is_in new_to union_of four_from middle_of angle_seen ahead by_angle sorted_of leads leader_of turned_from order_of paired_by paired_across paired_at quads_to merged_of words_of
full_tie = refl

-- the twin has a class of its own: Grid there is no pair
pub twin_not_diagonal : merged_of (frame (bits 0x41200000) (1 ∷ 1 ∷ 2 ∷ 1 ∷ 1 ∷ 1 ∷ [])) ≡ []
unfolding frame only_by only_at paired_by paired_across paired_at quads_to merged_of
twin_not_diagonal = refl

-- two Diagonals in a triangle are no only diagonal
pub two_diagonals : merged_of (frame (bits 0x41200000) (1 ∷ 2 ∷ 2 ∷ 2 ∷ 1 ∷ 1 ∷ [])) ≡ []
unfolding frame only_by only_at paired_by paired_across paired_at quads_to merged_of
two_diagonals = refl
