-- Document 01's examples marked P, in its order: one list, and one proof of it in proofs/Examples; each line on labelling is said by the
-- definitions (`Says`, of cells). The frame of its program stands last, through all stages.
use Rattle.std.specs.Prelude.{Ok}
use Rattle.std.specs.Prelude.{◌≡◌, true, false, List, [], ◌∷◌, ℕ, Float, replicate}
use Rattle.std.specs.Float.Ieee as Ieee
use Rattle.measure.specs.Float.{bits, fraction}
use Rattle.measure.specs.Angle.{angle_of}
use Rattle.measure.specs.RootComputed.{root_of}
use Rattle.mesh.specs.HalfEdge.{no_twin}
use Rattle.cells.specs.Kind.{Pair, Fits}
use Rattle.cells.specs.Quads.{quads}
use Rattle.cells.specs.Listed.{Entry}
use Rattle.cells.specs.Holes.{holes}
use Rattle.cells.specs.Example.{Told, Says, entry, square, whole, one_group}
use Rattle.filter.specs.Median.{Median}
use Rattle.filter.specs.Topology.{incidence, illegal}
use Rattle.filter.specs.Worked.{five, pairs}
use Rattle.frame.specs.Stages.{Input, Answer}

-- four quads round corner 0 that close; `five` are five, and `pairs` the sides 1, 1, 2, 2
abbrev pub four : List ℕ
four = 0 ∷ 1 ∷ 2 ∷ 3 ∷ 0 ∷ 3 ∷ 4 ∷ 5 ∷ 0 ∷ 5 ∷ 6 ∷ 7 ∷ 0 ∷ 7 ∷ 8 ∷ 1 ∷ []

-- four quads round corner 0 of which the last does not close
abbrev pub four_round : List ℕ
four_round = 0 ∷ 1 ∷ 2 ∷ 3 ∷ 0 ∷ 3 ∷ 4 ∷ 5 ∷ 0 ∷ 5 ∷ 6 ∷ 7 ∷ 0 ∷ 7 ∷ 8 ∷ 9 ∷ []

-- neither corner 1 nor corner 9 is listed; corner 6 is at (0,0), corner 0 at (1,1), and (2,1), which holds none, has nothing to its right
abbrev pub eight_of_ten : Told
eight_of_ten = whole (entry 0 0 6 ∷ entry 0 1 5 ∷ entry 0 2 4 ∷ entry 1 0 7 ∷ entry 1 1 0 ∷ entry 1 2 3 ∷ entry 2 0 8 ∷ entry 2 2 2 ∷ [])

-- the frame of the program's example but for its tolerance and its twins: four corners of a square, axes along its sides and no spreads, two
-- triangles
abbrev pub framed : Float → List ℕ → Input
framed tolerance twins =
    record {
      xs = bits 0 ∷ bits 0x41200000 ∷ bits 0x41200000 ∷ bits 0 ∷ [];
      ys = bits 0 ∷ bits 0 ∷ bits 0x41200000 ∷ bits 0x41200000 ∷ [];
      angles = bits 0 ∷ bits 0x3FC90FDB ∷ bits 0 ∷ bits 0x3FC90FDB ∷ bits 0 ∷ bits 0x3FC90FDB ∷ bits 0 ∷ bits 0x3FC90FDB ∷ [];
      marks = replicate 8 0;
      spreads = replicate 8 (bits 0);
      triangles = 0 ∷ 1 ∷ 2 ∷ 0 ∷ 2 ∷ 3 ∷ [];
      twins = twins;
      params = record {
        edges = record { tolerance = tolerance; spread = record { number = 1; limit = bits 0x3F800000 } };
        filters = record { ratio = bits 0x3FC00000; least = bits 0x3F000000; greatest = bits 0x40000000 };
        labels = record { quads = 1; corners = 4 };
      };
    }

abbrev pub program_frame : Input
program_frame = framed (bits 0x3E800000) (no_twin ∷ no_twin ∷ 3 ∷ 2 ∷ no_twin ∷ no_twin ∷ [])

-- u, v, corner, as the program prints them
abbrev pub printed : List Entry
printed = entry 0 0 0 ∷ entry 0 1 3 ∷ entry 1 0 1 ∷ entry 1 1 2 ∷ []

pub record Examples : Type 0 where
  -- root of 2 is 3FB504F3; of 100 is 10; of 00000001 is 1A3504F3
  pub root_of_2 : root_of (fraction 2 1) ≡ Ok (bits 0x3FB504F3)
  pub root_of_100 : root_of (fraction 100 1) ≡ Ok (fraction 10 1)
  pub root_of_00000001 : root_of (bits 0x00000001) ≡ Ok (bits 0x1A3504F3)
  -- angle (10,10) is 3F490FDB; (0,10) is 3FC90FDB; (-10,0) is 40490FDB; (0,0) is 0
  pub angle_10_10 : angle_of (fraction 10 1) (fraction 10 1) ≡ Ok (bits 0x3F490FDB)
  pub angle_0_10 : angle_of (bits 0) (fraction 10 1) ≡ Ok (bits 0x3FC90FDB)
  pub angle_minus_10_0 : angle_of (Ieee.neg (fraction 10 1)) (bits 0) ≡ Ok (bits 0x40490FDB)
  pub angle_0_0 : angle_of (bits 0) (bits 0) ≡ Ok (bits 0)
  -- a corner in four quads counts 8, legal; in five, 10, illegal
  pub in_four : (incidence four 0 ≡ 8) × (illegal four 0 ≡ false)
  pub in_five : (incidence five 0 ≡ 10) × (illegal five 0 ≡ true)
  -- sides 1, 1, 2, 2 have median 2
  pub median_of_1_1_2_2 : Median pairs (fraction 2 1)
  -- quads 0 1 2 3 and 1 4 5 2: corners 4 and 5 get (2,0) and (2,1)
  pub corners_4_and_5 : Says (one_group (0 ∷ 1 ∷ 2 ∷ 3 ∷ 1 ∷ 4 ∷ 5 ∷ 2 ∷ []) 1 1 (whole (entry 0 0 0 ∷ entry 0 1 3 ∷ entry 1 0 1 ∷ entry 1 1 2 ∷ entry 2 0 4 ∷ entry 2 1 5 ∷ []) ∷ []))
  -- quads 0 1 2 3 and 1 2 5 4 run side 1-2 alike: one group, four corners listed
  pub side_run_alike : Says (one_group (0 ∷ 1 ∷ 2 ∷ 3 ∷ 1 ∷ 2 ∷ 5 ∷ 4 ∷ []) 1 1 (whole (square 0 1 2 3) ∷ []))
  -- 0 1 2 3, 0 3 4 5, 0 5 6 1: no component, even where no quads and no corners are asked for
  pub no_component : Says (one_group (0 ∷ 1 ∷ 2 ∷ 3 ∷ 0 ∷ 3 ∷ 4 ∷ 5 ∷ 0 ∷ 5 ∷ 6 ∷ 1 ∷ []) 0 0 [])
  -- 0 1 2 3, 0 3 4 5, 0 5 6 7, 0 7 8 9: corners 1 and 9 claim one place, neither listed; 8 entries, corner 6 at (0,0), corner 0 at (1,1);
  -- "one hole" in document 01, and 0 by document 02, T-03. Least corners 9 drops it, 8 keeps it; least quads 5 drops it
  pub corners_1_and_9 : (L : ℕ → Pair) × (Fits quads four_round 0 L × (L 1 ≡ L 9))
  pub eight_entries : Says (one_group four_round 1 1 (eight_of_ten ∷ []))
  pub least_corners_9 : Says (one_group four_round 1 9 [])
  pub least_corners_8 : Says (one_group four_round 1 8 (eight_of_ten ∷ []))
  pub least_quads_5 : Says (one_group four_round 5 1 [])
  -- the program prints: components 1; component 0 4 0; 0 0 0; 0 1 3; 1 0 1; 1 1 2
  pub frame : Answer program_frame (printed ∷ [])
  pub frame_holes : holes printed ≡ 0
