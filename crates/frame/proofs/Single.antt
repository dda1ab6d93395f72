-- The call on the frame of document 01's program is as listed, by computation of the rows; the answer is proofs/Examples'. Assumes nothing.
use mathlib.Core.Path.{refl}
use lib.Ieee.{of_bits, round, le, is_nan}
use Rattle.refusal.specs.First.{first_of}
use Rattle.refusal.specs.Rows.{refuse_first}
use Rattle.measure.specs.Float.{within}
use Rattle.mesh.specs.HalfEdge.{next_of}
use Rattle.mesh.specs.Positions.{misplaced, positions_row}
use Rattle.mesh.specs.Cells.{not_below, corners_row, some, names_twice, twice_row}
use Rattle.mesh.specs.Twins.{runs_back, twin_offends, twin_fault, twins_row}
use Rattle.cells.specs.Sums.{total}
use Rattle.cells.specs.Holes.{holes, places, width, height, held}
use Rattle.walk.specs.Call.{entry_words, all_entries, component_words}
use Rattle.classify.specs.Call.{lengths_gate}
use Rattle.frame.specs.Call.{params_gate, values_gate, judge_of, entry_gate}
use Rattle.frame.specs.Call.Allowed.{refused, labelled}
use Rattle.frame.specs.Single.{Single}
use Rattle.frame.proofs.Examples.{of_the_frame}

pub single : Single
unfolding of_bits round le is_nan first_of refuse_first within next_of misplaced positions_row not_below corners_row some names_twice twice_row runs_back twin_offends twin_fault twins_row holes places total width height held entry_words all_entries component_words lengths_gate params_gate values_gate judge_of entry_gate
single =
    record {
      exact = labelled refl _ of_the_frame;
      surplus = labelled refl _ of_the_frame;
      no_workspace = refused _ refl;
      no_room = labelled refl _ of_the_frame;
      no_entries = labelled refl _ of_the_frame;
      nan_refused = refused _ refl;
      limit_first = refused _ refl;
      rule_refused = refused _ refl;
      twin_refused = refused _ refl;
    }
