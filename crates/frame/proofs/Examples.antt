-- The list of document 01's P examples holds, by computation; its frame stage by stage, each by what its own crate computes of it. Assumes
-- nothing.
use mathlib.Core.Path.{◌≡◌, refl, sym, ap, ◌∙◌, subst}
use mathlib.Core.List.{List, [], ◌∷◌, map}
use mathlib.Core.Option.{some}
use Prim.Native.Nat.{ℕ}
use native.Mathlib.Omega.{arith}
use lib.Dec.{lit<, lit≤}
use lib.Ieee.{neg, of_bits, round, add, sub, mul, div, lt, eq, le}
use Rattle.words.specs.Sorting.{one, equal}
use Rattle.measure.specs.Float.{within}
use Rattle.measure.specs.Angle.{series_of, part_of, ratio_of, base_of, octant_of, across_of, below_of, angle_rule, reached, angle_of}
use Rattle.measure.specs.Pattern.{sig_of, exp_of, units}
use Rattle.measure.specs.Root.{units_of}
use Rattle.measure.specs.RootComputed.{greatest, reaches, root_pattern, root_of}
use Rattle.classify.specs.Classes.{classes_of}
use Rattle.classify.proofs.Worked as classes
use Rattle.quads.specs.Merge.{merged_of}
use Rattle.quads.specs.Call.{words_of}
use Rattle.quads.proofs.Worked as quads
use Rattle.cells.specs.Kind.{Pair, Fits}
use Rattle.cells.specs.Quads as cells
use Rattle.cells.specs.Twin.{Reading, known_from, reading, label}
use Rattle.cells.specs.Sums.{total}
use Rattle.cells.specs.Holes.{holes, places, width, height, held}
use Rattle.cells.proofs.Twin.{Solves, solve_is}
use Rattle.cells.proofs.Twin.Solves.{solved}
use Rattle.cells.proofs.Check.{groups_are}
use Rattle.cells.proofs.Computed.{computed_are}
use Rattle.cells.proofs.Examples.{example_says}
use Rattle.filter.specs.Input as filters
use Rattle.filter.specs.Median.{less, up_to}
use Rattle.filter.specs.Topology.{incidence, illegal}
use Rattle.filter.specs.Marks.{Marked, kept_to, kept_of}
use Rattle.filter.specs.Single.{square}
use Rattle.filter.proofs.Single.{marked}
use Rattle.walk.specs.Input as labels
use Rattle.frame.specs.Stages.{Answer, classing, merging, filtering}
use Rattle.frame.specs.Examples.{four_round, program_frame, printed, Examples}

-- ---- the frame

classed : classes_of (classing program_frame) ≡ 1 ∷ 1 ∷ 2 ∷ 2 ∷ 1 ∷ 1 ∷ []
unfolding classes.frame
classed = classes.of_the_frame

made : words_of (merged_of (merging program_frame)) ≡ 0 ∷ 1 ∷ 2 ∷ 3 ∷ []
unfolding quads.frame
made = rw classed quads.of_the_frame

-- the filters read one square
read : filtering program_frame ≡ square
unfolding of_bits round
read = rw made

kept : words_of (kept_of square (0 ∷ [])) ≡ 0 ∷ 1 ∷ 2 ∷ 3 ∷ []
unfolding kept_to kept_of words_of
kept = refl

abbrev labelling : List ℕ → labels.Input
labelling quads = record { quads = quads; corners = 4; params = program_frame.params.labels }

labelled : labels.Answer (labelling (0 ∷ 1 ∷ 2 ∷ 3 ∷ [])) (printed ∷ [])
unfolding total
labelled =
    let quads : List ℕ = 0 ∷ 1 ∷ 2 ∷ 3 ∷ [] in
    let number : ℕ → ℕ = λ q. q in
    record { number = number; groups = groups_are quads number refl; components = computed_are quads (labels.grouping (labelling quads) number) 1 (omega arith) }

pub of_the_frame : Answer program_frame (printed ∷ [])
of_the_frame =
    let words = ap (λ (f : filters.Input). words_of (kept_of f (0 ∷ []))) read ∙ kept in
    record {
      marks = 0 ∷ [];
      marked = subst (λ (f : filters.Input). Marked f (0 ∷ [])) (sym read) marked;
      labelled = subst (λ (l : List ℕ). labels.Answer (labelling l) (printed ∷ [])) (sym words) labelled;
    }

-- ---- the list

-- the computed labelling of the four quads fits, and gives corners 1 and 9 one pair

abbrev readings : List Reading
readings = map (reading four_round) (known_from four_round 0)

fits_of : {rs : List Reading} → Solves four_round 0 (some rs) → Fits cells.quads four_round 0 (label rs)
fits_of (solved s) = s.fits

claimed : (L : ℕ → Pair) × (Fits cells.quads four_round 0 L × (L 1 ≡ L 9))
claimed = (label readings, (fits_of (solve_is four_round 0 (omega arith)), refl))

pub examples : Examples
unfolding neg of_bits round add sub mul div lt eq le within series_of part_of ratio_of base_of octant_of across_of below_of angle_rule reached angle_of sig_of exp_of units units_of greatest reaches root_pattern root_of one equal less up_to incidence illegal holes places total width height held
examples =
    record {
      root_of_2 = refl;
      root_of_100 = refl;
      root_of_00000001 = refl;
      angle_10_10 = refl;
      angle_0_10 = refl;
      angle_minus_10_0 = refl;
      angle_0_0 = refl;
      in_four = (refl, refl);
      in_five = (refl, refl);
      median_of_1_1_2_2 = record { at = 2; at_lt = lit< tt; is = refl; before = lit≤ tt; after = lit< tt };
      corners_4_and_5 = example_says _ refl;
      side_run_alike = example_says _ refl;
      no_component = example_says _ refl;
      corners_1_and_9 = claimed;
      eight_entries = example_says _ refl;
      least_corners_9 = example_says _ refl;
      least_corners_8 = example_says _ refl;
      least_quads_5 = example_says _ refl;
      frame = of_the_frame;
      frame_holes = refl;
    }
