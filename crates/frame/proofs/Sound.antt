-- What open rows say of a frame, stage by stage: what classes, merging and the filters ask. Assumes nothing.
use mathlib.Core.Path.{◌≡◌}
use mathlib.Core.Bool.{false}
use mathlib.Core.List.{List}
use Prim.Native.Nat.{ℕ, ◌*◌, ◌≤◌, ◌<◌}
use native.Mathlib.Omega.{arith}
use lib.Ieee.{Float}
use lib.ListN.{length}
use Rattle.std.specs.Prelude.{Ok}
use Rattle.refusal.specs.Rows.{◌then◌}
use Rattle.refusal.proofs.Rows.{open_both}
use Rattle.words.proofs.Listing.{length_listing}
use Rattle.mesh.specs.Lists.{work_row, frame_words}
use Rattle.mesh.specs.Positions.{positions_row}
use Rattle.mesh.specs.Cells.{corners_row, twice_row}
use Rattle.mesh.specs.Twins.{twin_offends, twins_row}
use Rattle.mesh.proofs.Open.{work_open, positions_open, corners_open, twice_open, twins_open, twin_sound}
use Rattle.classify.specs.Call.{lengths_gate}
use Rattle.classify.specs.inner.Triangle as classes_inner
use Rattle.classify.specs.Classes.{classes_of}
use Rattle.classify.proofs.Sound as classes_sound
use Rattle.quads.specs.inner.Merging as merge_inner
use Rattle.quads.specs.Merge.{merged_of}
use Rattle.quads.proofs.Apart.{all_different}
use Rattle.quads.proofs.Made.{length_words}
use Rattle.quads.proofs.Sixth.{at_most_a_sixth}
use Rattle.filter.specs.inner.Steps as filters
use Rattle.frame.specs.Stages.{Input, classing, merging, filtering}
use Rattle.frame.specs.Call.{params_gate, values_gate, judge_of, entry_gate}
use Rattle.frame.proofs.Written.{words_exist, words_clear}

-- ---- the rows

-- rows 4 to 7
record Values (xs ys : List Float) (triangles twins : List ℕ) : Type 0 where
  positions : positions_row xs ys ≡ Ok tt
  corners : corners_row (length xs) triangles ≡ Ok tt
  twice : twice_row 3 triangles ≡ Ok tt
  paired : twins_row triangles twins ≡ Ok tt

values_open : (xs ys : List Float) (triangles twins : List ℕ) → values_gate xs ys triangles twins ≡ Ok tt → Values xs ys triangles twins
unfolding values_gate
values_open xs ys triangles twins e =
    let v1 = open_both (positions_row xs ys) (corners_row (length xs) triangles then twice_row 3 triangles then twins_row triangles twins) e in
    let v2 = open_both (corners_row (length xs) triangles) (twice_row 3 triangles then twins_row triangles twins) v1.1 in
    let v3 = open_both (twice_row 3 triangles) (twins_row triangles twins) v2.1 in
    record { positions = v1.0; corners = v2.0; twice = v3.0; paired = v3.1 }

-- row 8, apart from those before it
pub entry_open : (i : Input) (words : ℕ) → entry_gate i words ≡ Ok tt → (judge_of i ≡ Ok tt) × (frame_words (length i.triangles) (length i.xs) ≤ words)
unfolding entry_gate
entry_open i words e =
    let both = open_both (judge_of i) (work_row words (frame_words (length i.triangles) (length i.xs))) e in
    (both.0, work_open words (frame_words (length i.triangles) (length i.xs)) both.1)

module _ (i : Input) (through : judge_of i ≡ Ok tt) where
  rows : classes_sound.Paired (length i.xs) (length i.ys) (length i.angles) (length i.marks) (length i.spreads) (length i.triangles) (length i.twins) × Values i.xs i.ys i.triangles i.twins
  unfolding judge_of
  rows =
      let e1 = open_both (lengths_gate (length i.xs) (length i.ys) (length i.angles) (length i.marks) (length i.spreads) (length i.triangles) (length i.twins)) (params_gate i.params then values_gate i.xs i.ys i.triangles i.twins) through in
      let e2 = open_both (params_gate i.params) (values_gate i.xs i.ys i.triangles i.twins) e1.1 in
      (classes_sound.lengths_open _ _ _ _ _ _ _ e1.0, values_open i.xs i.ys i.triangles i.twins e2.1)

  -- ---- classes

  pub classing_sound : classes_inner.Sound (classing i)
  classing_sound =
      let (l, v) = rows in
      record {
        ys = l.y_is;
        angles = l.angles_are;
        marks = l.marks_are;
        spreads = l.spreads_are;
        whole = l.whole;
        corners = l.corners;
        edges = l.edges;
        placed = positions_open i.xs i.ys v.positions;
        named = corners_open (length i.xs) i.triangles v.corners;
      }

  -- ---- merging

  pub merging_sound : merge_inner.Sound (merging i)
  unfolding classes_of
  merging_sound =
      let (l, v) = rows in
      let back : (e : ℕ) → e < length i.triangles → twin_offends i.triangles i.twins e ≡ false = λ e h. twins_open i.triangles i.twins v.paired e (rw l.classes_are h) in
      record {
        mesh = record {
          twins = l.classes_are;
          classes = length_listing (length i.triangles) _;
          whole = l.whole;
          edges = l.edges;
          inside = λ e h some. rw l.classes_are at (twin_sound i.triangles i.twins e (back e h) some).0;
        };
        standing = record { lengths = l.y_is; placed = positions_open i.xs i.ys v.positions };
        corners = l.corners;
        named = corners_open (length i.xs) i.triangles v.corners;
        differ = twice_open 3 i.triangles v.twice;
        back = back;
      }

  pub made_few : 6 * length (merged_of (merging i)) ≤ length i.triangles
  made_few = at_most_a_sixth (merging i) merging_sound

  -- ---- the filters

  pub filtering_sound : filters.Sound (filtering i)
  filtering_sound =
      let qs = merged_of (merging i) in
      let corners = length i.xs in
      let each = all_different (merging i) merging_sound in
      let s = classing_sound in
      record {
        paired = s.ys;
        whole = omega (arith, length_words qs);
        corners = s.corners;
        few = omega (arith, length_words qs, made_few, s.edges);
        named = words_exist corners qs each;
        differ = λ q h. words_clear corners qs each q (omega (arith, length_words qs));
      }
