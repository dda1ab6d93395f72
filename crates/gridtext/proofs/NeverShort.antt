-- The lists of a text's frame and the program's own are never the cause of a refusal (`never_short`): the lists belong together and are
-- within the limits, the workspace is wide enough, and a frame of 256 triangles has at most 128 quads, so at most 128 components and 512
-- entries. Assumes nothing.
use mathlib.Core.Path.{◌≡◌, refl, ◌∙◌}
use mathlib.Core.List.{List, [], ◌∷◌, flat_map}
use Prim.Native.Nat.{ℕ, ◌*◌, ◌/◌, ◌%◌, ◌≤◌}
use native.Mathlib.Omega.{arith}
use borrow.Author.Tests.{eq-eqb, le-ltb}
use lib.ListN.{length, length-append, length-map}
use Rattle.std.specs.Prelude.{Ok}
use Rattle.refusal.specs.Rows.{◌then◌}
use Rattle.mesh.specs.Lists.{work_row, frame_words}
use Rattle.quads.specs.declared.Quad.{Quad}
use Rattle.quads.specs.Call.{words_of}
use Rattle.quads.proofs.Made.{length_words}
use Rattle.filter.specs.Marks.{kept_of}
use Rattle.cells.specs.Listed.{Entry}
use Rattle.walk.specs.Input.{grouping}
use Rattle.walk.specs.Call.{all_entries, room_row, entries_row}
use Rattle.frame.specs.Stages.{filtering, labelling, Answer}
use Rattle.classify.specs.Call.{lengths_gate}
use Rattle.frame.specs.Call.{judge_of}
use Rattle.frame.proofs.Sound.{made_few}
use Rattle.frame.proofs.Labelling.{kept_less}
use Rattle.gridtext.specs.Lines.{CornerLine, TriangleLine}
use Rattle.gridtext.specs.Text.{Frame, Within}
use Rattle.gridtext.specs.Lists.{input_of}
use Rattle.gridtext.specs.inner.Unpacked.{most_components, most_entries, work_words}
use Rattle.gridtext.proofs.FewEntries.{few}

pub record NeverShort (f : Frame) : Type 0 where
  -- rows 1 and 2
  pub paired : lengths_gate (length (input_of f).xs) (length (input_of f).ys) (length (input_of f).angles) (length (input_of f).marks) (length (input_of f).spreads) (length (input_of f).triangles) (length (input_of f).twins) ≡ Ok tt
  -- row 8
  pub wide : (words : ℕ) → work_words ≤ words → work_row words (frame_words (length (input_of f).triangles) (length (input_of f).xs)) ≡ Ok tt
  -- rows 9 and 10
  pub roomy : judge_of (input_of f) ≡ Ok tt → (out : List (List Entry)) → Answer (input_of f) out → (components entries : ℕ) → 3 * most_components ≤ components → 3 * most_entries ≤ entries
      → (room_row components (length out) then entries_row entries (length (all_entries out))) ≡ Ok tt

-- ---- lengths

flat_length : {A B : Type 0} (slots : A → List B) (per : ℕ) → ((a : A) → length (slots a) ≡ per) → (l : List A) → length (flat_map slots l) ≡ per * length l
unfolding flat_map
flat_length slots per each [] = omega arith
flat_length slots per each (a ∷ l) = length-append (slots a) (flat_map slots l) ∙ omega (arith, each a, flat_length slots per each l)

pair_up : (x t : ℕ) → x ≤ 4096 → t ≤ 8192 → lengths_gate x x (2 * x) (2 * x) (2 * x) (3 * t) (3 * t) ≡ Ok tt
unfolding lengths_gate
pair_up x t h l =
    let whole : 3 * t % 3 ≡ 0 = omega arith in
    rw (eq-eqb x x refl, eq-eqb (2 * x) (2 * x) refl, eq-eqb (3 * t % 3) 0 whole, eq-eqb (3 * t) (3 * t) refl, le-ltb 4096 x h, le-ltb 24576 (3 * t) (omega arith))

module _ (f : Frame) (within : Within f) where
  corners_length : length (input_of f).xs ≡ length f.corners
  unfolding input_of
  corners_length = length-map f.corners _

  triangles_length : length (input_of f).triangles ≡ 3 * length f.triangles
  unfolding input_of
  triangles_length = flat_length _ 3 (λ t. refl) f.triangles

  lists_pair : lengths_gate (length (input_of f).xs) (length (input_of f).ys) (length (input_of f).angles) (length (input_of f).marks) (length (input_of f).spreads) (length (input_of f).triangles) (length (input_of f).twins) ≡ Ok tt
  unfolding input_of
  lists_pair = rw (
    length-map f.corners _,
    length-map f.corners _,
    flat_length {A = CornerLine} _ 2 (λ c. refl) f.corners,
    flat_length {A = CornerLine} _ 2 (λ c. refl) f.corners,
    flat_length {A = CornerLine} _ 2 (λ c. refl) f.corners,
    flat_length {A = TriangleLine} _ 3 (λ t. refl) f.triangles,
    flat_length {A = TriangleLine} _ 3 (λ t. refl) f.triangles,
  ) (pair_up (length f.corners) (length f.triangles) (omega (arith, within.corners)) (omega (arith, within.triangles)))

  -- ---- an answer is small

  module _ (through : judge_of (input_of f) ≡ Ok tt) (out : List (List Entry)) (a : Answer (input_of f) out) where
    abbrev keeps : List Quad
    keeps = kept_of (filtering (input_of f)) a.marks

    few_quads : length keeps ≤ most_components
    few_quads = omega (arith, kept_less (input_of f) a.marks, made_few (input_of f) through, triangles_length, within.triangles)

    pub small_answer : (length out ≤ most_components) × (length (all_entries out) ≤ most_entries)
    small_answer =
        let r = few (words_of keeps) (grouping (labelling (input_of f) keeps) a.labelled.number) refl a.labelled.groups out a.labelled.components in
        let n : length (words_of keeps) / 4 ≤ most_components = omega (arith, length_words keeps, few_quads) in
        (omega (arith, r.0), omega (arith, r.1))

    rooms_open : (components entries : ℕ) → 3 * most_components ≤ components → 3 * most_entries ≤ entries → (room_row components (length out) then entries_row entries (length (all_entries out))) ≡ Ok tt
    rooms_open components entries h l = rw (le-ltb (components / 3) (length out) (omega (arith, small_answer.0)), le-ltb (entries / 3) (length (all_entries out)) (omega (arith, small_answer.1)))

  pub never_short : NeverShort f
  never_short = record {
    paired = lists_pair;
    wide = λ words h. rw (le-ltb words (frame_words (length (input_of f).triangles) (length (input_of f).xs)) (omega (arith, corners_length, triangles_length, within.corners, within.triangles)));
    roomy = rooms_open;
  }
