-- What labelling asks of the quads that the filters keep: few, of four different corners that exist, and room for them in a frame's workspace.
-- Assumes nothing.
use mathlib.Core.Path.{◌≡◌, refl}
use mathlib.Core.List.{List}
use Prim.Native.Nat.{ℕ, ◌≤◌, max}
use native.Mathlib.Omega.{arith}
use lib.ListN.{length, get_or}
use Rattle.std.specs.Prelude.{Ok}
use Rattle.mesh.specs.Lists.{most_quads, quad_words, frame_words}
use Rattle.quads.specs.declared.Quad.{Quad}
use Rattle.quads.specs.Call.{words_of}
use Rattle.quads.specs.Merge.{merged_of}
use Rattle.quads.proofs.Made.{length_words}
use Rattle.filter.specs.Input.{quad_count}
use Rattle.filter.specs.Marks.{kept_of}
use Rattle.filter.proofs.Kept.{kept_le}
use Rattle.filter.proofs.Picked.{kept_different}
use Rattle.laying.specs.inner.Layout.{Given}
use Rattle.frame.specs.Stages.{Input, merging, filtering}
use Rattle.frame.specs.Call.{judge_of}
use Rattle.frame.proofs.Written.{words_exist, words_distinct}
use Rattle.frame.proofs.Sound.{classing_sound, merging_sound, made_few}

-- no more are kept than made
pub kept_less : (i : Input) (marks : List ℕ) → length (kept_of (filtering i) marks) ≤ length (merged_of (merging i))
unfolding kept_of
kept_less i marks = omega (arith, kept_le (filtering i).quads (λ (q : ℕ). get_or marks q 0) (quad_count (filtering i)), length_words (merged_of (merging i)))

module _ (i : Input) (through : judge_of i ≡ Ok tt) (marks : List ℕ) where
  abbrev kept : List Quad
  kept = kept_of (filtering i) marks

  pub kept_few : length kept ≤ most_quads
  kept_few = omega (arith, (classing_sound i through).edges, made_few i through, kept_less i marks)

  pub kept_given : Given (max (length kept) (length i.xs)) (words_of kept) (length kept)
  kept_given =
      let corners = length i.xs in
      let each = kept_different (merging i) (merging_sound i through) (filtering i) marks refl in
      let s = classing_sound i through in
      record {
        whole = length_words kept;
        few = omega arith;
        most = omega (arith, s.corners, kept_few);
        below = λ k h. omega (arith, words_exist corners kept each k h);
        distinct = words_distinct corners kept each;
      }

  -- a frame's workspace has room for the filters and for labelling
  pub kept_room : quad_words (length kept) (length i.xs) ≤ frame_words (length i.triangles) (length i.xs)
  kept_room = omega (arith, made_few i through, kept_less i marks)
