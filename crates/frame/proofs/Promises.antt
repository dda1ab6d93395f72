-- What merging and the filters promise holds in a frame, from its rows alone: every quad that labelling sees has the corners of two paired
-- triangles in document 01's order (`seen_ordered`), and the length of every side that the filters look at is a root (`sides_rooted`).
-- Assumes nothing.
use mathlib.Core.Path.{◌≡◌, refl}
use mathlib.Core.List.{List, Memᴰ}
use Prim.Native.Nat.{ℕ, ◌<◌}
use Rattle.std.specs.Prelude.{Ok}
use Rattle.quads.specs.declared.Quad.{Quad}
use Rattle.quads.specs.Arranged.{Arranged}
use Rattle.filter.specs.Input.{quad_count}
use Rattle.filter.specs.Marks.{kept_of}
use Rattle.filter.specs.Rooted.{Rooted}
use Rattle.quads.specs.Merge.{merged_of}
use Rattle.quads.proofs.Ordered.{all_ordered}
use Rattle.filter.proofs.Picked.{kept_from}
use Rattle.filter.proofs.SideRoots.{standing_root}
use Rattle.frame.specs.Stages.{Input, merging, filtering}
use Rattle.frame.specs.Call.{judge_of}
use Rattle.frame.proofs.Sound.{merging_sound, filtering_sound}

module _ (i : Input) (through : judge_of i ≡ Ok tt) where
  pub seen_ordered : (marks : List ℕ) (q : Quad) → Memᴰ q (kept_of (filtering i) marks) → Arranged (merging i) q
  seen_ordered marks q k = all_ordered (merging i) (merging_sound i through) q (kept_from (filtering i) marks (merged_of (merging i)) refl q k)

  pub sides_rooted : (q k : ℕ) → q < quad_count (filtering i) → Rooted (filtering i) q k
  sides_rooted = standing_root (filtering i) (merging_sound i through).standing (filtering_sound i through)
