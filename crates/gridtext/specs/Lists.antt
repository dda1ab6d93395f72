-- The lists of a frame that was read: floats by their bits; angles, marks and spreads two slots a corner, slot 0 first; corners and twins
-- three a triangle.
use mathlib.Core.List.{[], ◌∷◌, map, flat_map}
use Rattle.std.specs.Prelude.{ℕ}
use Rattle.measure.specs.Float.{bits}
use Rattle.mesh.specs.HalfEdge.{no_twin}
use Rattle.frame.specs.declared.Params.{Params}
use Rattle.frame.specs.Stages.{Input}
use Rattle.gridtext.specs.Lines.{Field, Optional, ParamsLine, CornerLine, TriangleLine}
use Rattle.gridtext.specs.Text.{Frame}

-- a mark of 0 says that the spread beside it is missing
unfoldable pub mark_of : Field → ℕ
mark_of Field.minus = 0
mark_of (Field.word v) = 1

unfoldable pub word_of : Field → ℕ
word_of Field.minus = 0
word_of (Field.word v) = v

-- a minus is no twin
unfoldable pub twin_word : Field → ℕ
twin_word Field.minus = no_twin
twin_word (Field.word v) = v

-- a rule that is left out is rule 1
unfoldable pub rule_of : Optional → ℕ
rule_of Optional.absent = 1
rule_of (Optional.given v) = v

unfoldable pub params_of : ParamsLine → Params
params_of p = record {
  edges = record { tolerance = bits p.tolerance; spread = record { number = rule_of p.rule; limit = bits p.limit } };
  filters = record { ratio = bits p.ratio; least = bits p.least; greatest = bits p.greatest };
  labels = record { quads = p.quads; corners = p.corners };
}

unfoldable pub input_of : Frame → Input
input_of f = record {
  xs = map (λ (c : CornerLine). bits c.x) f.corners;
  ys = map (λ (c : CornerLine). bits c.y) f.corners;
  angles = flat_map (λ (c : CornerLine). bits c.angle0 ∷ bits c.angle1 ∷ []) f.corners;
  marks = flat_map (λ (c : CornerLine). mark_of c.spread0 ∷ mark_of c.spread1 ∷ []) f.corners;
  spreads = flat_map (λ (c : CornerLine). bits (word_of c.spread0) ∷ bits (word_of c.spread1) ∷ []) f.corners;
  triangles = flat_map (λ (t : TriangleLine). t.a ∷ t.b ∷ t.c ∷ []) f.triangles;
  twins = flat_map (λ (t : TriangleLine). twin_word t.twin0 ∷ twin_word t.twin1 ∷ twin_word t.twin2 ∷ []) f.triangles;
  params = params_of f.params;
}
