-- A frame, and the stages in a row: classes, quads, filters, labelling. Each is what its own crate defines, of what the stage before gives.
use Rattle.std.specs.Prelude.{List, ℕ, Float, length}
use Rattle.classify.specs.Classes as classes
use Rattle.classify.specs.Classes.{classes_of}
use Rattle.quads.specs.declared.Quad.{Quad}
use Rattle.quads.specs.Merge as merge
use Rattle.quads.specs.Merge.{merged_of}
use Rattle.quads.specs.Call.{words_of}
use Rattle.filter.specs.Input as filters
use Rattle.filter.specs.Marks.{Marked, kept_of}
use Rattle.cells.specs.Listed.{Entry}
use Rattle.walk.specs.Input as labels
use Rattle.frame.specs.declared.Frame.{Frame}
use Rattle.frame.specs.declared.Params.{Params}

-- all that the call reads; angles, marks and spreads have two slots a corner
pub record Input : Type 0 where
  pub xs : List Float
  pub ys : List Float
  pub angles : List Float
  pub marks : List ℕ
  pub spreads : List Float
  pub triangles : List ℕ
  pub twins : List ℕ
  pub params : Params

-- what the lists of a lent frame hold
abbrev pub given : Frame → Params → Input
given frame params =
    record {
      xs = frame.corners.x.now;
      ys = frame.corners.y.now;
      angles = frame.axes.angles.now;
      marks = frame.axes.marks.now;
      spreads = frame.axes.spreads.now;
      triangles = frame.triangles.now;
      twins = frame.twins.now;
      params = params;
    }

module _ (i : Input) where
  -- the classes are of the half-edges
  abbrev pub classing : classes.Input
  classing = record { xs = i.xs; ys = i.ys; angles = i.angles; marks = i.marks; spreads = i.spreads; triangles = i.triangles; params = i.params.edges }

  -- quads are made of triangles by these classes
  abbrev pub merging : merge.Input
  merging = record { xs = i.xs; ys = i.ys; mesh = record { triangles = i.triangles; twins = i.twins; classes = classes_of classing } }

  -- the filters look at the quads made
  abbrev pub filtering : filters.Input
  filtering = record { xs = i.xs; ys = i.ys; quads = words_of (merged_of merging); params = i.params.filters }

  -- and labelling at those kept
  abbrev pub labelling : List Quad → labels.Input
  labelling kept = record { quads = words_of kept; corners = length i.xs; params = i.params.labels }

  -- out is the components of the frame
  pub record Answer (out : List (List Entry)) : Type 0 where
    pub marks : List ℕ
    pub marked : Marked filtering marks
    pub labelled : labels.Answer (labelling (kept_of filtering marks)) out
