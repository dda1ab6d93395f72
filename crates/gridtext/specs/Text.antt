-- A text as lines: it is read where it is the printed form of lines that fit, and else its first bad line is the one that no line fitting
-- behind those before it stands at. The P line comes first and once, then all C lines, then all T lines.
use Rattle.std.specs.Prelude.{◌≡◌, List, [], ◌∷◌, ◌++◌, map, ℕ, suc, ◌≤◌, length}
use Rattle.cells.specs.Listed.{In}
use Rattle.gridtext.specs.Lines.{ParamsLine, CornerLine, TriangleLine, Line, printed, line_of, LineWords}

-- at most 128 corners and 256 triangles
abbrev pub most_corner_lines : ℕ
most_corner_lines = 128

abbrev pub most_triangle_lines : ℕ
most_triangle_lines = 256

-- the lines of a frame
pub record Frame : Type 0 where
  pub params : ParamsLine
  pub corners : List CornerLine
  pub triangles : List TriangleLine

abbrev pub lines_of : Frame → List Line
lines_of f = Line.params f.params ∷ (map Line.corner f.corners ++ map Line.triangle f.triangles)

pub record Within (f : Frame) : Type 0 where
  pub corners : length f.corners ≤ most_corner_lines
  pub triangles : length f.triangles ≤ most_triangle_lines
  pub words : (l : Line) → In l (lines_of f) → LineWords l

-- lines that a text can begin with
pub data Fitting : List Line → Type 0 where
  none : Fitting []
  some : (f : Frame) → Within f → Fitting (lines_of f)

-- the text is a frame's
pub record Reads (text : List ℕ) (f : Frame) : Type 0 where
  pub within : Within f
  pub is : text ≡ printed (lines_of f)

-- the first bad line has number k: the text begins with the k - 1 lines before it, and what follows them does not begin with a line that
-- fits behind them; it is not the end of the text either, unless nothing stands before it
pub record Bad (text : List ℕ) (k : ℕ) : Type 0 where
  pub before : List Line
  pub fits : Fitting before
  pub rest : List ℕ
  pub is : text ≡ printed before ++ rest
  pub number : k ≡ suc (length before)
  pub ends : rest ≡ [] → before ≡ []
  pub stuck : (l : Line) (after : List ℕ) → rest ≡ line_of l ++ (10 ∷ after) → Fitting (before ++ (l ∷ [])) → ⊥
