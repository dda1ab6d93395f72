-- What reading a text leaves: the number of its first bad line, or its frame: the parameters, and the other lines as words in the front of
-- two lists.
use Rattle.std.specs.Prelude.{◌≡◌, List, [], ◌∷◌, ◌++◌, ℕ, ◌≤◌, ◌<◌, Option, Some, None, Result, Ok, Err, length, take, drop}
use Rattle.cells.specs.Listed.{In}
use Rattle.frame.specs.declared.Params.{Params}
use Rattle.gridtext.specs.declared.FrameRead.{FrameRead}
use Rattle.gridtext.specs.declared.BadLine.{BadLine}
use Rattle.gridtext.specs.declared.inner.row.Sort.{Sort}
use Rattle.gridtext.specs.Lines.{Optional, ParamsLine, CornerLine, TriangleLine, Line, line_of, printed, LineWords}
use Rattle.gridtext.specs.inner.Rows.{spread_words}
use Rattle.gridtext.specs.Lists.{twin_word, rule_of, params_of}
use Rattle.gridtext.specs.Text.{Frame, Reads, Bad}

-- ---- the words of lines

unfoldable pub param_words : ParamsLine → (rule : List ℕ) → List ℕ
param_words p rule = p.tolerance ∷ p.ratio ∷ p.least ∷ p.greatest ∷ p.limit ∷ p.quads ∷ p.corners ∷ rule

-- a rule that is left out gives no word
unfoldable pub rule_words : Optional → List ℕ
rule_words Optional.absent = []
rule_words (Optional.given v) = v ∷ []

-- all parameters, the rule that counts among them
unfoldable pub all_params : ParamsLine → List ℕ
all_params p = param_words p (rule_of p.rule ∷ [])

unfoldable pub corner_words : CornerLine → List ℕ
corner_words c = c.x ∷ c.y ∷ c.angle0 ∷ (spread_words c.spread0 ++ (c.angle1 ∷ spread_words c.spread1))

unfoldable pub triangle_words : TriangleLine → List ℕ
triangle_words t = t.a ∷ t.b ∷ t.c ∷ twin_word t.twin0 ∷ twin_word t.twin1 ∷ twin_word t.twin2 ∷ []

unfoldable pub line_words : Line → List ℕ
line_words (Line.params p) = param_words p (rule_words p.rule)
line_words (Line.corner c) = corner_words c
line_words (Line.triangle t) = triangle_words t

-- those of several, one after the other
unfoldable pub all_words : {A : Type 0} → (A → List ℕ) → List A → List ℕ
all_words words [] = []
all_words words (a ∷ as') = words a ++ all_words words as'

-- the list begins with these words, and the rest of it is as it was
abbrev pub Laid : List ℕ → List ℕ → List ℕ → Type 0
Laid words before after = after ≡ words ++ drop (length words) before

-- these are the parameters of every P line whose words, with the rule that counts, the list begins with
abbrev pub ParamsStanding : List ℕ → Params → Type 0
ParamsStanding words params = (p : ParamsLine) → take (length (all_params p)) words ≡ all_params p → params ≡ params_of p

-- ---- one line of a sort, and a run of them

-- a P line is of one sort or another as it gives the rule or not
unfoldable pub params_sort : Optional → Sort
params_sort Optional.absent = Sort.Params
params_sort (Optional.given v) = Sort.Ruled

unfoldable pub sort_of : Line → Sort
sort_of (Line.params p) = params_sort p.rule
sort_of (Line.corner c) = Sort.Corner
sort_of (Line.triangle t) = Sort.Triangle

pub record Of (sort : Sort) (l : Line) : Type 0 where
  pub is : sort_of l ≡ sort
  pub words : LineWords l

abbrev pub NoLine : Sort → List ℕ → ℕ → Type 0
NoLine sort text at = (l : Line) (rest : List ℕ) → Of sort l → drop at text ≡ line_of l ++ (10 ∷ rest) → ⊥

-- from `at` on stands a line of the sort, whose words the list begins with, or no such line
pub record LineStands (text : List ℕ) (at : ℕ) (l : Line) (next : ℕ) : Type 0 where
  pub is : drop at text ≡ line_of l ++ (10 ∷ drop next text)
  pub within : next ≤ length text

pub data LineAt (sort : Sort) (text : List ℕ) (at : ℕ) (out : List ℕ) : Option ℕ → Type 0 where
  nothing : NoLine sort text at → LineAt sort text at out None
  found : {l : Line} {next : ℕ} → Of sort l → LineStands text at l next → take (length (line_words l)) out ≡ line_words l → LineAt sort text at out (Some next)

-- the text begins with a P line, whose parameters the list begins with, or with none
pub data ParamsAt (text out : List ℕ) : Option ℕ → Type 0 where
  nothing : NoLine Sort.Params text 0 → NoLine Sort.Ruled text 0 → ParamsAt text out None
  found : {p : ParamsLine} {next : ℕ} → LineWords (Line.params p) → LineStands text 0 (Line.params p) next → take (length (all_params p)) out ≡ all_params p → ParamsAt text out (Some next)

-- from `at` on stand so many lines of the sort, as many as there are or `most` of them; their words are laid
pub record LinesAt (sort : Sort) (most : ℕ) (text : List ℕ) (at : ℕ) (before after : List ℕ) (count next : ℕ) : Type 0 where
  pub lines : List Line
  pub each : (l : Line) → In l lines → Of sort l
  pub number : count ≡ length lines
  pub few : count ≤ most
  pub is : drop at text ≡ printed lines ++ drop next text
  pub within : next ≤ length text
  pub laid : Laid (all_words line_words lines) before after
  pub same : length after ≡ length before
  pub ends : count < most → NoLine sort text next

-- ---- the whole text

unfoldable pub frame_of : Frame → FrameRead
frame_of f = record { params = params_of f.params; corners = length f.corners; triangles = length f.triangles }

-- where the text is bad, the lists may hold anything: nobody reads them then
pub data Parses (text corners₀ corners triangles₀ triangles : List ℕ) : Result FrameRead BadLine → Type 0 where
  bad : {b : BadLine} → Bad text b.line → length corners ≡ length corners₀ → length triangles ≡ length triangles₀ → Parses text corners₀ corners triangles₀ triangles (Err b)
  read : {r : FrameRead}
      (f : Frame)
      → Reads text f
      → r ≡ frame_of f
      → Laid (all_words corner_words f.corners) corners₀ corners
      → Laid (all_words triangle_words f.triangles) triangles₀ triangles
      → Parses text corners₀ corners triangles₀ triangles (Ok r)
