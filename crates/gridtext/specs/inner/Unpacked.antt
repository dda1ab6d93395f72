-- The words of a frame's lines in two lists, the lists that are unpacked from them, and what labelling those leaves.
use Rattle.std.specs.Prelude.{Result}
use Rattle.walk.specs.Call.{wrote}
use Rattle.std.specs.Prelude.{◌≡◌, List, ◌++◌, ℕ, ◌+◌, ◌*◌, ◌/◌, ◌%◌, length, drop, replicate}
use Rattle.std.specs.Prelude.{Ok, Err}
use Rattle.refusal.specs.declared.Refusal.{Refusal}
use Rattle.words.specs.Listing.{listing}
use Rattle.mesh.specs.Lists.{frame_words}
use Rattle.cells.specs.Listed.{Entry}
use Rattle.walk.specs.declared.Labelled.{Labelled}
use Rattle.walk.specs.Call.{all_entries}
use Rattle.walk.specs.inner.Emitting.{Written}
use Rattle.frame.specs.Stages.{Input, Answer}
use Rattle.frame.specs.Call.{judge_of}
use Rattle.gridtext.specs.declared.FrameRead.{FrameRead}
use Rattle.gridtext.specs.inner.Rows.{corner_size, triangle_size}
use Rattle.gridtext.specs.Text.{most_corner_lines, most_triangle_lines, Frame, Within, Reads}
use Rattle.gridtext.specs.inner.Read.{corner_words, triangle_words, all_words, frame_of}
use Rattle.gridtext.specs.Lists.{input_of}
use Rattle.gridtext.specs.Gridlabel.{Answered}

-- what the program's own lists have room for: components, of which each has a quad at least, and a quad takes two triangles; entries, of
-- which a quad gives four at most; and words of workspace
abbrev pub most_components : ℕ
most_components = most_triangle_lines / 2

abbrev pub most_entries : ℕ
most_entries = 4 * most_components

abbrev pub work_words : ℕ
work_words = frame_words (3 * most_triangle_lines) most_corner_lines

-- the lists begin with the words of the frame's lines
pub record Standing (corners triangles : List ℕ) (r : FrameRead) (f : Frame) : Type 0 where
  pub within : Within f
  pub read : r ≡ frame_of f
  pub past : List ℕ
  pub rest : List ℕ
  pub corners_are : corners ≡ all_words corner_words f.corners ++ past
  pub triangles_are : triangles ≡ all_words triangle_words f.triangles ++ rest

-- where a list's slot t stands among the words: one of a corner's, two of them, three of a triangle's
abbrev pub position_at : (start t : ℕ) → ℕ
position_at start t = corner_size * t + start

abbrev pub slot_at : (start t : ℕ) → ℕ
slot_at start t = corner_size * (t / 2) + 3 * (t % 2) + start

abbrev pub triple_at : (start t : ℕ) → ℕ
triple_at start t = triangle_size * (t / 3) + t % 3 + start

-- n values at the front of an array, and behind them what it was made with
abbrev pub Front : {A : Type 0} → (n room : ℕ) → A → (ℕ → A) → List A → Type 0
Front n room none value r = r ≡ listing n value ++ drop n (replicate room none)

-- what labelling leaves where no list is short
pub data Labels (i : Input) (components₀ components entries₀ entries : List ℕ) : Result Labelled Refusal → Type 0 where
  refused : {why : Refusal} → judge_of i ≡ Err why → components ≡ components₀ → entries ≡ entries₀ → Labels i components₀ components entries₀ entries (Err why)
  labelled : {k l : ℕ} → judge_of i ≡ Ok tt → (out : List (List Entry)) → Answer i out → Written out components₀ entries₀ components entries
      → k ≡ length out → l ≡ length (all_entries out) → Labels i components₀ components entries₀ entries (wrote k l)

-- of whichever frame stands there
abbrev pub LabelsStanding : (corners triangles : List ℕ) (r : FrameRead) (components₀ components entries₀ entries : List ℕ) → Result Labelled Refusal → Type 0
LabelsStanding corners triangles r components₀ components entries₀ entries answer =
    (f : Frame) → Standing corners triangles r f → Labels (input_of f) components₀ components entries₀ entries answer

abbrev pub AnswersStanding : (corners triangles : List ℕ) (r : FrameRead) (before after : List ℕ) (end : ℕ) → Type 0
AnswersStanding corners triangles r before after end = (f : Frame) → Standing corners triangles r f → (text : List ℕ) → Reads text f → Answered text before after end
