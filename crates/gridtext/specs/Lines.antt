-- Document 01's lines, and how each is printed. Floats are eight upper-case hex digits, a minus is a missing spread or no twin, all else is
-- decimal; one blank stands between. The number of document 02's spread rule may end the P line.
use Rattle.std.specs.Prelude.{List, [], ◌∷◌, ◌++◌, ℕ, ◌<◌}
use Rattle.digits.specs.Digits.{hex_of, decimal_of}

-- a field that a minus can stand for
pub data Field : Type 0 where
  minus : Field
  word : ℕ → Field

-- a field that may be left out
pub data Optional : Type 0 where
  absent : Optional
  given : ℕ → Optional

-- tolerance, ratio, least, greatest, spread limit, by their bits; then least quads and least corners; then the spread rule's number, or nothing
pub record ParamsLine : Type 0 where
  pub tolerance : ℕ
  pub ratio : ℕ
  pub least : ℕ
  pub greatest : ℕ
  pub limit : ℕ
  pub quads : ℕ
  pub corners : ℕ
  pub rule : Optional

-- x, y, angle, spread, angle, spread
pub record CornerLine : Type 0 where
  pub x : ℕ
  pub y : ℕ
  pub angle0 : ℕ
  pub spread0 : Field
  pub angle1 : ℕ
  pub spread1 : Field

-- three corners, three twins
pub record TriangleLine : Type 0 where
  pub a : ℕ
  pub b : ℕ
  pub c : ℕ
  pub twin0 : Field
  pub twin1 : Field
  pub twin2 : Field

pub data Line : Type 0 where
  params : ParamsLine → Line
  corner : CornerLine → Line
  triangle : TriangleLine → Line

-- ---- printed

unfoldable pub field_of : (ℕ → List ℕ) → Field → List ℕ
field_of form Field.minus = 45 ∷ []
field_of form (Field.word v) = form v

unfoldable pub optional_of : Optional → List (List ℕ)
optional_of Optional.absent = []
optional_of (Optional.given v) = decimal_of v ∷ []

-- a letter and fields, with one blank before each field
unfoldable pub spaced : List (List ℕ) → List ℕ
spaced [] = []
spaced (f ∷ fs) = 32 ∷ (f ++ spaced fs)

unfoldable pub line_of : Line → List ℕ
line_of (Line.params p) =
    80 ∷ spaced (hex_of p.tolerance ∷ hex_of p.ratio ∷ hex_of p.least ∷ hex_of p.greatest ∷ hex_of p.limit ∷ decimal_of p.quads ∷ decimal_of p.corners ∷ optional_of p.rule)
line_of (Line.corner c) =
    67 ∷ spaced (hex_of c.x ∷ hex_of c.y ∷ hex_of c.angle0 ∷ field_of hex_of c.spread0 ∷ hex_of c.angle1 ∷ field_of hex_of c.spread1 ∷ [])
line_of (Line.triangle t) =
    84 ∷ spaced (decimal_of t.a ∷ decimal_of t.b ∷ decimal_of t.c ∷ field_of decimal_of t.twin0 ∷ field_of decimal_of t.twin1 ∷ field_of decimal_of t.twin2 ∷ [])

-- each line ended by a line feed
unfoldable pub printed : List Line → List ℕ
printed [] = []
printed (l ∷ ls) = line_of l ++ (10 ∷ printed ls)

-- ---- values are words of 32 bits

abbrev pub IsWord : ℕ → Type 0
IsWord v = v < 4294967296

pub data WordField : Field → Type 0 where
  minus : WordField Field.minus
  word : {v : ℕ} → IsWord v → WordField (Field.word v)

pub data WordOptional : Optional → Type 0 where
  absent : WordOptional Optional.absent
  given : {v : ℕ} → IsWord v → WordOptional (Optional.given v)

pub record ParamsWords (p : ParamsLine) : Type 0 where
  pub tolerance : IsWord p.tolerance
  pub ratio : IsWord p.ratio
  pub least : IsWord p.least
  pub greatest : IsWord p.greatest
  pub limit : IsWord p.limit
  pub quads : IsWord p.quads
  pub corners : IsWord p.corners
  pub rule : WordOptional p.rule

pub record CornerWords (c : CornerLine) : Type 0 where
  pub x : IsWord c.x
  pub y : IsWord c.y
  pub angle0 : IsWord c.angle0
  pub spread0 : WordField c.spread0
  pub angle1 : IsWord c.angle1
  pub spread1 : WordField c.spread1

pub record TriangleWords (t : TriangleLine) : Type 0 where
  pub a : IsWord t.a
  pub b : IsWord t.b
  pub c : IsWord t.c
  pub twin0 : WordField t.twin0
  pub twin1 : WordField t.twin1
  pub twin2 : WordField t.twin2

pub data LineWords : Line → Type 0 where
  params : {p : ParamsLine} → ParamsWords p → LineWords (Line.params p)
  corner : {c : CornerLine} → CornerWords c → LineWords (Line.corner c)
  triangle : {t : TriangleLine} → TriangleWords t → LineWords (Line.triangle t)
