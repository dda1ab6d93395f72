-- The lists unpacked from the words of lines are the frame's (`unpacked_input`): each line's slots stand at places of its words, and the
-- next line's so many words on. Assumes nothing.
use mathlib.Core.Path.{◌≡◌, refl, sym, ap, ap₂, ◌∙◌}
use mathlib.Core.List.{List, [], ◌∷◌, ◌++◌, append_assoc, map, flat_map}
use Prim.Native.Nat.{ℕ, zero, suc, ◌+◌, ◌*◌, ◌≤◌}
use native.Mathlib.Omega.{arith}
use lib.Ieee.{Float}
use lib.ListN.{length, get_or, take, length-append}
use lib.Seq.{get_or-append-add}
use Rattle.words.specs.Listing.{listing}
use Rattle.measure.specs.Float.{bits}
use Rattle.frame.specs.Stages.{Input}
use Rattle.gridtext.specs.declared.FrameRead.{FrameRead}
use Rattle.gridtext.specs.Lines.{Field, CornerLine, TriangleLine, Line}
use Rattle.gridtext.specs.inner.Rows.{corner_size, triangle_size, spread_words}
use Rattle.gridtext.specs.Lists.{twin_word, word_of, mark_of, input_of}
use Rattle.gridtext.specs.Text.{most_corner_lines, most_triangle_lines, Frame}
use Rattle.gridtext.specs.inner.Read.{corner_words, triangle_words, line_words, all_words, sort_of, frame_of}
use Rattle.gridtext.specs.inner.Unpacked.{Standing, position_at, slot_at, triple_at, Front}
use Rattle.gridtext.proofs.Runs.{line_size}
use Rattle.gridtext.proofs.Filling.{front_taken}

-- ---- listings

module _ {A : Type 0} where
  listing_same : (n : ℕ) (f g : ℕ → A) → ((t : ℕ) → f t ≡ g t) → listing n f ≡ listing n g
  unfolding listing
  listing_same zero f g h = refl
  listing_same (suc n) f g h = ap₂ ◌∷◌ (h 0) (listing_same n (λ (k : ℕ). f (suc k)) (λ (k : ℕ). g (suc k)) (λ t. h (suc t)))

  listing_append : (m n : ℕ) (f : ℕ → A) → listing (m + n) f ≡ listing m f ++ listing n (λ (t : ℕ). f (m + t))
  unfolding listing
  listing_append zero n f = let e : 0 + n ≡ n = omega arith in rw e (listing_same n f (λ (t : ℕ). f (0 + t)) (λ t. let z : t ≡ 0 + t = omega arith in ap f z))
  listing_append (suc m) n f =
      let e : suc m + n ≡ suc (m + n) = omega arith in
      rw e (ap (λ (l : List A). f 0 ∷ l) (listing_append m n (λ (k : ℕ). f (suc k)) ∙ ap (λ (l : List A). listing m (λ (k : ℕ). f (suc k)) ++ l) (listing_same n (λ (t : ℕ). f (suc (m + t))) (λ (t : ℕ). f (suc m + t)) (λ t. let z : suc (m + t) ≡ suc m + t = omega arith in ap f z))))

flat_map_lem : {A B : Type 0} (f : A → B) (l : List A) → flat_map (λ (a : A). f a ∷ []) l ≡ map f l
unfolding flat_map
flat_map_lem f [] = refl
flat_map_lem f (a ∷ l) = ap (λ (r : List _). f a ∷ r) (flat_map_lem f l)

-- ---- one law for all lists: `per` slots a line of `size` words

module _ {A B : Type 0} (words : A → List ℕ) (slots : A → List B) (size per : ℕ) (place : ℕ → ℕ) (value : ℕ → B)
    (sized : (a : A) → length (words a) ≡ size) (onward : (t : ℕ) → place (per + t) ≡ size + place t)
    (own : (a : A) (rest : List ℕ) → listing per (λ (t : ℕ). value (get_or (words a ++ rest) (place t) 0)) ≡ slots a) where
  unpacked : (lines : List A) (rest : List ℕ) → listing (per * length lines) (λ (t : ℕ). value (get_or (all_words words lines ++ rest) (place t) 0)) ≡ flat_map slots lines
  unfolding all_words flat_map listing
  unpacked [] rest = let e : per * 0 ≡ 0 = omega arith in rw e
  unpacked (a ∷ lines) rest =
      let e : per * suc (length lines) ≡ per + per * length lines = omega arith in
      let tail = all_words words lines ++ rest in
      rw (e, append_assoc) (
      listing_append per (per * length lines) (λ (t : ℕ). value (get_or (words a ++ tail) (place t) 0))
      ∙ ap₂ ◌++◌ (own a tail) (
      listing_same (per * length lines) (λ (t : ℕ). value (get_or (words a ++ tail) (place (per + t)) 0)) (λ (t : ℕ). value (get_or tail (place t) 0))
      (λ t. ap value (ap (get_d' (words a ++ tail)) (onward t ∙ ap (λ (k : ℕ). k + place t) (sym (sized a))) ∙ get_or-append-add (words a) tail (place t) 0))
      ∙ unpacked lines rest
      )
      )
    where
      get_d' : List ℕ → ℕ → ℕ
      get_d' l k = get_or l k 0

-- ---- the lines' words

all_sized : {A : Type 0} (words : A → List ℕ) (size : ℕ) → ((a : A) → length (words a) ≡ size) → (lines : List A) → length (all_words words lines) ≡ size * length lines
unfolding all_words
all_sized words size sized [] = omega arith
all_sized words size sized (a ∷ lines) = length-append (words a) (all_words words lines) ∙ omega (arith, sized a, all_sized words size sized lines)

corner_size_lem : (c : CornerLine) → length (corner_words c) ≡ corner_size
unfolding line_words sort_of
corner_size_lem c = line_size (Line.corner c)

triangle_size_lem : (t : TriangleLine) → length (triangle_words t) ≡ triangle_size
unfolding line_words sort_of
triangle_size_lem t = line_size (Line.triangle t)

module _ {B : Type 0} (value : ℕ → B) where
  position_own : (c : CornerLine) (rest : List ℕ) → (listing 1 (λ (t : ℕ). value (get_or (corner_words c ++ rest) (position_at 0 t) 0)) ≡ value c.x ∷ []) × (listing 1 (λ (t : ℕ). value (get_or (corner_words c ++ rest) (position_at 1 t) 0)) ≡ value c.y ∷ [])
  unfolding listing corner_words
  position_own c rest = (refl, refl)

  -- the marks' words and the spreads' stand after the angles'
  slot_own : (c : CornerLine) (rest : List ℕ)
      → (listing 2 (λ (t : ℕ). value (get_or (corner_words c ++ rest) (slot_at 2 t) 0)) ≡ value c.angle0 ∷ value c.angle1 ∷ [])
      × (listing 2 (λ (t : ℕ). value (get_or (corner_words c ++ rest) (slot_at 3 t) 0)) ≡ value (mark_of c.spread0) ∷ value (mark_of c.spread1) ∷ [])
      × (listing 2 (λ (t : ℕ). value (get_or (corner_words c ++ rest) (slot_at 4 t) 0)) ≡ value (word_of c.spread0) ∷ value (word_of c.spread1) ∷ [])
  unfolding listing corner_words spread_words mark_of word_of
  slot_own c rest = go c.spread0 c.spread1
    where
      at : Field → Field → ℕ → ℕ → B
      at a b start t = value (get_or ((c.x ∷ c.y ∷ c.angle0 ∷ (spread_words a ++ (c.angle1 ∷ spread_words b))) ++ rest) (slot_at start t) 0)

      go : (a b : Field)
          → (at a b 2 0 ∷ at a b 2 1 ∷ [] ≡ value c.angle0 ∷ value c.angle1 ∷ [])
          × (at a b 3 0 ∷ at a b 3 1 ∷ [] ≡ value (mark_of a) ∷ value (mark_of b) ∷ [])
          × (at a b 4 0 ∷ at a b 4 1 ∷ [] ≡ value (word_of a) ∷ value (word_of b) ∷ [])
      go Field.minus Field.minus = (refl, refl, refl)
      go Field.minus (Field.word w) = (refl, refl, refl)
      go (Field.word v) Field.minus = (refl, refl, refl)
      go (Field.word v) (Field.word w) = (refl, refl, refl)

triple_own : (t : TriangleLine) (rest : List ℕ)
    → (listing 3 (λ (k : ℕ). get_or (triangle_words t ++ rest) (triple_at 0 k) 0) ≡ t.a ∷ t.b ∷ t.c ∷ [])
    × (listing 3 (λ (k : ℕ). get_or (triangle_words t ++ rest) (triple_at 3 k) 0) ≡ twin_word t.twin0 ∷ twin_word t.twin1 ∷ twin_word t.twin2 ∷ [])
unfolding listing triangle_words
triple_own t rest = (refl, refl)

-- ---- the frame's lists

module _ (corners triangles : List ℕ) (r : FrameRead) (f : Frame) (s : Standing corners triangles r f) where
  many_corners : r.corners ≡ length f.corners
  unfolding frame_of
  many_corners = ap (λ (q : FrameRead). q.corners) s.read

  many_triangles : r.triangles ≡ length f.triangles
  unfolding frame_of
  many_triangles = ap (λ (q : FrameRead). q.triangles) s.read

  -- one, two or three slots a line
  ones : (start : ℕ) (at : CornerLine → ℕ) → ((c : CornerLine) (rest : List ℕ) → listing 1 (λ (t : ℕ). bits (get_or (corner_words c ++ rest) (position_at start t) 0)) ≡ bits (at c) ∷ [])
      → listing r.corners (λ (t : ℕ). bits (get_or corners (position_at start t) 0)) ≡ map (λ (c : CornerLine). bits (at c)) f.corners
  ones start at own =
      let e : 1 * length f.corners ≡ length f.corners = omega arith in
      rw (s.corners_are, many_corners, ← e) (unpacked corner_words (λ (c : CornerLine). bits (at c) ∷ []) corner_size 1 (position_at start) bits corner_size_lem (λ t. omega arith) own f.corners s.past ∙ flat_map_lem (λ (c : CornerLine). bits (at c)) f.corners)

  twos : {B : Type 0} (value : ℕ → B) (start : ℕ) (slots : CornerLine → List B) → ((c : CornerLine) (rest : List ℕ) → listing 2 (λ (t : ℕ). value (get_or (corner_words c ++ rest) (slot_at start t) 0)) ≡ slots c)
      → listing (2 * r.corners) (λ (t : ℕ). value (get_or corners (slot_at start t) 0)) ≡ flat_map slots f.corners
  twos value start slots own = rw (s.corners_are, many_corners) (unpacked corner_words slots corner_size 2 (slot_at start) value corner_size_lem (λ t. omega arith) own f.corners s.past)

  threes : (start : ℕ) (slots : TriangleLine → List ℕ) → ((t : TriangleLine) (rest : List ℕ) → listing 3 (λ (k : ℕ). get_or (triangle_words t ++ rest) (triple_at start k) 0) ≡ slots t)
      → listing (3 * r.triangles) (λ (k : ℕ). get_or triangles (triple_at start k) 0) ≡ flat_map slots f.triangles
  threes start slots own = rw (s.triangles_are, many_triangles) (unpacked triangle_words slots triangle_size 3 (triple_at start) (λ (w : ℕ). w) triangle_size_lem (λ t. omega arith) own f.triangles s.rest)

  pub unpacked_input : (x y angles spreads : List Float) (marks named twins : List ℕ)
      → Front r.corners most_corner_lines (bits 0) (λ (t : ℕ). bits (get_or corners (position_at 0 t) 0)) x
      → Front r.corners most_corner_lines (bits 0) (λ (t : ℕ). bits (get_or corners (position_at 1 t) 0)) y
      → Front (2 * r.corners) (2 * most_corner_lines) (bits 0) (λ (t : ℕ). bits (get_or corners (slot_at 2 t) 0)) angles
      → Front (2 * r.corners) (2 * most_corner_lines) 0 (λ (t : ℕ). get_or corners (slot_at 3 t) 0) marks
      → Front (2 * r.corners) (2 * most_corner_lines) (bits 0) (λ (t : ℕ). bits (get_or corners (slot_at 4 t) 0)) spreads
      → Front (3 * r.triangles) (3 * most_triangle_lines) 0 (λ (t : ℕ). get_or triangles (triple_at 0 t) 0) named
      → Front (3 * r.triangles) (3 * most_triangle_lines) 0 (λ (t : ℕ). get_or triangles (triple_at 3 t) 0) twins
      → ◌≡◌ {A = Input} (record { xs = take r.corners x; ys = take r.corners y; angles = take (2 * r.corners) angles; marks = take (2 * r.corners) marks; spreads = take (2 * r.corners) spreads; triangles = take (3 * r.triangles) named; twins = take (3 * r.triangles) twins; params = r.params }) (input_of f)
  unfolding input_of frame_of
  unpacked_input x y angles spreads marks named twins ex ey ea em es en et =
      let n = r.corners in
      let m = r.triangles in
      rw (
        front_taken n most_corner_lines (bits 0) _ x ex ∙ ones 0 (λ c. c.x) (λ c rest. (position_own bits c rest).0),
        front_taken n most_corner_lines (bits 0) _ y ey ∙ ones 1 (λ c. c.y) (λ c rest. (position_own bits c rest).1),
        front_taken (2 * n) (2 * most_corner_lines) (bits 0) _ angles ea ∙ twos bits 2 _ (λ c rest. (slot_own bits c rest).0),
        front_taken (2 * n) (2 * most_corner_lines) 0 _ marks em ∙ twos (λ (w : ℕ). w) 3 _ (λ c rest. (slot_own (λ (w : ℕ). w) c rest).1),
        front_taken (2 * n) (2 * most_corner_lines) (bits 0) _ spreads es ∙ twos bits 4 _ (λ c rest. (slot_own bits c rest).2),
        front_taken (3 * m) (3 * most_triangle_lines) 0 _ named en ∙ threes 0 _ (λ t rest. (triple_own t rest).0),
        front_taken (3 * m) (3 * most_triangle_lines) 0 _ twins et ∙ threes 3 _ (λ t rest. (triple_own t rest).1),
        ap (λ (q : FrameRead). q.params) s.read,
      )

  -- ---- room: so many words stand there

  pub corner_room : (r.corners ≤ most_corner_lines) × (corner_size * r.corners ≤ length corners)
  corner_room = (omega (arith, many_corners, s.within.corners), omega (arith, many_corners, ap length s.corners_are, length-append (all_words corner_words f.corners) s.past, all_sized corner_words corner_size corner_size_lem f.corners))

  pub triangle_room : (r.triangles ≤ most_triangle_lines) × (triangle_size * r.triangles ≤ length triangles)
  triangle_room = (omega (arith, many_triangles, s.within.triangles), omega (arith, many_triangles, ap length s.triangles_are, length-append (all_words triangle_words f.triangles) s.rest, all_sized triangle_words triangle_size triangle_size_lem f.triangles))
