-- Laws of the quads made so far: how they grow, how many they are, and the list that holds them at its front. Assumes nothing.
use Rattle.std.specs.Prelude.{Option, Some, None}
use mathlib.Core.Path.{◌≡◌, refl, sym, ap, ◌∙◌, subst}
use mathlib.Core.Bool.{Bool, true, false}
use mathlib.Core.List.{List, [], ◌∷◌, ◌++◌, append-nil, append_assoc}
use Prim.Native.Nat.{ℕ, zero, suc, ◌+◌, ◌-◌, ◌*◌, ◌≤◌, ◌<◌}
use native.Mathlib.Nat.{add-zero, add-suc}
use native.Mathlib.Numerals.{add-one}
use native.Mathlib.Omega.{arith}
use lib.ListN.{length, get_or, take, drop, length-append, length-drop}
use lib.Seq.{take_at, drop-append-add, drop-drop, get_or-append-add, get_or-drop}
use Rattle.words.specs.Sorting.{one}
use Rattle.quads.specs.declared.Quad.{Quad}
use Rattle.std.specs.Int.{from_bool}
use Rattle.quads.specs.Order.{order_of}
use Rattle.std.specs.Option.{is_some}
use Rattle.quads.specs.Merge.{Mesh, Input, triangle_count, paired_at, made_by, quads_to, merged_of}
use Rattle.quads.specs.inner.Merging.{Passed, FirstPair, count_to}
use Rattle.quads.specs.Call.{words_of}

pub made_more : (i : Input) (t : ℕ) → quads_to i (t + 1) ≡ quads_to i t ++ made_by i (paired_at i.mesh t)
unfolding quads_to
made_more i t = rw (add-one t)

count_more : (m : Mesh) (t : ℕ) → count_to m (t + 1) ≡ count_to m t + one (is_some (paired_at m t))
unfolding count_to
count_more m t = rw (add-one t)

-- the code's number of a test
pub one_from : (b : Bool) → from_bool b ≡ one b
unfolding one
one_from true = refl
one_from false = refl

-- ---- what a triangle adds

pub adds : (i : Input) (t : ℕ) (q : Quad) → paired_at i.mesh t ≡ Some q → quads_to i (t + 1) ≡ quads_to i t ++ (order_of i.xs i.ys q ∷ [])
adds i t q e = made_more i t ∙ rw e

-- triangles that make none add none
passed_by : (i : Input) (t d : ℕ) → Passed i.mesh t (t + d) → quads_to i (t + d) ≡ quads_to i t
unfolding quads_to
passed_by i t zero h = ap (quads_to i) (add-zero t)
passed_by i t (suc d) h = rw (add-suc t d, h (t + d) (omega arith) (omega arith), append-nil) (passed_by i t d (λ k a b. h k a (omega arith)))

passed : (i : Input) (t r : ℕ) → t ≤ r → Passed i.mesh t r → quads_to i r ≡ quads_to i t
passed i t r h f =
    let e : t + (r - t) ≡ r = omega arith in
    rw e at (passed_by i t (r - t) (λ k a b. f k a (omega arith)))

-- ---- how many they are

one_made : (i : Input) (p : Option Quad) → length (made_by i p) ≡ one (is_some p)
unfolding one
one_made i None = refl
one_made i (Some q) = refl

pub count_is : (i : Input) (t : ℕ) → count_to i.mesh t ≡ length (quads_to i t)
unfolding count_to quads_to
count_is i zero = refl
count_is i (suc t) = rw (length-append (quads_to i t) (made_by i (paired_at i.mesh t)), one_made i (paired_at i.mesh t), count_is i t)

pub merged_count : (i : Input) → count_to i.mesh (triangle_count i.mesh) ≡ length (merged_of i)
unfolding merged_of
merged_count i = count_is i (triangle_count i.mesh)

count_passed_by : (m : Mesh) (t d : ℕ) → Passed m t (t + d) → count_to m (t + d) ≡ count_to m t
unfolding count_to one
count_passed_by m t zero h = ap (count_to m) (add-zero t)
count_passed_by m t (suc d) h = rw (add-suc t d, h (t + d) (omega arith) (omega arith)) (add-zero _ ∙ count_passed_by m t d (λ k a b. h k a (omega arith)))

pub count_passed : (m : Mesh) (t r : ℕ) → t ≤ r → Passed m t r → count_to m r ≡ count_to m t
count_passed m t r h f =
    let e : t + (r - t) ≡ r = omega arith in
    rw e at (count_passed_by m t (r - t) (λ k a b. f k a (omega arith)))

-- the first pair from t on
pub count_next : (m : Mesh) (t r : ℕ) (q : Quad) → FirstPair m t r q → count_to m (r + 1) ≡ count_to m t + 1
unfolding one
count_next m t r q f = count_more m r ∙ rw (f.hit, count_passed m t r f.past f.clear)

pub count_le : (m : Mesh) (t : ℕ) → count_to m t ≤ t
unfolding count_to one
count_le m zero = omega arith
count_le m (suc t) = go (is_some (paired_at m t)) (count_le m t)
  where
    go : (b : Bool) → count_to m t ≤ t → count_to m t + one b ≤ suc t
    go true h = omega arith
    go false h = omega arith

grows_by : (i : Input) (t d : ℕ) → length (quads_to i t) ≤ length (quads_to i (t + d))
unfolding quads_to
grows_by i t zero = rw (add-zero t) (omega arith)
grows_by i t (suc d) = rw (add-suc t d, length-append (quads_to i (t + d)) (made_by i (paired_at i.mesh (t + d)))) (omega (arith, grows_by i t d))

pub grows : (i : Input) (t r : ℕ) → t ≤ r → length (quads_to i t) ≤ length (quads_to i r)
grows i t r h = let e : t + (r - t) ≡ r = omega arith in rw e at (grows_by i t (r - t))

-- so there is room for one more where a triangle makes it
pub room_for : (i : Input) (t : ℕ) (q : Quad) → t < triangle_count i.mesh → paired_at i.mesh t ≡ Some q → length (quads_to i t) < length (merged_of i)
unfolding merged_of
room_for i t q h e =
    let more = ap length (adds i t q e) ∙ length-append (quads_to i t) (order_of i.xs i.ys q ∷ []) in
    omega (arith, more, grows i (t + 1) (triangle_count i.mesh) (omega arith))

-- ---- their words

pub length_words : (qs : List Quad) → length (words_of qs) ≡ 4 * length qs
unfolding words_of
length_words [] = refl
length_words (q ∷ qs) = rw (length_words qs) (omega arith)

words_snoc : (qs : List Quad) (q : Quad) → words_of (qs ++ (q ∷ [])) ≡ words_of qs ++ (q.a ∷ q.b ∷ q.c ∷ q.d ∷ [])
unfolding words_of
words_snoc [] q = refl
words_snoc (p ∷ qs) q = ap (λ (l : List ℕ). p.a ∷ p.b ∷ p.c ∷ p.d ∷ l) (words_snoc qs q)

-- a list with the quads at its front, and the rest as it was
abbrev pub Held : List Quad → List ℕ → List ℕ → Type 0
Held qs before now = now ≡ words_of qs ++ drop (4 * length qs) before

pub held_more : (qs : List Quad) (q : Quad) (before now after : List ℕ) (at : ℕ) → at ≡ 4 * length qs → 4 * length qs ≤ length before → Held qs before now
    → after ≡ take at now ++ ((q.a ∷ q.b ∷ q.c ∷ q.d ∷ []) ++ drop (at + 4) now) → Held (qs ++ (q ∷ [])) before after
held_more qs q before now after at e room held stored =
    let w = words_of qs in
    let r = drop (4 * length qs) before in
    let k : length w ≡ at = length_words qs ∙ sym e in
    let front : take at now ≡ w = ap (take at) held ∙ take_at w r at k in
    let back : drop (at + 4) now ≡ drop (4 * length (qs ++ (q ∷ []))) before =
    ap (drop (at + 4)) held ∙ ap (λ (n : ℕ). drop (n + 4) (w ++ r)) (sym k) ∙ drop-append-add w r 4 ∙ drop-drop 4 (4 * length qs) before ∙ ap (λ (n : ℕ). drop n before) (up qs q) in
    let four = q.a ∷ q.b ∷ q.c ∷ q.d ∷ [] in
    stored
    ∙ ap (λ (l : List ℕ). l ++ (four ++ drop (at + 4) now)) front
    ∙ ap (λ (l : List ℕ). w ++ (four ++ l)) back
    ∙ sym (append_assoc w four (drop (4 * length (qs ++ (q ∷ []))) before))
    ∙ ap (λ (l : List ℕ). l ++ drop (4 * length (qs ++ (q ∷ []))) before) (sym (words_snoc qs q))
  where
    up : (qs : List Quad) (q : Quad) → 4 * length qs + 4 ≡ 4 * length (qs ++ (q ∷ []))
    up qs q = rw (length-append qs (q ∷ [])) (omega arith)

pub held_length : (qs : List Quad) (before now : List ℕ) → 4 * length qs ≤ length before → Held qs before now → length now ≡ length before
held_length qs before now room held =
    ap length held ∙ length-append (words_of qs) (drop (4 * length qs) before) ∙ rw (length_words qs, length-drop (4 * length qs) before) (omega arith)

-- behind them each word is as it was
pub held_behind : (qs : List Quad) (before now : List ℕ) → Held qs before now → (k : ℕ) → 4 * length qs ≤ k → get_or now k 0 ≡ get_or before k 0
held_behind qs before now held k h =
    let past : length (words_of qs) + (k - 4 * length qs) ≡ k = omega (arith, length_words qs) in
    let on : 4 * length qs + (k - 4 * length qs) ≡ k = omega arith in
    ap (λ (l : List ℕ). get_or l k 0) held
    ∙ ap (λ (n : ℕ). get_or (words_of qs ++ drop (4 * length qs) before) n 0) (sym past)
    ∙ get_or-append-add (words_of qs) (drop (4 * length qs) before) (k - 4 * length qs) 0
    ∙ get_or-drop (4 * length qs) before (k - 4 * length qs) 0
    ∙ ap (λ (n : ℕ). get_or before n 0) on

pub held_by : (qs rs : List Quad) (before now : List ℕ) → qs ≡ rs → Held rs before now → Held qs before now
held_by qs rs before now e h = subst (λ (l : List Quad). Held l before now) (sym e) h

-- ---- what the list has after the triangles below t, of which `made` quads are made

pub record Front (i : Input) (before : List ℕ) (t made : ℕ) (now : List ℕ) : Type 0 where
  pub count : made ≡ length (quads_to i t)
  pub held : Held (quads_to i t) before now

module _ (i : Input) (before now : List ℕ) {t made : ℕ} (front : Front i before t made now) where
  -- the quads of r's triangles, where those from t on make none
  front_passed : (r : ℕ) → t ≤ r → Passed i.mesh t r → Front i before r made now
  front_passed r h clear =
      let e = passed i t r h clear in
      record { count = front.count ∙ ap length (sym e); held = held_by _ _ before now e front.held }

  pub front_more : {r : ℕ} {q s : Quad} {after : List ℕ} → FirstPair i.mesh t r q → 4 * length (merged_of i) ≤ length before → s ≡ order_of i.xs i.ys q
      → after ≡ take (4 * made) now ++ ((s.a ∷ s.b ∷ s.c ∷ s.d ∷ []) ++ drop (4 * made + 4) now) → Front i before (r + 1) (made + 1) after
  front_more {r} {q} {s} {after} first room ordered stored =
      let reached = front_passed r first.past first.clear in
      let adds_s : quads_to i (r + 1) ≡ quads_to i r ++ (s ∷ []) = rw ordered (adds i r q first.hit) in
      let here : 4 * made ≡ 4 * length (quads_to i r) = ap (λ (n : ℕ). 4 * n) reached.count in
      let more : 4 * length (quads_to i r) ≤ length before = omega (arith, room_for i r q first.reach first.hit, room) in
      record {
        count = rw (adds_s, length-append (quads_to i r) (s ∷ []), ← reached.count);
        held = held_by _ _ before after adds_s (held_more (quads_to i r) s before now after (4 * made) here more reached.held stored);
      }

  pub front_all : t ≤ triangle_count i.mesh → Passed i.mesh t (triangle_count i.mesh) → (made ≡ length (merged_of i)) × Held (merged_of i) before now
  unfolding merged_of
  front_all h clear = let all = front_passed (triangle_count i.mesh) h clear in (all.count, all.held)

  pub front_room : {r : ℕ} {q : Quad} → FirstPair i.mesh t r q → 4 * length (merged_of i) ≤ length before → 4 * made + 3 < length before
  front_room {r} {q} first room = omega (arith, (front_passed r first.past first.clear).count, room_for i r q first.reach first.hit, room)
