-- A text has one frame at most (`one_frame`), one first bad line at most (`one_bad_line`), and never both (`never_both`): lines that stand in
-- one place are the same as far as they go, and a line that fits would stand where the text is stuck. Assumes nothing.
use mathlib.Core.Path.{◌≡◌, refl, sym, ap, ◌∙◌, subst}
use mathlib.Core.List.{List, [], ◌∷◌, ◌++◌, append_assoc, append-nil, map, tail}
use Prim.Native.Nat.{ℕ, suc, ◌≤◌}
use native.Mathlib.Omega.{arith}
use lib.ListN.{length, length-append}
use Rattle.cells.specs.Listed.{In}
use Rattle.cells.proofs.Tests.{in_front, not_in}
use Rattle.gridtext.specs.Lines.{CornerLine, TriangleLine, Line, line_of, printed}
use Rattle.gridtext.specs.Text.{Frame, lines_of, Within, Fitting, Reads, Bad}
use Rattle.gridtext.proofs.OneLine.{Words, Beside, beside}

-- ---- the front of a frame's lines is a frame's

record Front (cs : List CornerLine) (ts : List TriangleLine) (ls : List Line) : Type 0 where
  corners : List CornerLine
  triangles : List TriangleLine
  is : ls ≡ map Line.corner corners ++ map Line.triangle triangles
  few : length corners ≤ length cs
  least : length triangles ≤ length ts

front_triangles : (ts : List TriangleLine) (ls more : List Line) → map Line.triangle ts ≡ ls ++ more → (us : List TriangleLine) × (ls ≡ map Line.triangle us) × (length us ≤ length ts)
front_triangles ts [] more e = ([], refl, omega arith)
front_triangles [] (l ∷ ls) more e = let z : ◌≡◌ {A = ℕ} 0 1 = cc in absurd (omega arith)
front_triangles (t ∷ ts) (l ∷ ls) more e =
    let r = front_triangles ts ls more (ap tail e) in
    let q : Line.triangle t ≡ l = cc (e) in
    (t ∷ r.0, cc (q, r.1), omega (arith, r.2))

front : (cs : List CornerLine) (ts : List TriangleLine) (ls more : List Line) → map Line.corner cs ++ map Line.triangle ts ≡ ls ++ more → Front cs ts ls
front cs ts [] more e = record { corners = []; triangles = []; is = refl; few = omega arith; least = omega arith }
front [] ts (l ∷ ls) more e =
    let r = front_triangles ts (l ∷ ls) more e in
    record { corners = []; triangles = r.0; is = r.1; few = omega arith; least = r.2 }
front (c ∷ cs) ts (l ∷ ls) more e =
    let r = front cs ts ls more (ap tail e) in
    let q : Line.corner c ≡ l = cc (e) in
    record { corners = c ∷ r.corners; triangles = r.triangles; is = cc (q, r.is); few = omega (arith, r.few); least = r.least }

front_fits : (ls before more : List Line) (l : Line) → Fitting ls → ls ≡ before ++ (l ∷ more) → Fitting (before ++ (l ∷ []))
front_fits ls before more l fits e = go ls before fits (e ∙ sym (append_assoc before (l ∷ []) more))
  where
    build : (f : Frame) (k : Line) (ks : List Line) → Within f → lines_of f ≡ k ∷ (ks ++ more) → Fitting (k ∷ ks)
    build f k ks within q =
        let r = front f.corners f.triangles ks more (ap tail q) in
        let g : Frame = record { params = f.params; corners = r.corners; triangles = r.triangles } in
        let p : lines_of g ≡ k ∷ ks = cc (q, r.is) in
        subst Fitting p (Fitting.some g (record {
          corners = omega (arith, within.corners, r.few);
          triangles = omega (arith, within.triangles, r.least);
          words = λ m i. within.words m (rw q (in_front more (subst (In m) p i)));
        }))

    go : (ks bs : List Line) → Fitting ks → ks ≡ (bs ++ (l ∷ [])) ++ more → Fitting (bs ++ (l ∷ []))
    go ks [] Fitting.none q = let z : ◌≡◌ {A = ℕ} 0 1 = cc in absurd (omega arith)
    go ks (b ∷ bs) Fitting.none q = let z : ◌≡◌ {A = ℕ} 0 1 = cc in absurd (omega arith)
    go ks [] (Fitting.some f within) q = build f l [] within q
    go ks (b ∷ bs) (Fitting.some f within) q = build f b (bs ++ (l ∷ [])) within q

pub fitting_words : {ls : List Line} → Fitting ls → Words ls
fitting_words Fitting.none l i = not_in i
fitting_words (Fitting.some f within) l i = within.words l i

-- ---- no line follows where nothing does, and none that fits where the text is stuck

no_more : (more : List Line) (r : List ℕ) → [] ≡ printed more ++ r → (more ≡ []) × (r ≡ [])
unfolding printed
no_more [] r e = (refl, sym e)
no_more (l ∷ more) r e = absurd (omega (arith, simp length-append at (ap length e)))

-- lines that fit and go on past a bad line are none
stuck_there : {text : List ℕ} {k : ℕ} (bad : Bad text k) (ls : List Line) (more : List Line) (s : List ℕ) → Fitting ls → ls ≡ bad.before ++ more → bad.rest ≡ printed more ++ s → more ≡ []
unfolding printed
stuck_there bad ls [] s fits e q = refl
stuck_there bad ls (l ∷ more) s fits e q =
    absurd (bad.stuck l (printed more ++ s) (q ∙ append_assoc (line_of l) (10 ∷ printed more) s) (front_fits ls bad.before more l fits e))

-- ---- one reading

same_frame : (f g : Frame) → lines_of f ≡ lines_of g → f ≡ g
same_frame f g e =
    let p : f.params ≡ g.params = cc (e) in
    let r = same f.corners g.corners f.triangles g.triangles (ap tail e) in
    let z : ◌≡◌ {A = Frame} (record { params = f.params; corners = f.corners; triangles = f.triangles }) g = rw (p, r.0, r.1) in
    z
  where
    triangles : (ts us : List TriangleLine) → map Line.triangle ts ≡ map Line.triangle us → ts ≡ us
    triangles [] [] q = refl
    triangles [] (u ∷ us) q = let z : ◌≡◌ {A = ℕ} 0 1 = cc in absurd (omega arith)
    triangles (t ∷ ts) [] q = let z : ◌≡◌ {A = ℕ} 0 1 = cc in absurd (omega arith)
    triangles (t ∷ ts) (u ∷ us) q = let h : t ≡ u = cc (q) in cc (h, triangles ts us (ap tail q))

    same : (cs ds : List CornerLine) (ts us : List TriangleLine) → map Line.corner cs ++ map Line.triangle ts ≡ map Line.corner ds ++ map Line.triangle us → (cs ≡ ds) × (ts ≡ us)
    same [] [] ts us q = (refl, triangles ts us q)
    same [] (d ∷ ds) [] us q = let z : ◌≡◌ {A = ℕ} 0 1 = cc in absurd (omega arith)
    same [] (d ∷ ds) (t ∷ ts) us q = let z : ◌≡◌ {A = ℕ} 0 1 = cc in absurd (omega arith)
    same (c ∷ cs) [] ts [] q = let z : ◌≡◌ {A = ℕ} 0 1 = cc in absurd (omega arith)
    same (c ∷ cs) [] ts (u ∷ us) q = let z : ◌≡◌ {A = ℕ} 0 1 = cc in absurd (omega arith)
    same (c ∷ cs) (d ∷ ds) ts us q =
        let h : c ≡ d = cc (q) in
        let r = same cs ds ts us (ap tail q) in
        (cc (h, r.0), r.1)

pub one_frame : {text : List ℕ} (f g : Frame) → Reads text f → Reads text g → f ≡ g
one_frame f g a b = go (beside (lines_of f) (lines_of g) [] [] a.within.words b.within.words (rw (append-nil, append-nil) (sym a.is ∙ b.is)))
  where
    go : Beside (lines_of f) (lines_of g) [] [] → f ≡ g
    go (Beside.shorter more e q) = same_frame f g (sym (e ∙ rw (no_more more [] q).0 (append-nil (lines_of f))))
    go (Beside.longer more e q) = same_frame f g (e ∙ rw (no_more more [] q).0 (append-nil (lines_of g)))

pub one_bad_line : {text : List ℕ} {j k : ℕ} → Bad text j → Bad text k → j ≡ k
one_bad_line {text} {j} {k} a b = a.number ∙ ap (λ (ls : List Line). suc (length ls)) (go (beside a.before b.before a.rest b.rest (fitting_words a.fits) (fitting_words b.fits) (sym a.is ∙ b.is))) ∙ sym b.number
  where
    go : Beside a.before b.before a.rest b.rest → a.before ≡ b.before
    go (Beside.shorter more e q) = sym (e ∙ rw (stuck_there a b.before more b.rest b.fits e q) (append-nil a.before))
    go (Beside.longer more e q) = e ∙ rw (stuck_there b a.before more a.rest a.fits e q) (append-nil b.before)

pub never_both : {text : List ℕ} {k : ℕ} (f : Frame) → Reads text f → Bad text k → ⊥
unfolding printed
never_both {text} {k} f a b = go (beside b.before (lines_of f) b.rest [] (fitting_words b.fits) a.within.words (sym b.is ∙ a.is ∙ rw append-nil))
  where
    never : b.rest ≡ [] → lines_of f ≡ b.before → ⊥
    never r e = let n = b.ends r in let z : ◌≡◌ {A = ℕ} 0 1 = cc in omega arith

    go : Beside b.before (lines_of f) b.rest [] → ⊥
    go (Beside.shorter more e q) =
        let m = stuck_there b (lines_of f) more [] (Fitting.some f a.within) e q in
        never (q ∙ rw m) (e ∙ rw m (append-nil b.before))
    go (Beside.longer more e q) =
        let m = no_more more b.rest q in
        never m.1 (sym (e ∙ rw m.0 (append-nil (lines_of f))))
