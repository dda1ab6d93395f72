-- From the call to the answer's text: what the call allows of a text's frame is `Labels`, since no list is short; what was labelled can be
-- printed; and a text printed at the front of the list is the answer. Assumes nothing.
use Rattle.std.specs.Prelude.{Result}
use Rattle.walk.specs.Call.{wrote}
use mathlib.Core.Path.{◌≡◌, refl, sym, ◌∙◌, subst, ap}
use mathlib.Core.List.{List}
use Rattle.std.specs.Prelude.{Ok, Err}
use Prim.Native.Nat.{ℕ, ◌*◌, ◌≤◌, ◌<◌}
use native.Mathlib.Omega.{arith}
use lib.ListN.{length}
use lib.Seq.{length-take-le}
use Rattle.std.specs.Prelude.{Ok, Err}
use Rattle.refusal.specs.declared.Refusal.{Refusal}
use Rattle.refusal.specs.Rows.{Gate, ◌then◌}
use Rattle.walk.specs.declared.Labelled.{Labelled}
use Rattle.walk.specs.Call.{Outcome}
use Rattle.walk.proofs.Success.{components_told}
use Rattle.frame.specs.Call.{judge_of, entry_gate, Allowed}
use Rattle.frame.specs.Stages.{Input}
use Rattle.gridtext.specs.declared.FrameRead.{FrameRead}
use Rattle.gridtext.specs.declared.BadLine.{BadLine}
use Rattle.gridtext.specs.Text.{Frame, Within, Reads, Bad}
use Rattle.gridtext.specs.inner.Read.{Parses}
use Rattle.gridtext.specs.Lists.{input_of}
use Rattle.gridtext.specs.Answer.{refused_text}
use Rattle.gridtext.specs.Gridlabel.{Answers, most_text, Answered}
use Rattle.gridtext.specs.inner.Held.{Printable, PrintsHeld, most_bytes}
use Rattle.gridtext.specs.inner.Printed.{Printed}
use Rattle.gridtext.specs.inner.Unpacked.{most_components, most_entries, work_words, Standing, Labels}
use Rattle.gridtext.proofs.NeverShort.{small_answer, never_short}

-- ---- the call

then_open : (g h : Gate) → h ≡ Ok tt → (g then h) ≡ g
then_open (Ok _) h e = e
then_open (Err why) h e = refl

module _ (f : Frame) (within : Within f) (work components entries : List ℕ) (wide : work_words ≤ length work) (room : 3 * most_components ≤ length components) (free : 3 * most_entries ≤ length entries) where
  rows_are : entry_gate (input_of f) (length work) ≡ judge_of (input_of f)
  unfolding entry_gate
  rows_are = then_open (judge_of (input_of f)) _ ((never_short f within).wide (length work) wide)

  labels_allowed : (o : Outcome) → Allowed (input_of f) work components entries o → Labels (input_of f) components o.components entries o.entries o.answer
  labels_allowed o (Allowed.refused why e) = Labels.refused (sym rows_are ∙ e) refl refl
  labels_allowed o (Allowed.labelled e out a) =
      let through = sym rows_are ∙ e in
      rw ((never_short f within).roomy through out a (length components) (length entries) room free) (Labels.labelled through out a (record { components_are = refl; entries_are = refl }) refl refl)

  pub labels : (i : Input) → i ≡ input_of f → (o : Outcome) → Allowed i work components entries o → Labels (input_of f) components o.components entries o.entries o.answer
  labels i e o a = labels_allowed o (subst (λ (j : Input). Allowed j work components entries o) e a)

-- ---- printed

pub answered : {text before after t : List ℕ} {end : ℕ} → most_text ≤ length before → Answers text t → Printed before after 0 t end → Answered text before after end
answered {text} {before} {after} {t} {end} h a p = record { answers = λ _. subst (Answers text) (sym p.is) a; short = λ l. absurd (omega arith); within = p.within; whole = sym (length-take-le end after p.within); rest = p.rest }

-- in a shorter list nothing is written
pub unanswered : {text before : List ℕ} → length before < most_text → Answered text before before 0
unanswered h = record { answers = λ l. absurd (omega arith); short = λ _. refl; within = omega arith; whole = refl; rest = refl }

module _ {components₀ components entries₀ entries : List ℕ} (f : Frame) (within : Within f) where
  pub printable : (answer : Result Labelled Refusal) (k l room : ℕ) → answer ≡ wrote k l → most_text ≤ room → Labels (input_of f) components₀ components entries₀ entries answer → Printable components entries k room
  unfolding most_bytes
  printable answer k l room e h (Labels.refused s p q) = let z : ◌≡◌ {A = ℕ} 0 1 = cc in absurd (omega arith)
  printable answer k l room e h (Labels.labelled {k = count} through out a w c d) =
      let n = small_answer f within through out a in
      let same : k ≡ count = sym (ap components_told e) in
      record { answer = out; holds = record { past = _; rest = _; components_are = w.components_are; entries_are = w.entries_are; count_is = same ∙ c }; fits = omega (arith, n.0, n.1) }

  module _ {text before after : List ℕ} (reads : Reads text f) (h : most_text ≤ length before) where
    pub answered_components : {end : ℕ} (answer : Result Labelled Refusal) (k l : ℕ) → answer ≡ wrote k l → Labels (input_of f) components₀ components entries₀ entries answer → PrintsHeld components entries k before after end → Answered text before after end
    answered_components answer k l e (Labels.refused s p q) prints = let z : ◌≡◌ {A = ℕ} 0 1 = cc in absurd (omega arith)
    answered_components answer k l e (Labels.labelled {k = count} through out a w c d) prints =
        let same : k ≡ count = sym (ap components_told e) in
        answered h (Answers.labelled f reads through out a) (prints out (record { past = _; rest = _; components_are = w.components_are; entries_are = w.entries_are; count_is = same ∙ c }))

    pub answered_refusal : {end : ℕ} (answer : Result Labelled Refusal) (why : Refusal) → answer ≡ Err why → Labels (input_of f) components₀ components entries₀ entries answer → Printed before after 0 (refused_text why) end → Answered text before after end
    answered_refusal answer why e (Labels.refused {why = other} s p q) printed =
        let same : other ≡ why = cc in
        answered h (Answers.refused f reads why (rw same at s)) printed
    answered_refusal answer why e (Labels.labelled through out a w c d) printed = let z : ◌≡◌ {A = ℕ} 0 1 = cc in absurd (omega arith)

-- ---- read

pub read_bad : {text c₀ c t₀ t : List ℕ} {b : BadLine} → Parses text c₀ c t₀ t (Err b) → Bad text b.line
read_bad (Parses.bad h l m) = h

pub record Stands (text corners triangles : List ℕ) (r : FrameRead) : Type 0 where
  pub frame : Frame
  pub reads : Reads text frame
  pub standing : Standing corners triangles r frame

pub read_frame : {text c₀ c t₀ t : List ℕ} {r : FrameRead} → Parses text c₀ c t₀ t (Ok r) → Stands text c t r
read_frame (Parses.read f reads is l m) =
    record { frame = f; reads = reads; standing = record { within = reads.within; read = is; past = _; rest = _; corners_are = l; triangles_are = m } }
