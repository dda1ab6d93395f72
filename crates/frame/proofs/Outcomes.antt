-- The call's outcomes: refused by rows 1 to 7 or 18, refused by row 8, or what follows the labelling of the quads kept. Assumes nothing.
use mathlib.Core.Path.{◌≡◌, sym, ◌∙◌, subst}
use mathlib.Core.List.{List}
use Prim.Native.Nat.{ℕ, ◌+◌, ◌*◌, ◌≤◌, max}
use native.Mathlib.Omega.{arith}
use lib.ListN.{length}
use Rattle.refusal.specs.Rows.{Gate}
use Rattle.std.specs.Prelude.{Ok, Err}
use Rattle.refusal.specs.declared.Refusal.{Refusal}
use Rattle.mesh.specs.Lists.{most_corners, most_half_edges, most_quads, work_row, frame_words}
use Rattle.cells.specs.Listed.{Entry}
use Rattle.quads.specs.declared.Quad.{Quad}
use Rattle.quads.specs.Call.{words_of}
use Rattle.quads.proofs.Made.{length_words}
use Rattle.filter.specs.Marks.{kept_of}
use Rattle.fates.specs.inner.Computed.{Computed}
use Rattle.walk.specs.Input.{quad_count}
use Rattle.walk.specs.Call.{Outcome, outcome_by}
use Rattle.walk.specs.inner.Emitted.{out_to}
use Rattle.walk.specs.inner.Emitting.{Writable}
use Rattle.walk.proofs.Rooms.{room_rows, outcome_by_length}
use Rattle.walk.proofs.Yielded.{components_are, writable}
use Rattle.frame.specs.Stages.{Input, filtering, labelling, Answer}
use Rattle.frame.specs.Call.{judge_of, entry_gate, Allowed}
use Rattle.frame.specs.Call.Allowed.{refused, labelled}
use Rattle.frame.specs.inner.Steps.{Fated}
use Rattle.frame.proofs.Sound.{entry_open, classing_sound}
use Rattle.frame.proofs.Labelling.{kept_few, kept_room}

-- the gates of rows 1 to 7, with 18, and of row 8, one after the other
entry_after : (i : Input) (words : ℕ) (g h : Gate) → g ≡ judge_of i → g ≡ Ok tt → h ≡ work_row words (frame_words (length i.triangles) (length i.xs)) → entry_gate i words ≡ h
unfolding entry_gate
entry_after i words g h e f r = rw (← e, f, r)

entry_shut : (i : Input) (words : ℕ) (g : Gate) (why : Refusal) → g ≡ judge_of i → g ≡ Err why → entry_gate i words ≡ Err why
unfolding entry_gate
entry_shut i words g why e f = rw (← e, f)

pub shut : (i : Input) (work components entries : List ℕ) (g : Gate) → g ≡ judge_of i → (why : Refusal) → g ≡ Err why
    → Allowed i work components entries (record { answer = Err why; work = work; components = components; entries = entries })
shut i work components entries g judged why e = refused why (entry_shut i (length work) g why judged e)

module _ (i : Input) (g : Gate) (judged : g ≡ judge_of i) (through : g ≡ Ok tt) where
  -- row 8 may be asked
  pub may_ask : (length i.triangles ≤ most_half_edges) × (length i.xs ≤ most_corners)
  may_ask = let s = classing_sound i (sym judged ∙ through) in (s.edges, s.corners)

  module _ (work : List ℕ) (h : Gate) (wide : h ≡ work_row (length work) (frame_words (length i.triangles) (length i.xs))) where
    pub shut_work : (components entries : List ℕ) (why : Refusal) → h ≡ Err why → Allowed i work components entries (record { answer = Err why; work = work; components = components; entries = entries })
    shut_work components entries why e = refused why (entry_after i (length work) g h judged through wide ∙ e)

    pub entered : h ≡ Ok tt → entry_gate i (length work) ≡ Ok tt
    entered e = entry_after i (length work) g h judged through wide ∙ e

-- ---- where every group of the quads kept has its fate

module _ (i : Input) (work mid : List ℕ) (n span : ℕ) (through : entry_gate i (length work) ≡ Ok tt) (fated : Fated i n work mid) (spanned : span ≡ max n (length i.xs)) where
  abbrev kept : List Quad
  kept = kept_of (filtering i) fated.marks

  computed : Computed span (words_of kept) n i.params.labels fated.mid mid
  computed = rw spanned fated.computed

  few : n ≤ most_quads
  few = omega (arith, fated.count, kept_few i (entry_open i (length work) through).0 fated.marks)

  long : 4 * span + 27 * n ≤ length mid
  long =
      let rows = entry_open i (length work) through in
      omega (arith, rows.1, spanned, fated.count, kept_room i rows.0 fated.marks, fated.len, fated.computed.len)

  pub may_emit : Writable mid span n
  may_emit = writable computed few long (omega (arith, length_words kept, fated.count)) (omega (arith, spanned))

  -- the components that stand in the workspace
  abbrev out : List (List Entry)
  out = out_to mid span n n

  answer : Answer i out
  answer =
      let counted : quad_count (labelling i kept) ≡ n = omega (arith, length_words kept, fated.count) in
      record { marks = fated.marks; marked = fated.marked; labelled = record { number = computed.number; groups = rw counted computed.groups; components = rw counted (components_are computed few long) } }

  pub emitted : (components entries : List ℕ) (o : Outcome) → o ≡ outcome_by (room_rows out components entries) out mid components entries → Allowed i work components entries o
  emitted components entries o e =
      subst (Allowed i work components entries) (sym (e ∙ outcome_by_length (room_rows out components entries) out work mid components entries (computed.len ∙ fated.len))) (labelled through out answer)
