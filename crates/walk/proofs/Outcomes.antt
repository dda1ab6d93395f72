-- The call's outcomes: refused by the rows, or what follows the labelling. Assumes nothing.
use mathlib.Core.Path.{◌≡◌, sym, ◌∙◌, subst}
use mathlib.Core.List.{List}
use Prim.Native.Nat.{ℕ, ◌+◌, ◌*◌, ◌≤◌}
use native.Mathlib.Omega.{arith}
use lib.ListN.{length}
use Rattle.refusal.specs.Rows.{Gate}
use Rattle.std.specs.Prelude.{Ok, Err}
use Rattle.refusal.specs.declared.Refusal.{Refusal}
use Rattle.cells.specs.Listed.{Entry}
use Rattle.laying.specs.inner.Layout.{Given}
use Rattle.fates.specs.inner.Computed.{Computed}
use Rattle.walk.specs.Input.{Input, quad_count, Answer}
use Rattle.walk.specs.Call.{entry_gate, Outcome, outcome_by, Allowed}
use Rattle.walk.specs.Call.Allowed.{refused as by_rows, labelled as by_answer}
use Rattle.walk.specs.inner.Emitted.{out_to}
use Rattle.walk.specs.inner.Emitting.{Writable}
use Rattle.walk.proofs.Sound.{span_of, Sound, entry_sound}
use Rattle.walk.proofs.Yielded.{components_are, writable}
use Rattle.walk.proofs.Rooms.{room_rows, outcome_by_length}

pub shut : (i : Input) (work components entries : List ℕ) (g : Gate) (why : Refusal) → g ≡ entry_gate i (length work) → g ≡ Err why → Allowed i work components entries (record { answer = Err why; work = work; components = components; entries = entries })
shut i work components entries g why e f = by_rows why (sym e ∙ f)

-- ---- a call that the rows let through

pub record Entered (i : Input) (work : List ℕ) (span : ℕ) : Type 0 where
  pub through : entry_gate i (length work) ≡ Ok tt
  pub spanned : span ≡ span_of i

module _ {i : Input} {work : List ℕ} {span : ℕ} (e : Entered i work span) where
  sound : Sound i (length work)
  sound = entry_sound i (length work) e.through

  pub may_compute : Given span i.quads (quad_count i) × (4 * span + 27 * quad_count i ≤ length work)
  may_compute = rw e.spanned (sound.given, sound.room)

  -- where every quad has its fate
  module _ {mid : List ℕ} (computed : Computed span i.quads (quad_count i) i.params work mid) where
    long : 4 * span + 27 * quad_count i ≤ length mid
    long = omega (arith, may_compute.1, computed.len)

    pub may_emit : Writable mid span (quad_count i)
    may_emit = writable computed sound.few long may_compute.0.whole may_compute.0.few

    -- the components that stand in the workspace
    abbrev out : List (List Entry)
    out = out_to mid span (quad_count i) (quad_count i)

    answer : Answer i out
    answer = record { number = computed.number; groups = computed.groups; components = components_are computed sound.few long }

    pub emitted : (components entries : List ℕ) (o : Outcome) → o ≡ outcome_by (room_rows out components entries) out mid components entries → Allowed i work components entries o
    emitted components entries o h = subst (Allowed i work components entries) (sym (h ∙ outcome_by_length (room_rows out components entries) out work mid components entries computed.len)) (by_answer e.through out answer)
