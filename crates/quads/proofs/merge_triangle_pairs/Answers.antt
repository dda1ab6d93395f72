-- `merge_triangle_pairs` is `call_of`: the rows, then the room for what would be made, then the quads.
use mathlib.Core.Path.{◌≡◌, sym, ◌∙◌}
use Prim.Native.Nat.{ℕ, ◌*◌, ◌/◌, ◌≤◌, ◌<◌}
use native.Mathlib.Omega.{arith}
use Rattle.quads.specs.Merge.{Input, triangle_count}
use Rattle.quads.specs.inner.Merging.{Sound, count_to}
use Rattle.quads.proofs.Sound.{gate_sound}
use Rattle.quads.proofs.Made.{merged_count, count_le}
use Rattle.quads.proofs.Outcomes.{short, done}
use Rattle.quads.proofs.merge_triangle_pairs.Goals as goal

-- few enough for a word
few : (i : Input) (n : ℕ) → Sound i → n ≡ count_to i.mesh (triangle_count i.mesh) → n < 4294967296
few i n s e = omega (arith, count_le i.mesh (triangle_count i.mesh), s.mesh.edges)

four : (n m k : ℕ) → n ≡ m → n ≤ k / 4 → 4 * m ≤ k
four n m k e h = omega arith

pub count_quads-count-requires : goal.count_quads-count-requires
count_quads-count-requires c = (gate_sound _ (sym c.judge.ensures ∙ c.in_ok-judge.was)).mesh

pub overflow_cast-result : goal.overflow_cast-result
overflow_cast-result c = omega (arith, few _ _ (gate_sound _ (sym c.judge.ensures ∙ c.in_ok-judge.was)) c.count_quads-count.ensures)

pub returns-then-quads-count : goal.returns-then-quads-count
returns-then-quads-count c = short _ _ _ c.judge.ensures _ c.in_ok-judge.was (c.count_quads-count.ensures ∙ merged_count _) c.if-quads-count.true

pub write_quads-requires : goal.write_quads-requires
write_quads-requires c = (gate_sound _ (sym c.judge.ensures ∙ c.in_ok-judge.was), four _ _ _ (c.count_quads-count.ensures ∙ merged_count _) c.if-quads-count.false)

pub overflow_cast-result-2 : goal.overflow_cast-result-2
overflow_cast-result-2 c = omega (arith, few _ _ (gate_sound _ (sym c.judge.ensures ∙ c.in_ok-judge.was)) c.count_quads-count.ensures)

pub returns : goal.returns
returns c = done _ _ _ c.judge.ensures _ _ c.in_ok-judge.was (c.count_quads-count.ensures ∙ merged_count _) c.if-quads-count.false c.write_quads.ensures.1
