-- `pattern_of_root`: the power of two is split evenly between the exponent of the answer and the number whose root is taken.
use Rattle.measure.proofs.Moves.{halved}
use Rattle.measure.proofs.NearPattern.{near_pattern}
use Rattle.measure.specs.inner.RootSteps.{RootBits}
use native.Mathlib.Omega.{arith}
use Prim.Native.Nat.{ℕ, ◌+◌, ◌-◌, ◌*◌, ◌/◌}
use mathlib.Core.Path.{◌≡◌, subst}
use Rattle.measure.proofs.root_pattern.pattern_of_root.Goals as goal

pub returns-then-f-eq1 : goal.returns-then-f-eq1
returns-then-f-eq1 c =
    let z = c.args.z in
    let f = c.args.f in
    let k = (f - 15) / 2 in
    let r = c.nearest_root.result in
    let e : f ≡ 15 + (k + k) = omega arith in
    subst (λ (v : ℕ). RootBits (4 * v) (k * 8388608 + r)) (halved 15 z k f e)
    (near_pattern (z * 32768) k r (omega arith) (omega arith) (omega arith) c.nearest_root.ensures)

pub returns-else-f-eq1 : goal.returns-else-f-eq1
returns-else-f-eq1 c =
    let z = c.args.z in
    let f = c.args.f in
    let k = (f - 16) / 2 in
    let r = c.nearest_root-else-f-eq1.result in
    let e : f ≡ 16 + (k + k) = omega arith in
    subst (λ (v : ℕ). RootBits (4 * v) (k * 8388608 + r)) (halved 16 z k f e)
    (near_pattern (z * 65536) k r (omega arith) (omega arith) (omega arith) c.nearest_root-else-f-eq1.ensures)
