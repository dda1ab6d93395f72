-- `rows_around`: `count` is how many of the rows before `row` have records on both sides.
use mathlib.Core.Path.{◌≡◌, refl, sym, ap, ap₂, ◌∙◌}
use mathlib.Core.Bool.{cond}
use Prim.Native.Nat.{ℕ, suc, ◌+◌, ◌-◌}
use native.Mathlib.Omega.{arith}
use lib.ListN.{get_or}
use Rattle.cells.specs.Sums.{total, how_many}
use Rattle.walk.specs.inner.Rows.{tells_around}
use Rattle.walk.proofs.rows.rows_around.Goals as goal

pub loop-row-init : goal.loop-row-init
unfolding total
loop-row-init c =
    let none : c.args.from - c.args.from ≡ 0 = omega arith in
    (omega arith, rw none refl, omega arith)

pub loop-row-preserved : goal.loop-row-preserved
unfolding total
loop-row-preserved c =
    let s = c.args in
    let l = c.loop-row in
    let d : ℕ = l.row - s.from in
    let one_more : l.row + 1 - s.from ≡ suc d = omega arith in
    let here : s.from + d ≡ l.row = omega arith in (
      omega arith,
      ap₂ ◌+◌ l.invariant.1 (c.around-count.ensures.0 ∙ ap (λ (p : ℕ). cond (tells_around (get_or s.work.now p 0) s.x) 1 0) (sym here))
          ∙ ap (how_many (λ (j : ℕ). tells_around (get_or s.work.now (s.from + j) 0) s.x)) (sym one_more),
      omega (arith, c.around-count.ensures.1),
    )

pub returns : goal.returns
returns c =
    let s = c.args in
    let l = c.loop-row in
    let all : l.row - s.from ≡ s.to - s.from = omega arith in
    (rw all at l.invariant.1, omega arith)
