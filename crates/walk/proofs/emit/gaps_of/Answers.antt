-- `gaps_of`: `holes` is the sum of the gaps after the first k - 1 records, each of at most 32,768 places.
use mathlib.Core.Path.{◌≡◌, refl, sym, ap₂, ◌∙◌}
use Prim.Native.Nat.{suc, ◌+◌, ◌-◌}
use native.Mathlib.Omega.{arith}
use Rattle.cells.specs.Sums.{total}
use Rattle.walk.proofs.RowWords.{holes_between}
use Rattle.walk.proofs.emit.gaps_of.Goals as goal

pub loop-k-init : goal.loop-k-init
unfolding total
loop-k-init c = (omega arith, refl, omega arith)

pub gap_after-holes-requires : goal.gap_after-holes-requires
gap_after-holes-requires c = record { ascending = c.requires.ascending; y_value = (c.requires.y_value.0, omega arith, c.requires.y_value.1); noted = c.requires.noted }

pub loop-k-preserved : goal.loop-k-preserved
unfolding total
loop-k-preserved c =
    let l = c.loop-k in
    let next : l.k + 1 - 1 ≡ suc (l.k - 1) = omega arith in
    (omega arith, rw next (ap₂ ◌+◌ l.invariant.1 c.gap_after-holes.ensures.0), omega (arith, c.gap_after-holes.ensures.1, l.invariant.2))

pub returns : goal.returns
returns c =
    let l = c.loop-k in
    let all : l.k - 1 ≡ c.args.run.count - 1 = omega arith in
    rw all at l.invariant.1 ∙ sym (holes_between c.args.work.now c.args.run c.requires.ascending)
