-- `gap_after`: none where the records are of two columns, and else the rows between them.
use mathlib.Core.Path.{◌≡◌, sym, ◌∙◌}
use Prim.Native.Nat.{◌+◌, ◌-◌}
use native.Mathlib.Omega.{arith}
use Rattle.walk.specs.inner.Emitted.{x_in, y_in, least_y}
use Rattle.walk.proofs.Extent.{y_low, row_small}
use Rattle.walk.proofs.RowWords.{no_gap, gap_told}
use Rattle.walk.proofs.emit.gap_after.Goals as goal

pub returns-then-x_of-x : goal.returns-then-x_of-x
returns-then-x_of-x c =
    let z = c.args in
    let first : c.x_of-x.result ≡ x_in z.work.now z.run.at z.k = c.x_of-x.ensures in
    let second : c.x_of.result ≡ x_in z.work.now z.run.at (z.k + 1) = c.x_of.ensures in
    (sym (no_gap z.work.now z.run c.requires.ascending c.requires.noted z.k c.requires.y_value.1 (λ e. c.if-x_of-x.true (second ∙ sym e ∙ sym first))), omega arith)

pub shifted-requires : goal.shifted-requires
shifted-requires c = (omega (arith, c.y_of.ensures, c.requires.y_value.0, y_low c.args.work.now c.args.run c.requires.ascending c.args.k (omega arith)), omega (arith, c.y_of.ensures))

pub shifted-to-requires : goal.shifted-to-requires
shifted-to-requires c = (omega (arith, c.y_of-2.ensures, c.requires.y_value.0, y_low c.args.work.now c.args.run c.requires.ascending (c.args.k + 1) c.requires.y_value.1), omega (arith, c.y_of-2.ensures))

pub rows_around-requires : goal.rows_around-requires
rows_around-requires c =
    let row = row_small c.args.work.now c.args.run c.requires.ascending (c.args.k + 1) c.requires.y_value.1 in
    let to : c.shifted-to.result ≡ y_in c.args.work.now c.args.run.at (c.args.k + 1) - c.args.y = omega (arith, c.shifted-to.ensures, c.y_of-2.ensures) in
    (omega (arith, c.requires.y_value, c.requires.ascending.room), omega arith)

pub returns : goal.returns
returns c =
    let z = c.args in
    let first : c.x_of-x.result ≡ x_in z.work.now z.run.at z.k = c.x_of-x.ensures in
    let second : c.x_of.result ≡ x_in z.work.now z.run.at (z.k + 1) = c.x_of.ensures in
    let from : c.shifted.result ≡ y_in z.work.now z.run.at z.k - least_y z.work.now z.run = omega (arith, c.shifted.ensures, c.y_of.ensures, c.requires.y_value.0) in
    let to : c.shifted-to.result ≡ y_in z.work.now z.run.at (z.k + 1) - least_y z.work.now z.run = omega (arith, c.shifted-to.ensures, c.y_of-2.ensures, c.requires.y_value.0) in (
      rw (from, to, first) at c.rows_around.ensures.0
          ∙ gap_told z.work.now z.run c.requires.ascending c.requires.noted z.k c.requires.y_value.1 (sym first ∙ sym c.if-x_of-x.false ∙ second),
      c.rows_around.ensures.1,
    )
