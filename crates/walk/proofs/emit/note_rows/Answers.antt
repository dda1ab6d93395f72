-- `note_rows`: the rows' words are those of the first k records.
use mathlib.Core.Path.{◌≡◌, sym, ap₂, ◌∙◌, subst}
use mathlib.Core.List.{List}
use Prim.Native.Nat.{ℕ, ◌+◌, ◌-◌}
use native.Mathlib.Omega.{arith}
use lib.ListN.{get_or, set}
use Rattle.walk.specs.inner.Emitted.{x_in, y_in, least_y}
use Rattle.walk.specs.inner.Rows.{noted_of, Noted}
use Rattle.walk.proofs.Extent.{y_low, row_small}
use Rattle.walk.proofs.Staying.{x_stays, y_stays}
use Rattle.walk.proofs.RowWords.{one_noted}
use Rattle.walk.proofs.emit.note_rows.Goals as goal

pub loop-k-init : goal.loop-k-init
loop-k-init c = c.requires.noted

pub y_of-requires : goal.y_of-requires
y_of-requires c = omega (arith, c.requires.ascending.room, c.loop-k.invariant.kept.len)

pub shifted-row-requires : goal.shifted-row-requires
shifted-row-requires c =
    let l = c.loop-k in
    let e = y_stays l.invariant.kept c.args.run c.requires.y_value.1 l.k in
    let h = y_low c.args.work.now c.args.run c.requires.ascending l.k (omega arith) in
    (omega (arith, c.y_of.ensures, c.requires.y_value.0), omega (arith, c.y_of.ensures))

pub x_of-requires : goal.x_of-requires
x_of-requires c = omega (arith, c.requires.ascending.room, c.loop-k.invariant.kept.len)

pub note-requires : goal.note-requires
note-requires c =
    let l = c.loop-k in
    let e = y_stays l.invariant.kept c.args.run c.requires.y_value.1 l.k in
    let f = x_stays l.invariant.kept c.args.run c.requires.y_value.1 l.k in
    let row = row_small c.args.work.now c.args.run c.requires.ascending l.k (omega arith) in (
      omega (arith, c.shifted-row.ensures, c.y_of.ensures, c.requires.y_value, c.requires.ascending.room, l.invariant.kept.len),
      omega (arith, c.x_of.ensures, c.requires.ascending.keys l.k (omega arith)),
    )

pub loop-k-preserved : goal.loop-k-preserved
loop-k-preserved c =
    let l = c.loop-k in
    let e = y_stays l.invariant.kept c.args.run c.requires.y_value.1 l.k in
    let f = x_stays l.invariant.kept c.args.run c.requires.y_value.1 l.k in
    let row : c.shifted-row.result ≡ y_in c.args.work.now c.args.run.at l.k - least_y c.args.work.now c.args.run = omega (arith, c.shifted-row.ensures, c.y_of.ensures, c.requires.y_value.0) in
    let x : c.x_of.result ≡ x_in c.args.work.now c.args.run.at l.k = c.x_of.ensures ∙ f in
    subst (λ (w : List ℕ). Noted c.args.work.now w c.args.run (l.k + 1))
    (sym (c.note.ensures ∙ ap₂ (λ (r x : ℕ). set l.work r (noted_of (get_or l.work r 0) x)) row x))
    (one_noted c.args.work.now c.args.run c.requires.ascending l.k (omega arith) l.work (omega (arith, c.requires.y_value.1, c.requires.ascending.room)) l.invariant)

pub shape_of-work : goal.shape_of-work
shape_of-work c = c.loop-k.invariant.kept.len

pub returns : goal.returns
returns c =
    let l = c.loop-k in
    let all : l.k ≡ c.args.run.count = omega arith in
    rw all at l.invariant
