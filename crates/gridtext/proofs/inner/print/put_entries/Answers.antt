-- `put_entries` prints the entries one by one. The invariant: the lines of the first i stand in the list.
use mathlib.Core.Path.{◌≡◌}
use native.Mathlib.Omega.{arith}
use Rattle.gridtext.proofs.Joining.{joined_none, joined_more, joined_room, entry_piece, entries_joined}
use Rattle.gridtext.proofs.inner.print.put_entries.Goals as goal

pub loop-i-init : goal.loop-i-init
loop-i-init c = joined_none (entry_piece c.args.entries.now c.args.before) c.args.out.now c.args.at (omega (arith, c.requires.1))

pub put_entry-next-requires : goal.put_entry-next-requires
put_entry-next-requires c =
    let a = c.args in
    let l = c.loop-i.invariant in
    (omega (arith, c.requires.0), joined_room (entry_piece a.entries.now a.before) a.count l c.loop-i-test.true (rw entries_joined c.requires.1))

pub loop-i-preserved : goal.loop-i-preserved
loop-i-preserved c = joined_more (entry_piece c.args.entries.now c.args.before) c.loop-i.invariant c.put_entry-next.ensures

pub returns : goal.returns
returns c =
    let e : c.loop-i.i ≡ c.args.count = omega arith in
    rw (e, entries_joined) at c.loop-i.invariant
