-- `put_bytes` puts the bytes in the place of as many.
use mathlib.Core.Path.{refl, ◌∙◌}
use native.Mathlib.Omega.{arith}
use lib.ListN.{length}
use Rattle.std.proofs.lemmas.List.Edits.{paste_all}
use Rattle.std.proofs.lemmas.Slice.{put_mid-paste}
use Rattle.gridtext.proofs.Printing.{printed_between}
use Rattle.gridtext.proofs.inner.print.put_bytes.Goals as goal

pub returns : goal.returns
returns c =
    let a = c.args in
    let t = a.text.now in
    let n = length t in
    printed_between _ _ _ _ _ c.requires refl
    (put_mid-paste a.at _ a.out.now _ t n c.copy_from_slice.ensures.after (omega arith) refl ∙ paste_all a.out.now a.at t n refl)
