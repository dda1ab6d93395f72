-- `load` writes a file's heading before it opens the file.
use Rattle.std.proofs.Common.{Result, Ok, Err, OnOk}
use Rattle.std.proofs.KnownBytes.{Appends-trans}
use Rattle.vectors.specs.inner.Lines.{heading}
use Rattle.vectors.proofs.inner.load.Goals as goal

whatever : {T E P : Type 0} (r : Result T E) → P → OnOk r P
whatever (Ok x) p = p
whatever (Err e) p = tt

pub returns-clause-bytes : goal.returns-clause-bytes
unfolding heading
returns-clause-bytes g c = whatever _ (Appends-trans _ _ _ _ _ c.in_ok-write_all.ensures.bytes (Appends-trans _ _ _ _ _ c.in_ok-write_all-2.ensures.bytes c.in_ok-write_all-3.ensures.bytes))
