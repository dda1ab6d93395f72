-- `write_counts` writes its line.
use Rattle.std.proofs.KnownBytes.{Appends-trans}
use Rattle.vectors.specs.inner.Lines.{counts_line}
use Rattle.vectors.proofs.Lines.{counts_length}
use Rattle.vectors.proofs.inner.runs.write_counts.Goals as goal

pub returns : goal.returns
unfolding counts_line
returns g c = record {
  len = counts_length _ _ c.in_ok-places.ensures.len.0 c.in_ok-more.ensures.len.0;
  bytes =
      Appends-trans _ _ _ _ _ c.in_ok-write_all.ensures.bytes
      (Appends-trans _ _ _ _ _ c.in_ok-places.ensures.bytes
      (Appends-trans _ _ _ _ _ c.in_ok-write_all-2.ensures.bytes
      (Appends-trans _ _ _ _ _ c.in_ok-more.ensures.bytes c.in_ok-write_all-3.ensures.bytes)));
}
