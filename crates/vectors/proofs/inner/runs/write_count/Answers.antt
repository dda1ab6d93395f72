-- `write_count` writes its line.
use Rattle.std.proofs.KnownBytes.{Appends-trans}
use Rattle.vectors.specs.inner.Lines.{count_line}
use Rattle.vectors.proofs.Lines.{count_length}
use Rattle.vectors.proofs.inner.runs.write_count.Goals as goal

pub returns : goal.returns
unfolding count_line
returns g c = record {
  len = count_length _ c.in_ok-places.ensures.len.0;
  bytes = Appends-trans _ _ _ _ _ c.in_ok-write_all.ensures.bytes (Appends-trans _ _ _ _ _ c.in_ok-places.ensures.bytes c.in_ok-write_all-2.ensures.bytes);
}
