-- `write_refusal` writes `refusal_line`.
use Rattle.std.proofs.Common.{length, ap, ◌∙◌}
use Rattle.std.proofs.KnownBytes.{Appends-trans}
use Rattle.vectors.specs.Hex.{refusal_line}
use Rattle.vectors.proofs.Lines.{refusal_length}
use Rattle.vectors.proofs.inner.runs.write_refusal.Goals as goal

pub returns : goal.returns
unfolding refusal_line
returns g c =
    let front = c.refusal_front-front.ensures in
    record {
      len = refusal_length _ (front.1 ∙ ap length front.0) c.in_ok-beside.ensures.len.0;
      bytes = Appends-trans _ _ _ _ _ (rw front.0 at c.in_ok-write_all.ensures.bytes) (Appends-trans _ _ _ _ _ c.in_ok-beside.ensures.bytes c.in_ok-write_all-2.ensures.bytes);
    }
