-- `write_decimal` writes `decimal_of`: `io::decimal` gives the fewest digits.
use Rattle.std.proofs.Common.{arith, ◌∙◌, sym}
use Rattle.digits.proofs.Places.{decimal_places, decimal_digits}
use Rattle.vectors.proofs.Lines.{few_places}
use Rattle.vectors.proofs.inner.runs.write_decimal.Goals as goal

pub returns : goal.returns
returns g c =
    let fewest = c.decimal-places.ensures.len in
    record {
      len = (decimal_places _ _ fewest, few_places _ _ (omega (arith, c.ranges.n)) fewest);
      bytes = rw (c.decimal-places.ensures.digits ∙ sym (decimal_digits _ _ fewest)) at c.in_ok-write_all.ensures.bytes;
    }
