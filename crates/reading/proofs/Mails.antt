-- The worked examples, by computation.
use Rattle.std.proofs.Common.{refl}
use Rattle.reading.specs.Mails.{Mails}

pub mails : Mails
mails = record {
  continued = refl;
  deeper = refl;
  signature = refl;
  stuffing = refl;
  still_open = refl;
  inside = refl;
  too_deep = refl;
  first_byte = refl;
  empty_line = refl;
}
