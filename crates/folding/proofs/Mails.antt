-- The worked examples, by computation.
use Rattle.std.proofs.Common.{refl}
use Rattle.folding.specs.WireLine.{width}
use Rattle.folding.specs.Folding.{from_start, lines_in, next, greatest, least}
use Rattle.folding.specs.Mails.{Mails}

pub mails : Mails
unfolding from_start lines_in next greatest least width
mails = record {
  folded = refl;
  quoted = refl;
  signature = refl;
  dashes = refl;
  unbroken = refl;
  unbroken_width = refl;
  stuffed = refl;
  stuffed_quoted = refl;
}
