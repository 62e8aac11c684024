use Rattle.std.proofs.Common.{refl}
use Rattle.orders.specs.Steps.{after, verdict}
use Rattle.folding.specs.WireLine.{width}
use Rattle.folding.specs.Folding.{from_start, lines_in, next, greatest, least}
use Rattle.folding.proofs.Mails.{mails}
use Rattle.reading.proofs.Mails.{mails as readings}
use Rattle.examples.proofs.mails_stand.Goals as goal

pub returns : goal.returns
unfolding after verdict from_start lines_in next greatest least width
returns c = record { folded = mails; read = readings; dot_doubled = refl; dot_nothing = refl; finished = refl; unfinished = refl }
