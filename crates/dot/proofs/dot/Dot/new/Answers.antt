use Rattle.std.proofs.Common.{refl}
use Rattle.dot.proofs.ByLines.{dot_stuffs}
use Rattle.dot.proofs.dot.Dot.new.Goals as goal

pub returns : goal.returns
returns g c = record { made = refl; stuffs = dot_stuffs (g.S.ByteSink.means c.args.below) }
