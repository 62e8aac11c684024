use Rattle.history.proofs.Chopping.{chopping_harmless}
use Rattle.history.proofs.chopping_is_harmless.Goals as goal

pub returns : goal.returns
returns g c = chopping_harmless (g.T.ParagraphTaker.means c.args.one.now) (g.T.ParagraphTaker.means c.args.other.now)
