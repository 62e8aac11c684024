use Rattle.history.proofs.Stating.{as_stated}
use Rattle.history.proofs.histories_as_stated.Goals as goal

pub returns : goal.returns
returns g c = as_stated (g.T.ParagraphTaker.means c.args.taker.now)
