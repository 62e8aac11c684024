use Rattle.std.proofs.Common.{rules}
use Rattle.composer.proofs.Composing.{new_composes}
use Rattle.composer.proofs.composer.Composer.new.Goals as goal

pub returns-clause-composes : goal.returns-clause-composes
returns-clause-composes g c = new_composes c.args.width (g.S.ByteSink.means c.args.below) _ (search rules)
