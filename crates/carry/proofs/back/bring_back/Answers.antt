use Rattle.orders.proofs.Growing.{behind_then}
use Rattle.sink.specs.Sink.{close}
use Rattle.carry.proofs.back.bring_back.Goals as goal

pub returns-clause-behind : goal.returns-clause-behind
returns-clause-behind g c = behind_then _ _ close _ _ _ c.close.ensures.changed c.pass_all.ensures.behind c.close.ensures.behind
