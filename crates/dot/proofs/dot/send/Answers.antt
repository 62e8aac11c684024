use Rattle.sink.specs.Sink.{put}
use Rattle.orders.proofs.Growing.{behind_then}
use Rattle.dot.proofs.dot.send.Goals as goal

pub returns-in_err-from_below-3-clause-behind : goal.returns-in_err-from_below-3-clause-behind
returns-in_err-from_below-3-clause-behind g c = behind_then _ _ (put c.args.b) _ _ _ c.put-3.ensures.changed c.put-2.ensures.behind c.put-3.ensures.behind

pub returns-clause-behind : goal.returns-clause-behind
returns-clause-behind g c = behind_then _ _ (put c.args.b) _ _ _ c.put-3.ensures.changed c.put-2.ensures.behind c.put-3.ensures.behind
