use Rattle.sink.specs.Sink.{put, close}
use Rattle.orders.proofs.Growing.{behind_then}
use Rattle.dot.proofs.dot.send_end.Goals as goal

pub returns-in_err-from_below-2-clause-behind : goal.returns-in_err-from_below-2-clause-behind
returns-in_err-from_below-2-clause-behind g c = behind_then _ _ (put 13) _ _ _ c.put-2.ensures.changed c.put.ensures.behind c.put-2.ensures.behind

pub returns-in_err-from_below-3-clause-behind : goal.returns-in_err-from_below-3-clause-behind
returns-in_err-from_below-3-clause-behind g c = behind_then _ _ (put 10) _ _ _ c.put-3.ensures.changed (behind_then _ _ (put 13) _ _ _ c.put-2.ensures.changed c.put.ensures.behind c.put-2.ensures.behind) c.put-3.ensures.behind

pub returns-in_err-from_below-4-clause-behind : goal.returns-in_err-from_below-4-clause-behind
returns-in_err-from_below-4-clause-behind g c = behind_then _ _ close _ _ _ c.close.ensures.changed (behind_then _ _ (put 10) _ _ _ c.put-3.ensures.changed (behind_then _ _ (put 13) _ _ _ c.put-2.ensures.changed c.put.ensures.behind c.put-2.ensures.behind) c.put-3.ensures.behind) c.close.ensures.behind

pub returns-clause-behind : goal.returns-clause-behind
returns-clause-behind g c = behind_then _ _ close _ _ _ c.close.ensures.changed (behind_then _ _ (put 10) _ _ _ c.put-3.ensures.changed (behind_then _ _ (put 13) _ _ _ c.put-2.ensures.changed c.put.ensures.behind c.put-2.ensures.behind) c.put-3.ensures.behind) c.close.ensures.behind
