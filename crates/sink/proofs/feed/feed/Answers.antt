use Rattle.std.proofs.Common.{ℕ, false, List, get_or, subst}
use Rattle.std.proofs.lemmas.List.{drop_more}
use Rattle.orders.proofs.Answering.{answer_ok}
use Rattle.orders.proofs.Feeding.{Rest, accepted}
use Rattle.orders.proofs.Growing.{behind_then}
use Rattle.orders.proofs.Sending.{ran_reach}
use Rattle.sink.specs.Sink.{put, down}
use Rattle.sink.proofs.Going.{down_going}
use Rattle.sink.proofs.feed.feed.Goals as goal

pub returns-in-Err-clause-whole : goal.returns-in-Err-clause-whole
returns-in-Err-clause-whole g c = ran_reach (g.S.ByteSink.means c.args.sink.now) (down c.args.chunk.now false) false (down_going c.args.chunk.now false)

pub returns-in-Err-clause-behind : goal.returns-in-Err-clause-behind
returns-in-Err-clause-behind g c = behind_then (g.S.ByteSink.means c.loop-i.sink) _ (put (get_or c.args.chunk.now c.loop-i.i 0)) _ _ _ c.put.ensures.changed c.loop-i.invariant.1 c.put.ensures.behind

pub loop-i-preserved : goal.loop-i-preserved
loop-i-preserved g c =
    let xs = c.args.chunk.now in
    let i = c.loop-i.i in
    let m = g.S.ByteSink.means c.args.sink.now in
    let n = g.S.ByteSink.means c.loop-i.sink in
    let b = get_or xs i 0 in
    let h = subst (λ (r : List ℕ). Rest put m n i xs r) (drop_more xs i 0 c.loop-i-test.true) c.loop-i.invariant.0 in
    let v = answer_ok tt _ _ c.in_default.ensures.answered in (
      rw c.put.ensures.changed (accepted put m n i xs b _ h v),
      behind_then n _ (put b) _ _ _ c.put.ensures.changed c.loop-i.invariant.1 c.put.ensures.behind,
    )

pub returns-clause-whole : goal.returns-clause-whole
returns-clause-whole g c = ran_reach (g.S.ByteSink.means c.args.sink.now) (down c.args.chunk.now false) false (down_going c.args.chunk.now false)
