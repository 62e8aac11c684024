use Rattle.std.proofs.Common.{ℕ, false, List, get_or, subst}
use Rattle.std.proofs.lemmas.List.{drop_more}
use Rattle.orders.proofs.Answering.{answer_ok}
use Rattle.orders.proofs.Feeding.{Rest, accepted}
use Rattle.orders.proofs.Sending.{ran_reach}
use Rattle.taker.specs.Paragraph.{texts, text_orders}
use Rattle.taker.proofs.Going.{texts_going}
use Rattle.taker.proofs.Through.{through_more}
use Rattle.taker.proofs.feed.feed.Goals as goal

pub returns-in-Err-clause-whole : goal.returns-in-Err-clause-whole
returns-in-Err-clause-whole g c = ran_reach (g.T.ParagraphTaker.means c.args.taker.now) (text_orders c.args.chunk.now) false (texts_going c.args.chunk.now)

pub loop-i-preserved : goal.loop-i-preserved
loop-i-preserved g c =
    let xs = c.args.chunk.now in
    let i = c.loop-i.i in
    let m = g.T.ParagraphTaker.means c.args.taker.now in
    let n = g.T.ParagraphTaker.means c.loop-i.taker in
    let b = get_or xs i 0 in
    let h = subst (λ (r : List ℕ). Rest texts m n i xs r) (drop_more xs i 0 c.loop-i-test.true) c.loop-i.invariant.0 in
    let v = answer_ok tt _ _ c.in_default.ensures.answered in (
      rw c.put.ensures.changed (accepted texts m n i xs b _ h v),
      g.T.ParagraphTaker.chained c.args.taker.now c.loop-i.taker _ c.loop-i.invariant.1 c.put.ensures.kept,
      through_more m xs i n _ c.loop-i.invariant.2 c.loop-i-test.true v c.put.ensures.changed (g.T.ParagraphTaker.lawful c.put.new.self),
    )

pub returns-clause-whole : goal.returns-clause-whole
returns-clause-whole g c = ran_reach (g.T.ParagraphTaker.means c.args.taker.now) (text_orders c.args.chunk.now) false (texts_going c.args.chunk.now)
