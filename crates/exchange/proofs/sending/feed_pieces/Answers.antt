use Rattle.std.proofs.Common.{◌≡◌, [], ◌++◌, rules}
use Rattle.fault.specs.Answers.{via, or_else}
use Rattle.taker.specs.Paragraph.{text_orders}
use Rattle.exchange.proofs.Givens.{given_none, given_then, given_fed}
use Rattle.exchange.proofs.Pieces.{texts_append, piece_more, via_first}
use Rattle.exchange.proofs.sending.feed_pieces.Goals as goal

pub loop-piece-init : goal.loop-piece-init
loop-piece-init g c = (search rules, tt, ([], search rules, given_none _), g.T.ParagraphTaker.same c.args.taker.now)

pub loop-piece-preserved : goal.loop-piece-preserved
loop-piece-preserved g c =
    let means = g.T.ParagraphTaker.means in
    let tells = g.T.TakerFault.Refusal.means in
    let a = c.args.taker.now in
    let b = c.loop-piece.taker in
    let d = c.feed-fault.new.taker in
    let so_far = c.loop-piece.invariant.2 in
    let done = so_far.0 in
    let piece = c.in-Some.piece.now in
    let f = c.feed-fault.ensures in
    let one = given_fed (means b) (means d) piece _ _ f.taken f.fault f.changed f.lawful (g.T.ParagraphTaker.lawful d) in
    let both = given_then (means a) (means b) (means d) (text_orders done) (text_orders piece) (via tells c.loop-piece.first) _ so_far.2 one in
    let first : via tells c.or-first.result ≡ or_else (via tells c.loop-piece.first) (via tells c.feed-fault.result.1) = via_first tells c.loop-piece.first c.feed-fault.result.1 _ c.or-first.ensures in (
      search rules,
      tt,
      (
        done ++ piece,
        piece_more done piece _ _ c.args.text.now c.in-Some.ensures.steps.1.0 so_far.1,
        rw (texts_append, first) both,
      ),
      g.T.ParagraphTaker.chained a b d c.loop-piece.invariant.3 f.kept,
    )
