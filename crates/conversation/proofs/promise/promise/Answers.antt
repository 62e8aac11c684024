use Rattle.composer.specs.Composers.{means_of}
use Rattle.reader.specs.Readers.{reading_of}
use Rattle.conversation.proofs.Promising.{holds}
use Rattle.conversation.proofs.promise.promise.Goals as goal

pub returns : goal.returns
returns g c a b w h k same p q =
    let mx = g.X.ByteSink.means in
    let my = g.Y.ByteSink.means in
    let one = reading_of g.U.UndoStage.means g.T.ParagraphTaker.means c.args.one.now in
    let other = reading_of g.V.UndoStage.means g.W.ParagraphTaker.means c.args.other.now in
    holds w (mx a) (my b) (g.X.ByteSink.lawful a) (g.Y.ByteSink.lawful b) same h k (means_of mx c.args.x.now) (means_of my c.args.y.now) p q
    g.U.UndoStage.means g.T.ParagraphTaker.means g.T.ParagraphTaker.lawful one
    g.V.UndoStage.means g.W.ParagraphTaker.means g.W.ParagraphTaker.lawful other
