use Rattle.std.proofs.Common.{◌≡◌, ℕ, List, ◌++◌}
use Rattle.std.specs.Slice.Iter.{chunks_rest}
use Rattle.fault.specs.Answers.{via}
use Rattle.taker.specs.Paragraph.{text_orders}
use Rattle.exchange.specs.Given.{Given}
use Rattle.exchange.proofs.sending.feed_pieces.Given as goal

abbrev pub invariant-loop-piece : goal.invariant-loop-piece
invariant-loop-piece g l =
    (goal.iterator-loop-piece g).can_next l.piece-iterator
    × (goal.iterator-loop-piece g).is_finite l.piece-iterator
    × ((done : List ℕ) × (done ++ chunks_rest l.piece-iterator ≡ l.text)
    × Given (g.T.ParagraphTaker.means l.initial.taker) (g.T.ParagraphTaker.means l.taker) (text_orders done) (via g.T.TakerFault.Refusal.means l.first))
    × g.T.ParagraphTaker.keeps l.initial.taker l.taker
