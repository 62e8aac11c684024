use Rattle.std.proofs.Common.{drop}
use Rattle.orders.proofs.Feeding.{Rest}
use Rattle.taker.specs.Paragraph.{texts}
use Rattle.taker.proofs.Through.{Through}
use Rattle.taker.proofs.feed.feed.Given as goal

abbrev pub invariant-loop-i : goal.invariant-loop-i
invariant-loop-i g l =
    Rest texts (g.T.ParagraphTaker.means l.initial.taker) (g.T.ParagraphTaker.means l.taker) l.i l.chunk (drop l.i l.chunk)
    × g.T.ParagraphTaker.keeps l.initial.taker l.taker
    × Through (g.T.ParagraphTaker.means l.initial.taker) l.chunk l.i (g.T.ParagraphTaker.means l.taker)
