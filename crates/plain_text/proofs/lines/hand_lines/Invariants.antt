use Rattle.plain_text.specs.Paragraphs.{paragraphs_of}
use Rattle.plain_text.proofs.Handling.{Through}
use Rattle.plain_text.proofs.lines.hand_lines.Given as goal

abbrev pub invariant-loop-line : goal.invariant-loop-line
invariant-loop-line g l =
    Through (g.T.ParagraphTaker.means l.initial.taker) (g.T.ParagraphTaker.means l.taker) (paragraphs_of l.fn.depths l.text) (paragraphs_of l.line-iterator.depths l.line-iterator.text.now) l.paragraphs l.lines
    × g.T.ParagraphTaker.keeps l.initial.taker l.taker
