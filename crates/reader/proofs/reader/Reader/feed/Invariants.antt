use Rattle.std.proofs.Common.{drop}
use Rattle.reader.specs.Readers.{reading_of}
use Rattle.reader.proofs.Feeding.{Rest}
use Rattle.reader.proofs.reader.Reader.feed.Given as goal

abbrev pub invariant-loop-i : goal.invariant-loop-i
invariant-loop-i g l =
    Rest (reading_of g.U.UndoStage.means g.T.ParagraphTaker.means l.initial.self) (reading_of g.U.UndoStage.means g.T.ParagraphTaker.means l.self) l.i l.chunk (drop l.i l.chunk)
    × g.T.ParagraphTaker.keeps l.initial.self.delivery.taker l.self.delivery.taker
