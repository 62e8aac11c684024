use Rattle.std.proofs.Common.{◌≡◌, ℕ, List, ◌++◌}
use Rattle.std.specs.Slice.Iter.{chunks_rest}
use Rattle.fault.specs.Answers.{via}
use Rattle.fault.specs.Kinds.{layer_fault}
use Rattle.reader.specs.Readers.{reading_of}
use Rattle.exchange.specs.ReadSo.{FedSo}
use Rattle.exchange.proofs.reading_back.feed_wire.Given as goal

abbrev pub invariant-loop-piece : goal.invariant-loop-piece
invariant-loop-piece g l =
    (goal.iterator-loop-piece g).can_next l.piece-iterator
    × (goal.iterator-loop-piece g).is_finite l.piece-iterator
    × ((done : List ℕ) × (done ++ chunks_rest l.piece-iterator ≡ l.wire)
    × FedSo (reading_of g.U.UndoStage.means g.T.ParagraphTaker.means l.initial.reader) (reading_of g.U.UndoStage.means g.T.ParagraphTaker.means l.reader) done (via layer_fault l.first))
    × g.T.ParagraphTaker.keeps l.initial.reader.delivery.taker l.reader.delivery.taker
