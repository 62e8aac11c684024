use Rattle.std.proofs.Common.{◌++◌}
use Rattle.fault.specs.Answers.{told}
use Rattle.fault.specs.Kinds.{layer_fault}
use Rattle.reader.specs.Readers.{reading_of}
use Rattle.conversation.specs.Reads.{finish_orders, finishes}
use Rattle.exchange.proofs.reading_back.read_mail.Goals as goal

pub returns : goal.returns
returns g c =
    let read = reading_of g.U.UndoStage.means g.T.ParagraphTaker.means in
    let a = c.args.reader.now in
    let b = c.feed_wire-refused.new.reader in
    let d = c.finish-finish.new.self in
    let h = c.feed_wire-refused.ensures in
    let z = told layer_fault c.finish-finish.result in
    record {
      read = record {
        steps = h.fed.steps;
        handed = h.fed.handed ++ finish_orders (read b);
        only = h.fed.only;
        are = h.fed.are;
        first = h.fed.first;
        reads = finishes h.fed.reads z c.finish-finish.ensures.answered c.finish-finish.ensures.changed;
      };
      kept = g.T.ParagraphTaker.chained a.delivery.taker b.delivery.taker d.delivery.taker h.kept c.finish-finish.ensures.kept;
    }
