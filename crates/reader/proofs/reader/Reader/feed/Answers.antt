use Rattle.std.proofs.Common.{ℕ, List, get_or, ◌∙◌, subst}
use Rattle.std.proofs.lemmas.List.{drop_more}
use Rattle.orders.proofs.Answering.{answer_err, answer_ok}
use Rattle.reader.specs.Readers.{reading_of}
use Rattle.reader.proofs.Whole.{whole}
use Rattle.reader.proofs.Feeding.{Rest, refused_at, accepted_at}
use Rattle.reader.proofs.reader.Reader.feed.Goals as goal

pub returns-in-Err : goal.returns-in-Err
returns-in-Err g c =
    let xs = c.args.chunk.now in
    let i = c.loop-i.i in
    let r = reading_of g.U.UndoStage.means g.T.ParagraphTaker.means c.args.self.now in
    let n = reading_of g.U.UndoStage.means g.T.ParagraphTaker.means c.loop-i.self in
    let h = subst (λ (l : List ℕ). Rest r n i xs l) (drop_more xs i 0 c.loop-i-test.true) c.loop-i.invariant.0 in
    let b = c.in-Err.ensures in
    let e = refused_at r n i xs (get_or xs i 0) _ h _ (answer_err tt _ _ b.answered) in
    record {
      taken = e.0;
      fault = e.1;
      changed = b.changed ∙ e.2;
      whole = whole r xs;
      kept = g.T.ParagraphTaker.chained c.args.self.now.delivery.taker c.loop-i.self.delivery.taker _ c.loop-i.invariant.1 b.kept;
    }

pub loop-i-preserved : goal.loop-i-preserved
loop-i-preserved g c =
    let xs = c.args.chunk.now in
    let i = c.loop-i.i in
    let r = reading_of g.U.UndoStage.means g.T.ParagraphTaker.means c.args.self.now in
    let n = reading_of g.U.UndoStage.means g.T.ParagraphTaker.means c.loop-i.self in
    let h = subst (λ (l : List ℕ). Rest r n i xs l) (drop_more xs i 0 c.loop-i-test.true) c.loop-i.invariant.0 in
    let b = c.in_default.ensures in (
      accepted_at r n i xs (get_or xs i 0) _ h _ (answer_ok tt _ _ b.answered) b.changed,
      g.T.ParagraphTaker.chained c.args.self.now.delivery.taker c.loop-i.self.delivery.taker _ c.loop-i.invariant.1 b.kept,
    )

pub returns-clause-whole : goal.returns-clause-whole
returns-clause-whole g c = whole _ _
