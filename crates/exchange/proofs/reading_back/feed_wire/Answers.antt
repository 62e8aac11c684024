use Rattle.std.proofs.Common.{ℕ, List, [], ◌∷◌, ◌++◌, Option, sym, refl, ap, ◌∙◌, rules}
use Rattle.fault.specs.declared.fault.Fault.{Fault}
use Rattle.fault.specs.Answers.{via, or_else}
use Rattle.fault.specs.Kinds.{layer_fault}
use Rattle.reader.specs.Readers.{reading_of}
use Rattle.conversation.specs.Reads.{fed, chunk_orders, begun, feeds}
use Rattle.conversation.specs.Reads as reads
use Rattle.exchange.proofs.Pieces.{piece_more, via_first}
use Rattle.exchange.proofs.reading_back.feed_wire.Goals as goal

pub loop-piece-init : goal.loop-piece-init
loop-piece-init g c = (
  search rules,
  tt,
  ([], search rules, record { steps = []; handed = []; only = reads.none; are = refl; first = refl; reads = begun refl }),
  g.T.ParagraphTaker.same c.args.reader.now.delivery.taker,
)

pub loop-piece-preserved : goal.loop-piece-preserved
loop-piece-preserved g c =
    let read = reading_of g.U.UndoStage.means g.T.ParagraphTaker.means in
    let a = c.args.reader.now in
    let b = c.loop-piece.reader in
    let d = c.feed-fault.new.self in
    let so_far = c.loop-piece.invariant.2 in
    let done = so_far.0 in
    let piece = c.in-Some.piece.now in
    let h = so_far.2 in
    let f = c.feed-fault.ensures in
    let fault = via layer_fault c.feed-fault.result.1 in (
      search rules,
      tt,
      (
        done ++ piece,
        piece_more done piece _ _ c.args.wire.now c.in-Some.ensures.steps.1.0 so_far.1,
        record {
          steps = fed piece c.feed-fault.result.0 fault ∷ h.steps;
          handed = h.handed ++ chunk_orders (read b) piece;
          only = reads.feed h.only;
          are = ap (λ (l : List ℕ). l ++ piece) h.are;
          first = ap (λ (v : Option Fault). or_else v fault) h.first ∙ sym (via_first layer_fault c.loop-piece.first c.feed-fault.result.1 _ c.or-first.ensures);
          reads = feeds h.reads piece c.feed-fault.result.0 fault f.taken f.fault f.changed;
        },
      ),
      g.T.ParagraphTaker.chained a.delivery.taker b.delivery.taker d.delivery.taker c.loop-piece.invariant.3 f.kept,
    )
