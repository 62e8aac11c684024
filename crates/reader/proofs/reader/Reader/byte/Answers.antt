use Rattle.std.proofs.Common.{ap, ◌∙◌}
use Rattle.orders.specs.declared.phase.Phase.{Phase}
use Rattle.orders.specs.Phases.{phased, settled}
use Rattle.fault.specs.declared.layer_fault.LayerFault.{LayerFault}
use Rattle.fault.specs.Kinds.{layer_fault}
use Rattle.reader.specs.Reading.{Reading, with_phase}
use Rattle.reader.specs.Readers.{reading_of}
use Rattle.reader.proofs.Settling.{goes_on, byte_settled}
use Rattle.reader.proofs.reader.Reader.byte.Goals as goal

pub returns-clause-changed : goal.returns-clause-changed
returns-clause-changed g c =
    let t = c.take-answer.ensures in
    let a = c.take-answer.result in
    let q = c.take-answer.new.self.phase in
    ap (λ (p : Phase LayerFault). with_phase (reading_of g.U.UndoStage.means g.T.ParagraphTaker.means c.take-answer.new.self) (phased layer_fault p)) c.settle.ensures.left
    ∙ ap (λ (m : Reading g.T.ParagraphTaker.Item). with_phase m (phased layer_fault (settled a q))) t.changed
    ∙ byte_settled (reading_of g.U.UndoStage.means g.T.ParagraphTaker.means c.args.self.now) c.args.b (goes_on _ _ _ _ c.in_ok-going.ensures) layer_fault q a (ap (λ (m : Reading g.T.ParagraphTaker.Item). m.phase) t.changed) t.answered
